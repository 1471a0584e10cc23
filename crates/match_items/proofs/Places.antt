-- Places before and after what is taken, outside UTF.
use Rattle.std.proofs.Common.{◌≡◌, ◌∙◌, ℕ, zero, suc, ◌+◌, ◌-◌, ◌<◌, ◌≤◌, Bool, true, false, List, [], ◌∷◌, Some}
use Rattle.std.proofs.Common.{None, length, take, drop, slice_range, nat_lt, refl, sym, ap, arith, inl, inr}
use Rattle.std.proofs.Common.{length-drop, length-take, get_or, ◌==◌, chars, sum_by}
use Rattle.std.proofs.lemmas.Bool.{cases_Bool, cases_lt, and_parts, ltb-true}
use Rattle.byte_lanes.specs.Newlines.{stands, longest, newline_texts}
use Rattle.pat_tree.specs.declared.nodes.Item.{Item}
use Rattle.std.specs.Char.{len_utf8}
use Rattle.uni_text.specs.Characters.{char_before}
use Rattle.pat_tree.specs.Newlines.{break_kind}
use Rattle.match_items.specs.Scene.{Scene}
use Rattle.match_items.specs.Items.{place_before, after_item, break_len, after_break, characters, width, after_ref}
use Rattle.match_items.proofs.OneItem.{if_taken, after_item-before, after_item-end, told_break}

-- the character before a place that is not the first is the byte before
pub place_before-after : (g : Scene) (p : ℕ) → g.options.utf ≡ false → place_before g (suc p) ≡ p
place_before-after g p bytes =
    let less : suc p - 1 ≡ p = omega arith in
    ap (λ (utf : Bool). (char_before utf g.subject (suc p)).1) bytes ∙ less

pub place_before-less : (g : Scene) (p : ℕ) → g.options.utf ≡ false → place_before g p ≡ p - 1
place_before-less g zero bytes = refl
place_before-less g (suc p) bytes =
    let less : p ≡ suc p - 1 = omega arith in
    place_before-after g p bytes ∙ less

-- what is taken ends at the next place
taken_at : (b : Bool) (p q : ℕ) → if_taken b p ≡ Some q → p ≡ q
taken_at true p q e = cc
taken_at false p q e = cc

-- an item goes one byte forward, within the subject
pub item_forward : (g : Scene) (item : Item) (p q : ℕ) → g.options.utf ≡ false → p ≤ length g.subject
    → after_item g item p ≡ Some q →
    (p < q) × (q ≤ length g.subject) × (place_before g q ≡ p)
item_forward g item p q bytes within e = elim (cases_lt p (length g.subject)) [
  | inl h ↦
      let next : p + 1 ≡ q = taken_at _ (p + 1) q (sym (after_item-before g item p bytes h) ∙ e) in
      let one : p + 1 ≡ suc p = omega arith in
      let before : place_before g q ≡ p = rw (← next, one) (place_before-after g p bytes) in
      (omega arith, omega arith, before)
  | inr h ↦ let none : None ≡ Some q = sym (after_item-end g item p h) ∙ e in cc
]

-- a text that stands ends within the bytes
stands_within : (text bytes : List ℕ) (p : ℕ) → p ≤ length bytes → stands text bytes p ≡ true
    → p + length text ≤ length bytes
unfolding stands
stands_within [] bytes p within e = omega arith
stands_within (b ∷ text) bytes p within e =
    let parts = and_parts (nat_lt p (length bytes)) _ e in
    let later = and_parts (get_or bytes p 0 == b) _ parts.1 in
    let here : p < length bytes = ltb-true p (length bytes) parts.0 in
    let rest : (p + 1) + length text ≤ length bytes = stands_within text bytes (p + 1) (omega arith) later.1 in
    omega (arith, rest)

longest_within : (texts : List (List ℕ)) (bytes : List ℕ) (p : ℕ) → p ≤ length bytes
    → p + longest texts bytes p ≤ length bytes
longest_within [] bytes p within = omega arith
longest_within (text ∷ texts) bytes p within =
    let later = longest_within texts bytes p within in
    elim (cases_Bool (stands text bytes p)) [
      | inl e ↦ let here = stands_within text bytes p within e in rw e (omega (arith, later, here))
      | inr e ↦ rw e (omega (arith, later))
    ]

-- what `\R` takes ends within the subject
pub break_within : (g : Scene) (p q : ℕ) → p ≤ length g.subject → after_break g p ≡ Some q → q ≤ length g.subject
break_within g p q within e =
    let to : p + break_len g p ≡ q = taken_at _ _ q (sym (told_break g p (break_len g p) refl) ∙ e) in
    let bound : p + break_len g p ≤ length g.subject =
    longest_within (newline_texts (break_kind g.options.bsr g.options.utf)) g.subject p within in
    omega (arith, to, bound)

characters_are : (g : Scene) (bytes : List ℕ) → g.options.utf ≡ false → characters g bytes ≡ bytes
characters_are g bytes e = ap (λ (utf : Bool). elim utf as (λ _. List ℕ) [ true ↦ chars bytes | false ↦ bytes ]) e

width_is : (g : Scene) (cs : List ℕ) → g.options.utf ≡ false → width g cs ≡ length cs
width_is g cs e = ap (λ (utf : Bool). elim utf as (λ _. ℕ) [ true ↦ sum_by len_utf8 cs | false ↦ length cs ]) e

-- a text that stands again ends within the subject
pub ref_within : (g : Scene) (from to p q : ℕ) (caseless : Bool) → g.options.utf ≡ false → p ≤ length g.subject
    → after_ref g from to caseless p ≡ Some q → q ≤ length g.subject
ref_within g from to p q caseless bytes within e =
    let ys : List ℕ = characters g (drop p g.subject) in
    let n : ℕ = length (characters g (slice_range g.subject from to)) in
    let end : p + width g (take n ys) ≡ q = taken_at _ _ q e in
    let wide : width g (take n ys) ≡ length (take n ys) = width_is g (take n ys) bytes in
    let short : length (take n ys) ≤ length ys = omega (arith, length-take n ys) in
    let rest : length ys ≡ length (drop p g.subject) = ap length (characters_are g (drop p g.subject) bytes) in
    let left : length (drop p g.subject) ≡ length g.subject - p = length-drop p g.subject in
    omega (arith, end, wide, short, rest, left)
