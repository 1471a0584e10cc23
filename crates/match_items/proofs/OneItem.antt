-- One item at one place.
use Rattle.std.proofs.Common.{Bool, true, false, ◌==◌, ◌≡◌, ℕ, ◌+◌, ◌<◌, ◌≤◌, Option, Some, None, length, get_or}
use Rattle.std.proofs.Common.{nat_lt, refl, sym, ap, ◌∙◌, arith, inl, inr}
use Rattle.std.proofs.lemmas.Bool.{cases_Bool}
use Rattle.std.proofs.lemmas.Bool.Decides.{nat_tests}
use Rattle.pat_tree.specs.declared.nodes.Item.{Item}
use Rattle.pat_tree.specs.declared.nodes.Item.TheVariants.{Char, AnyAll, NotNewline, Class}
use Rattle.uni_text.specs.Characters.{char_at}
use Rattle.match_items.specs.declared.view.Taken.TheVariants as taken
use Rattle.match_items.specs.Scene.{Scene}
use Rattle.match_items.specs.Items.{is_end, next, takes, after_item, item_reaches, is_half_newline, newline_at}
use Rattle.match_items.specs.Items.{break_len, after_break, break_reaches}
use Rattle.match_items.specs.Views.{told}
use Rattle.match_items.proofs.Newlines.{newline_past, break_at_cr, no_newline_at_half}

abbrev pub if_taken : Bool → ℕ → Option ℕ
if_taken b q = elim b as (λ _. Option ℕ) [ true ↦ Some q | false ↦ None ]

pub is_end-before : (g : Scene) (p : ℕ) → p < length g.subject → is_end g p ≡ false
is_end-before g p h = grind (arith, nat_tests)

pub is_end-at : (g : Scene) (p : ℕ) → length g.subject ≤ p → is_end g p ≡ true
is_end-at g p h = grind (arith, nat_tests)

pub next-at : (g : Scene) (p : ℕ) → p < length g.subject → next g p ≡ Some (char_at g.options.utf g.subject p)
next-at g p h =
    ap (λ (b : Bool). elim b as (λ _. Option (ℕ × ℕ)) [
      | true ↦ None
      | false ↦
          Some (char_at g.options.utf g.subject p)
    ]) (is_end-before g p h)

pub next-end : (g : Scene) (p : ℕ) → length g.subject ≤ p → next g p ≡ None
next-end g p h =
    ap (λ (b : Bool). elim b as (λ _. Option (ℕ × ℕ)) [
      | true ↦ None
      | false ↦
          Some (char_at g.options.utf g.subject p)
    ]) (is_end-at g p h)

abbrev taken_next : (g : Scene) (item : Item) (p : ℕ) → Option (ℕ × ℕ) → Option ℕ
taken_next g item p o = elim o as (λ _. Option ℕ) [ None ↦ None | Some c ↦ if_taken (takes g item p c.0) c.1 ]

-- the character c stands at p, and q is the place after it
pub after_item-at : (g : Scene) (item : Item) (p c q : ℕ) → p < length g.subject
    → (c, q) ≡ char_at g.options.utf g.subject p → after_item g item p ≡ if_taken (takes g item p c) q
after_item-at g item p c q h e =
    ap (taken_next g item p) (next-at g p h ∙ ap Some (sym e))

-- outside UTF it is the byte there
pub after_item-before : (g : Scene) (item : Item) (p : ℕ) → g.options.utf ≡ false → p < length g.subject
    → after_item g item p ≡ if_taken (takes g item p (get_or g.subject p 0)) (p + 1)
after_item-before g item p bytes h =
    after_item-at g item p (get_or g.subject p 0) (p + 1) h (ap (λ (utf : Bool). char_at utf g.subject p) (sym bytes))

pub after_item-end : (g : Scene) (item : Item) (p : ℕ) → length g.subject ≤ p → after_item g item p ≡ None
after_item-end g item p h = ap (taken_next g item p) (next-end g p h)

-- a last CR is taken
pub half_is_taken : (g : Scene) (p c : ℕ) → takes g NotNewline p c ≡ false → is_half_newline g p ≡ false
half_is_taken g p c h = elim (cases_Bool (is_half_newline g p)) [
  | inr e ↦ e
  | inl e ↦ absurd (zero_is (newline_at g p) (no_newline_at_half g.options.newline g.options.utf g.subject p e) h)
]
  where
    zero_is : (n : ℕ) → n ≡ 0 → (n == 0) ≡ false → ⊥
    zero_is n e h = grind (arith, nat_tests)

-- what isn't taken before the end does not reach it
pub item_reaches-no : (g : Scene) (item : Item) (p c : ℕ) → p < length g.subject → takes g item p c ≡ false
    → item_reaches g item p ≡ false
item_reaches-no g (Char d caseless) p c h e = is_end-before g p h
item_reaches-no g AnyAll p c h e = is_end-before g p h
item_reaches-no g NotNewline p c h e = rw (is_end-before g p h) (half_is_taken g p c e)
item_reaches-no g (Class n) p c h e = is_end-before g p h

pub told_no : (g : Scene) (item : Item) (p c q : ℕ) → p < length g.subject
    → (c, q) ≡ char_at g.options.utf g.subject p → takes g item p c ≡ false
    → taken.No ≡ told (after_item g item p) (item_reaches g item p)
told_no g item p c q h is e =
    let none = after_item-at g item p c q h is ∙ ap (λ (b : Bool). if_taken b q) e in
    let no_end = item_reaches-no g item p c h e in
    sym (ap (λ (o : Option ℕ). told o (item_reaches g item p)) none ∙ ap (told None) no_end)

pub told_took : (g : Scene) (item : Item) (p c q : ℕ) → p < length g.subject
    → (c, q) ≡ char_at g.options.utf g.subject p → takes g item p c ≡ true
    → taken.Took q ≡ told (after_item g item p) (item_reaches g item p)
told_took g item p c q h is e =
    let some = after_item-at g item p c q h is ∙ ap (λ (b : Bool). if_taken b q) e in
    sym (ap (λ (o : Option ℕ). told o (item_reaches g item p)) some)

-- `\R`

pub told_break : (g : Scene) (p n : ℕ) → break_len g p ≡ n → after_break g p ≡ if_taken (nat_lt 0 n) (p + n)
told_break g p n e = ap (λ (n : ℕ). if_taken (nat_lt 0 n) (p + n)) e

pub told_no_break : (g : Scene) (p : ℕ) → p < length g.subject → break_len g p ≡ 0
    → taken.No ≡ told (after_break g p) (break_reaches g p)
told_no_break g p h e =
    let none = told_break g p 0 e in
    let cr = break_at_cr g.options.bsr g.options.utf g.subject p e in
    let no_end : break_reaches g p ≡ false = rw (is_end-before g p h) cr in
    sym (ap (λ (o : Option ℕ). told o (break_reaches g p)) none ∙ ap (told None) no_end)

pub told_break_end : (g : Scene) (p : ℕ) → length g.subject ≤ p
    → taken.AtEnd ≡ told (after_break g p) (break_reaches g p)
told_break_end g p h =
    let none = told_break g p 0 (newline_past _ g.subject p h) in
    let at_end : break_reaches g p ≡ true = rw (is_end-at g p h) refl in
    sym (ap (λ (o : Option ℕ). told o (break_reaches g p)) none ∙ ap (told None) at_end)
