-- Texts that stand again in UTF.
use Rattle.std.proofs.Common.{◌≡◌, ◌∙◌, ℕ, suc, ◌+◌, ◌-◌, ◌≤◌, ◌&&◌, ◌==◌, Bool, true, false, List, [], ◌∷◌, ◌++◌}
use Rattle.std.proofs.Common.{Option, Some, None, length, take, drop, nat_lt, nat_le, chars, sum_by, slice_range}
use Rattle.std.proofs.Common.{refl, sym, ap, arith, take-append-drop}
use Rattle.std.proofs.Math.ListN.{drop_of_length-le}
use Rattle.std.proofs.Math.Utf8.{encode}
use Rattle.std.proofs.lemmas.Bool.Decides.{nat_tests}
use Rattle.std.proofs.lemmas.List.{drop-drop}
use Rattle.std.proofs.lemmas.List.Sums.{sum_by-cons}
use Rattle.std.proofs.lemmas.Slice.{between_to_end}
use Rattle.std.proofs.lemmas.Str.{IsUtf8-drop, chars_past_char, chars-nil}
use Rattle.std.specs.Char.{len_utf8}
use Rattle.std.specs.Str.{IsUtf8, IsCharBoundary}
use Rattle.uni_text.specs.Ascii.{ascii_fold}
use Rattle.char_sets.specs.Table.{CharSet}
use Rattle.uni_text.specs.Characters.{char_at, IsCharSpan}
use Rattle.match_items.specs.declared.view.View.{View}
use Rattle.match_items.specs.Scene.{Scene}
use Rattle.match_items.specs.Items.{agrees, folded, characters, width, same_front, after_text, text_reaches}
use Rattle.match_items.specs.Items.{after_ref, ref_reaches}
use Rattle.match_items.specs.Views.{text_scene, fold_in, agrees_in}

-- the characters from a place on, of which the first is known
chars_from : (text : List ℕ) (i c n : ℕ) → IsUtf8 text → IsCharBoundary text i → i ≤ n → IsCharSpan true text c i n
    → chars (drop i text) ≡ c ∷ chars (drop n text)
chars_from text i c n checked place ordered span =
    let whole : i + (n - i) ≡ n = omega arith in
    let split : drop i text ≡ encode c ++ drop n text =
    sym (take-append-drop (n - i) (drop i text)) ∙ ap (λ xs. xs ++ drop (n - i) (drop i text)) span.stands
    ∙ ap (λ ys. encode c ++ ys) (drop-drop (n - i) i text ∙ ap (λ k. drop k text) whole) in
    chars_past_char (drop i text) (drop n text) c (IsUtf8-drop text i checked place) split

pub char_len : (text : List ℕ) (i c n : ℕ) → (c, n) ≡ char_at true text i → n ≡ i + len_utf8 c
char_len text i c n value =
    ap (λ (x : ℕ × ℕ). x.1) value ∙ ap (λ d. i + len_utf8 d) (sym (ap (λ (x : ℕ × ℕ). x.0) value))

pub chars_at : (text : List ℕ) (i c n : ℕ) → IsUtf8 text → IsCharBoundary text i → (c, n) ≡ char_at true text i
    → IsCharSpan true text c i n → chars (drop i text) ≡ c ∷ chars (drop n text)
chars_at text i c n checked place value span = chars_from text i c n checked place
    (omega (arith, char_len text i c n value)) span

pub chars_past : (text : List ℕ) (i : ℕ) → length text ≤ i → chars (drop i text) ≡ []
chars_past text i past = ap chars (drop_of_length-le text past) ∙ chars-nil

folded_by : (utf : Bool) (c : ℕ) → (elim utf as (λ _. ℕ) [ true ↦ fold_in utf c | false ↦ ascii_fold c ]) ≡ fold_in
    utf c
folded_by true c = refl
folded_by false c = refl

-- whether characters agree in the scene of a view, by the folding of its options
pub agrees_text : (view : View) (table : List CharSet) (utf caseless : Bool) (a b : ℕ) → view.options.now.utf ≡ utf
    → agrees_in utf caseless a b ≡ agrees (text_scene view table) caseless a b
agrees_text view table utf true a b e =
    ap (λ (u : Bool). fold_in u a == fold_in u b) (sym e)
    ∙ sym (ap (λ (x : ℕ). x == folded (text_scene view table) b) (folded_by view.options.now.utf a)
    ∙ ap (λ (y : ℕ). fold_in view.options.now.utf a == y) (folded_by view.options.now.utf b))
agrees_text view table utf false a b e = refl

module _ (g : Scene) (utf : g.options.utf ≡ true) where
  pub characters_are : (bytes : List ℕ) → characters g bytes ≡ chars bytes
  characters_are bytes = ap (λ (u : Bool). elim u as (λ _. List ℕ) [ true ↦ chars bytes | false ↦ bytes ]) utf

  pub width_is : (cs : List ℕ) → width g cs ≡ sum_by len_utf8 cs
  width_is cs = ap (λ (u : Bool). elim u as (λ _. ℕ) [ true ↦ sum_by len_utf8 cs | false ↦ length cs ]) utf

  width_next : (c : ℕ) (cs : List ℕ) → width g (c ∷ cs) ≡ len_utf8 c + width g cs
  width_next c cs = width_is (c ∷ cs) ∙ sum_by-cons len_utf8 c cs ∙ ap (λ n. len_utf8 c + n) (sym (width_is cs))

  same_le : (m n : ℕ) → nat_le (suc m) (suc n) ≡ nat_le m n
  same_le m n = grind (arith, nat_tests)

  same_lt : (m n : ℕ) → nat_lt (suc m) (suc n) ≡ nat_lt m n
  same_lt m n = grind (arith, nat_tests)

  abbrev stands : Bool → ℕ → Option ℕ
  stands b q = elim b as (λ _. Option ℕ) [ true ↦ Some q | false ↦ None ]

  pub after_agrees : (caseless : Bool) (a b : ℕ) (xs ys : List ℕ) (p : ℕ) → agrees g caseless a b ≡ true →
      after_text g caseless (a ∷ xs) (b ∷ ys) p ≡ after_text g caseless xs ys (p + len_utf8 b)
  after_agrees caseless a b xs ys p e =
      let place : p + width g (b ∷ take (length xs) ys) ≡ (p + len_utf8 b) + width g (take (length xs) ys) =
      omega (arith, width_next b (take (length xs) ys)) in
      ap (λ x. stands ((x && same_front g caseless xs ys) && nat_le (suc (length xs)) (suc (length ys)))
      (p + width g (b ∷ take (length xs) ys))) e
      ∙ ap (λ x. stands (same_front g caseless xs ys && x) (p + width g (b ∷ take (length xs) ys)))
      (same_le (length xs) (length ys))
      ∙ ap (λ q. stands (same_front g caseless xs ys && nat_le (length xs) (length ys)) q) place

  pub reaches_agrees : (caseless : Bool) (a b : ℕ) (xs ys : List ℕ) → agrees g caseless a b ≡ true
      → text_reaches g caseless (a ∷ xs) (b ∷ ys) ≡ text_reaches g caseless xs ys
  reaches_agrees caseless a b xs ys e =
      ap (λ x. (x && same_front g caseless xs ys) && nat_lt (suc (length ys)) (suc (length xs))) e
      ∙ ap (λ x. same_front g caseless xs ys && x) (same_lt (length ys) (length xs))

  pub after_differs : (caseless : Bool) (a b : ℕ) (xs ys : List ℕ) (p : ℕ) → agrees g caseless a b ≡ false
      → after_text g caseless (a ∷ xs) (b ∷ ys) p ≡ None
  after_differs caseless a b xs ys p e =
      ap (λ x. stands ((x && same_front g caseless xs ys) && nat_le (suc (length xs)) (suc (length ys)))
      (p + width g (b ∷ take (length xs) ys))) e

  pub reaches_differs : (caseless : Bool) (a b : ℕ) (xs ys : List ℕ) → agrees g caseless a b ≡ false
      → text_reaches g caseless (a ∷ xs) (b ∷ ys) ≡ false
  reaches_differs caseless a b xs ys e =
      ap (λ x. (x && same_front g caseless xs ys) && nat_lt (suc (length ys)) (suc (length xs))) e

  pub after_whole : (caseless : Bool) (ys : List ℕ) (p : ℕ) → after_text g caseless [] ys p ≡ Some p
  after_whole caseless ys p =
      let fits : nat_le 0 (length ys) ≡ true = grind (arith, nat_tests) in
      let none : p + width g [] ≡ p = omega (arith, width_is []) in
      ap (λ x. stands x (p + width g [])) fits ∙ ap Some none

  pub after_short : (caseless : Bool) (a : ℕ) (xs : List ℕ) (p : ℕ) → after_text g caseless (a ∷ xs) [] p ≡ None
  after_short caseless a xs p =
      let no : nat_le (suc (length xs)) 0 ≡ false = grind (arith, nat_tests) in
      ap (λ x. stands x (p + width g [])) no

  pub reaches_short : (caseless : Bool) (a : ℕ) (xs : List ℕ) → text_reaches g caseless (a ∷ xs) [] ≡ true
  reaches_short caseless a xs = grind (arith, nat_tests)

-- the text between two places, and the rest of the subject from a place on
pub after_ref-text : (g : Scene) (from to p : ℕ) (caseless : Bool) → g.options.utf ≡ true → p ≤ length g.subject →
    after_text g caseless (chars (slice_range g.subject from to)) (chars (slice_range g.subject p (length g.subject)))
    p ≡ after_ref g from to caseless p
after_ref-text g from to p caseless utf within =
    ap (λ (ys : List ℕ). after_text g caseless (chars (slice_range g.subject from to)) (chars ys) p)
    (between_to_end g.subject p (length g.subject) (omega arith))
    ∙ sym (ap (λ (xs : List ℕ). after_text g caseless xs (characters g (drop p g.subject)) p)
    (characters_are g utf (slice_range g.subject from to))
    ∙ ap (λ (ys : List ℕ). after_text g caseless (chars (slice_range g.subject from to)) ys p)
    (characters_are g utf (drop p g.subject)))

pub ref_reaches-text : (g : Scene) (from to p : ℕ) (caseless : Bool) → g.options.utf ≡ true → p ≤ length g.subject →
    text_reaches g caseless (chars (slice_range g.subject from to))
    (chars (slice_range g.subject p (length g.subject))) ≡ ref_reaches g from to caseless p
ref_reaches-text g from to p caseless utf within =
    ap (λ (ys : List ℕ). text_reaches g caseless (chars (slice_range g.subject from to)) (chars ys))
    (between_to_end g.subject p (length g.subject) (omega arith))
    ∙ sym (ap (λ (xs : List ℕ). text_reaches g caseless xs (characters g (drop p g.subject)))
    (characters_are g utf (slice_range g.subject from to))
    ∙ ap (λ (ys : List ℕ). text_reaches g caseless (chars (slice_range g.subject from to)) ys)
    (characters_are g utf (drop p g.subject)))
