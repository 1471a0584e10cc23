-- Foldings.
use Rattle.std.proofs.Common.{◌≡◌, ◌≢◌, ℕ, ◌<◌, ◌≤◌, Bool, true, false, ◌||◌, ◌&&◌, ◌==◌, nat_lt, nat_le, List, []}
use Rattle.std.proofs.Common.{◌∷◌, slice_index_or, zero, suc, Contains, refl, sym, ap, subst, ◌∙◌, if◌then◌else◌}
use Rattle.std.proofs.Common.{arith, le_of_suc-le-suc, not-suc-le-zero}
use Rattle.std.proofs.lemmas.Bool.Decides.{nat_tests}
use Rattle.std.proofs.lemmas.Bool.{and_parts}
use Rattle.std.specs.List.{list_all}
use Rattle.ucd_table.proofs.Computing.{tables}
use Rattle.ucd_table.proofs.RangedFacts.{points_ok, Stepped-at_points}
use Rattle.ucd_case.specs.CaseFolding.{simple_folding, simple_fold, fold_pairs}
use Rattle.ucd_case.specs.FoldOtherRows.{fold_other_rows}
use Rattle.ucd_case.proofs.BoundLemmas.{simple_fold_idem}
use Rattle.ucd_case.proofs.CaseFoldingLemmas.{simple_folding_stepped}
use Rattle.ucd_case.proofs.FoldPairsLemmas.{IsFoldPairs-fold_pairs}
use Rattle.uni_text.specs.Ascii.{ascii_fold}
use Rattle.uni_text.specs.Properties.{is_char}
use Rattle.uni_text.specs.Folding.{fold}

-- what folds elsewhere is a character
abbrev is_nil : List ℕ → Bool
is_nil [] = true
is_nil (x ∷ xs) = false

all_chars : (c : ℕ) → is_nil (simple_folding c) ≡ false → is_char c ≡ true
unfolding tables points_ok simple_folding_stepped
all_chars = Stepped-at_points simple_folding simple_folding_stepped is_nil (λ c _. is_char c) refl

unmapped : (c : ℕ) (v : List ℕ) → is_nil v ≡ true → slice_index_or v 0 c ≡ c
unmapped c [] h = refl
unmapped c (x ∷ xs) h = cc

-- the folding of the tables leaves a number that is no character as it is
pub simple_fold-others : (c : ℕ) → is_char c ≡ false → simple_fold c ≡ c
simple_fold-others c none = unmapped c (simple_folding c)
    (elim (is_nil (simple_folding c)) as (λ b. is_nil (simple_folding c) ≡ b → is_nil (simple_folding c) ≡ true) [
      | true ↦ λ h. h
      | false ↦ λ h. let is : is_char c ≡ true = all_chars c h in cc
    ] refl)

-- so that the folding is the table's at every number
pub fold-simple_fold : (c : ℕ) → fold c ≡ simple_fold c
fold-simple_fold c = elim (is_char c) as (λ b. is_char c ≡ b → (if b then simple_fold c else c) ≡ simple_fold c) [
  | true ↦ λ h. refl
  | false ↦ λ h. sym (simple_fold-others c h)
] refl

pub fold_twice : (c : ℕ) → fold (fold c) ≡ fold c
fold_twice c = fold-simple_fold (fold c) ∙ ap simple_fold (fold-simple_fold c) ∙ simple_fold_idem c
    ∙ sym (fold-simple_fold c)

pub fold_others : (c : ℕ) → is_char c ≡ false → fold c ≡ c
fold_others c none = ap (λ b. if b then simple_fold c else c) none

-- Which characters fold alike across the end of ASCII: the Kelvin sign with k, and the long s with s.

abbrev are_known : ℕ → ℕ → Bool
are_known a b =
    if nat_lt a 128 then (if nat_lt b 128 then ascii_fold a == ascii_fold b else ascii_fold a == 107 && b == 0x212A
    || ascii_fold a == 115 && b == 0x17F)
    else (nat_le 128 b || (a == 0x212A || a == 0x17F))

pairs_known : list_all (λ (pair : ℕ × ℕ). are_known pair.0 pair.1) fold_pairs ≡ true
unfolding tables fold_pairs fold_other_rows
pairs_known = refl

each_passes : (test : ℕ × ℕ → Bool) (pairs : List (ℕ × ℕ)) (pair : ℕ × ℕ) → list_all test pairs ≡ true
    → Contains pairs pair → test pair ≡ true
each_passes test [] pair all (k, lt, at) = absurd (not-suc-le-zero lt)
each_passes test (one ∷ pairs) pair all (zero, lt, at) =
    subst (λ it. test it ≡ true) at (and_parts (test one) (list_all test pairs) all).0
each_passes test (one ∷ pairs) pair all (suc k, lt, at) =
    each_passes test pairs pair (and_parts (test one) (list_all test pairs) all).1 (k, le_of_suc-le-suc lt, at)

known_itself : (a : ℕ) → are_known a a ≡ true
known_itself a = grind (arith, nat_tests)

alike_known : (a b : ℕ) → fold a ≡ fold b → are_known a b ≡ true
alike_known a b same = elim (a == b) as (λ e. (a == b) ≡ e → are_known a b ≡ true) [
  | true ↦ λ e. let one : a ≡ b = grind (arith, nat_tests) in subst (λ c. are_known a c ≡ true) one (known_itself a)
  | false ↦ λ e.
      let apart : a ≢ b = grind (arith, nat_tests) in
      let simple : simple_fold a ≡ simple_fold b = sym (fold-simple_fold a) ∙ same ∙ fold-simple_fold b in
      each_passes (λ (pair : ℕ × ℕ). are_known pair.0 pair.1) fold_pairs (a, b) pairs_known
      ((IsFoldPairs-fold_pairs a b).1 (apart, simple))
] refl

-- in ASCII they fold as letters of ASCII do
pub ascii_alike : (a b : ℕ) → a < 128 → b < 128 → fold a ≡ fold b → ascii_fold a ≡ ascii_fold b
ascii_alike a b low small same = let known = alike_known a b same in grind (arith, nat_tests)

pub past_alike : (a b : ℕ) → 128 ≤ b → fold a ≡ fold b
    → (nat_le 128 a || (ascii_fold a == 107 && b == 0x212A || ascii_fold a == 115 && b == 0x17F)) ≡ true
past_alike a b past same = let known = alike_known a b same in grind (arith, nat_tests)

-- two characters past ASCII fold into it
pub into_ascii : (a b : ℕ) → 128 ≤ a → b < 128 → fold a ≡ fold b → (a == 0x212A || a == 0x17F) ≡ true
into_ascii a b past small same = let known = alike_known a b same in grind (arith, nat_tests)
