-- The two cases of a letter.
use Rattle.std.proofs.Common.{◌≡◌, ℕ, ◌-◌, ◌==◌, ◌&&◌, ap₂, eqb-true, eq-eqb, Bool, true, false, cond, ◌||◌, ◌⊎◌}
use Rattle.std.proofs.Common.{inl, inr, List, [], ◌∷◌, refl, sym, ap, ◌∙◌, arith}
use Rattle.std.proofs.lemmas.Bool.{or_cases, and_parts, both_ways}
use Rattle.std.proofs.lemmas.Bool.Decides.{nat_tests}
use Rattle.std.specs.Int.{IsInRange, is_in_range}
use Rattle.std.specs.List.{list_any}
use Rattle.uni_text.specs.Ascii.{ascii_fold, is_letter}
use Rattle.ucd_case.specs.CaseFolding.{simple_fold, fold_pairs}
use Rattle.ucd_case.proofs.FoldPairsLemmas.{IsFoldPairs-fold_pairs}
use Rattle.uni_text.specs.Folding.{fold}
use Rattle.uni_text.proofs.FoldLemmas.{fold-simple_fold}
use Rattle.char_sets.specs.Laws.{RangesFold}
use Rattle.char_sets.specs.Sets.{folded_has, other_has}
use Rattle.char_sets.proofs.PairLemmas.{pair_has, some_of, contained}

fold_small : (c : ℕ) → is_letter c ≡ true → ascii_fold (ascii_fold c) ≡ ascii_fold c
fold_small c h = grind (arith, nat_tests)

fold_capital : (c : ℕ) → is_letter c ≡ true → ascii_fold (ascii_fold c - 32) ≡ ascii_fold c
fold_capital c h = grind (arith, nat_tests)

-- what folds as a letter does is one of its two cases
one_of_two : (c d : ℕ) → is_letter c ≡ true → ascii_fold d ≡ ascii_fold c → (d ≡ ascii_fold c) ⊎ (d ≡ ascii_fold c - 32)
one_of_two c d h e = grind (arith, nat_tests)

alone : (c d : ℕ) → is_letter c ≡ false → ascii_fold d ≡ ascii_fold c → d ≡ c
alone c d h e = grind (arith, nat_tests)

within : (from to d : ℕ) → is_in_range from to d ≡ true → IsInRange from to d
within from to d h = grind (arith, nat_tests)

is_within : (from to d : ℕ) → IsInRange from to d → is_in_range from to d ≡ true
is_within from to d h = grind (arith, nat_tests)

either : (x y : Bool) → (x || (y || false)) ≡ true → (x ≡ true) ⊎ (y ≡ true)
either true y h = inl refl
either false true h = inr refl
either false false h = inr h

only : (x : Bool) → (x || false) ≡ true → x ≡ true
only true h = refl
only false h = h

left : (x y : Bool) → x ≡ true → (x || (y || false)) ≡ true
left true y h = refl
left false y h = absurd (grind arith)

right : (x y : Bool) → y ≡ true → (x || (y || false)) ≡ true
right true y h = refl
right false true h = refl
right false false h = h

right_or : (x y : Bool) → y ≡ true → (x || y) ≡ true
right_or true y h = refl
right_or false y h = h

abbrev cases : Bool → ℕ → List ℕ
cases letter c = cond letter (ascii_fold c ∷ (ascii_fold c - 32) ∷ []) (c ∷ [])

found : (from to c : ℕ) (letter : Bool) → is_letter c ≡ letter
    → list_any (is_in_range from to) (cases letter c) ≡ true
    → (d : ℕ) × IsInRange from to d × (ascii_fold d ≡ ascii_fold c)
found from to c true e h = elim (either _ _ h) [
  | inl small ↦ (ascii_fold c, within from to (ascii_fold c) small, fold_small c e)
  | inr capital ↦ (ascii_fold c - 32, within from to (ascii_fold c - 32) capital, fold_capital c e)
]
found from to c false e h = (c, within from to c (only _ h), refl)

holds : (from to c d : ℕ) (letter : Bool) → is_letter c ≡ letter → IsInRange from to d → ascii_fold d ≡ ascii_fold c
    → list_any (is_in_range from to) (cases letter c) ≡ true
holds from to c d true e lies same = elim (one_of_two c d e same) [
  | inl small ↦ left _ _ (ap (is_in_range from to) (sym small) ∙ is_within from to d lies)
  | inr capital ↦ right _ _ (ap (is_in_range from to) (sym capital) ∙ is_within from to d lies)
]
holds from to c d false e lies same = ap (λ b. b || false) (ap (is_in_range from to) (sym (alone c d e same))
    ∙ is_within from to d lies)

outside_utf : (from to c : ℕ)
    → (folded_has false from to c ≡ true → (d : ℕ) × IsInRange from to d × (ascii_fold d ≡ ascii_fold c))
    × ((d : ℕ) × IsInRange from to d × (ascii_fold d ≡ ascii_fold c) → folded_has false from to c ≡ true)
outside_utf from to c = (found from to c (is_letter c) refl, λ p. holds from to c p.0 (is_letter c) refl p.1 p.2)

-- in UTF a character of the range that folds alike is c, or the other of a pair
found_pair : (from to c : ℕ) → (is_in_range from to c || other_has fold_pairs from to c) ≡ true
    → (d : ℕ) × IsInRange from to d × (fold d ≡ fold c)
found_pair from to c h = elim (or_cases (is_in_range from to c) (other_has fold_pairs from to c) h) [
  | inl here ↦ (c, within from to c here, refl)
  | inr other ↦
      let some = some_of (pair_has from to c) fold_pairs other in
      let parts = and_parts (some.0.0 == c) (is_in_range from to some.0.1) some.2 in
      let alike : simple_fold some.0.0 ≡ simple_fold some.0.1 =
      ((IsFoldPairs-fold_pairs some.0.0 some.0.1).0 some.1).1 in
      let first : some.0.0 ≡ c = eqb-true some.0.0 c parts.0 in (
        some.0.1,
        within from to some.0.1 parts.1,
        fold-simple_fold some.0.1 ∙ sym alike ∙ ap simple_fold first
            ∙ sym (fold-simple_fold c),
      )
]

holds_pair : (from to c d : ℕ) → IsInRange from to d → fold d ≡ fold c
    → (is_in_range from to c || other_has fold_pairs from to c) ≡ true
holds_pair from to c d lies same =
    elim (c == d) as (λ b. (c == d) ≡ b → (is_in_range from to c || other_has fold_pairs from to c) ≡ true) [
      | true ↦ λ is. ap (λ b. b || other_has fold_pairs from to c)
          (ap (is_in_range from to) (eqb-true c d is) ∙ is_within from to d lies)
      | false ↦ λ apart.
          let alike : simple_fold c ≡ simple_fold d = sym (fold-simple_fold c) ∙ sym same ∙ fold-simple_fold d in
          let other : other_has fold_pairs from to c ≡ true =
          contained (pair_has from to c) fold_pairs (c, d)
          ((IsFoldPairs-fold_pairs c d).1 (λ e. both_ways (c == d) apart (eq-eqb c d e), alike))
          (ap₂ ◌&&◌ (eq-eqb c c refl) (is_within from to d lies)) in
          right_or (is_in_range from to c) (other_has fold_pairs from to c) other
    ] refl

in_utf : (from to c : ℕ) → (folded_has true from to c ≡ true → (d : ℕ) × IsInRange from to d × (fold d ≡ fold c))
    × ((d : ℕ) × IsInRange from to d × (fold d ≡ fold c) → folded_has true from to c ≡ true)
in_utf from to c = (found_pair from to c, λ p. holds_pair from to c p.0 p.1 p.2)

pub ranges_fold_alike : RangesFold
ranges_fold_alike true = in_utf
ranges_fold_alike false = outside_utf
