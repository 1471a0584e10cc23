-- One more letter, one more line, and sums over lines.
use Rattle.std.proofs.Common.{◌≡◌, ◌∙◌, ℕ, zero, suc, ◌+◌, ◌*◌, ◌≤◌, ◌<◌, Bool, true, false, cond, List, [], ◌∷◌}
use Rattle.std.proofs.Common.{◌++◌, refl, sym, ap, arith, add-one}
use Rattle.std.specs.Int.{from_bool}
use Rattle.std.specs.List.{sum_by}
use Rattle.std.proofs.lemmas.List.Sums.{sum_by-append}
use Rattle.test_gen.specs.Generated.{next, behind, letter, letters, line_at, lines}
use Rattle.test_gen.specs.Worked.{WorkedLines}

pub worked-hold : WorkedLines
unfolding lines letters behind
worked-hold = record { none = refl; first = refl }

pub letters-more : (x n : ℕ) → letters x (n + 1) ≡ letters x n ++ letter (next (behind x n)) ∷ []
unfolding letters behind
letters-more x n = ap (letters x) (add-one n)

pub letters-none : (x : ℕ) → letters x 0 ≡ []
unfolding letters
letters-none x = refl

pub behind-more : (x n : ℕ) → behind x (n + 1) ≡ next (behind x n)
unfolding behind
behind-more x n = ap (behind x) (add-one n)

pub behind-none : (x : ℕ) → behind x 0 ≡ x
unfolding behind
behind-none x = refl

behind-add : (x m n : ℕ) → behind x (m + n) ≡ behind (behind x m) n
unfolding behind
behind-add x m zero = let e : m + 0 ≡ m = omega arith in ap (behind x) e
behind-add x m (suc n) = let e : m + suc n ≡ suc (m + n) = omega arith in ap (behind x) e ∙ ap next (behind-add x m n)

-- the numbers of a line
pub behind-line : (i : ℕ) → behind 1 (12 * (i + 1)) ≡ behind (behind 1 (12 * i)) 12
behind-line i = let e : 12 * (i + 1) ≡ 12 * i + 12 = omega arith in ap (behind 1) e ∙ behind-add 1 (12 * i) 12

lines-more : (n : ℕ) → lines (n + 1) ≡ lines n ++ line_at n ∷ []
unfolding lines
lines-more n = ap lines (add-one n)

module _ (f : List ℕ → ℕ) where
  sum-more : (n : ℕ) → sum_by f (lines (n + 1)) ≡ sum_by f (lines n) + f (line_at n)
  sum-more n =
      let e : 0 + f (line_at n) ≡ f (line_at n) = omega arith in
      ap (sum_by f) (lines-more n) ∙ sum_by-append f (lines n) (line_at n ∷ []) ∙ ap (λ k. sum_by f (lines n) + k) e

  sum-none : sum_by f (lines 0) ≡ 0
  unfolding lines
  sum-none = refl

  -- So many lines were made, and summed up.
  pub record IsSummed (n x total : ℕ) : Type 0 where
    pub at : x ≡ behind 1 (12 * n)
    pub sum : total ≡ sum_by f (lines n)
    pub within : total ≤ 18446744073709551616 * n

  pub summed-none : (x total : ℕ) → x ≡ 1 → total ≡ 0 → IsSummed 0 x total
  summed-none x total first nothing = record {
    at = first ∙ sym (behind-none 1);
    sum = nothing ∙ sym sum-none;
    within = omega arith;
  }

  pub summed-more : (n x total next k : ℕ) (line : List ℕ) → IsSummed n x total → line ≡ letters x 12
      → next ≡ behind x 12 → k ≡ f line → k < 18446744073709551616
      → IsSummed (n + 1) next (total + k)
  summed-more n x total next k line i is goes counted few =
      let here : k ≡ f (line_at n) = counted ∙ ap f (is ∙ ap (λ y. letters y 12) i.at) in
      let more = i.within in
      record {
        at = goes ∙ ap (λ y. behind y 12) i.at ∙ sym (behind-line n);
        sum = (λ j. i.sum j + here j) ∙ sym (sum-more n);
        within = omega arith;
      }

-- a test as a number
pub one-if : (b : Bool) → from_bool b ≡ cond b 1 0
one-if true = refl
one-if false = refl

pub one-most : (b : Bool) → from_bool b ≤ 1
one-most true = omega arith
one-most false = omega arith
