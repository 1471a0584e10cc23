-- Sums and products that stay at the greatest number of 32 bits.
use Rattle.std.proofs.Common.{◌≡◌, ℕ, zero, suc, ◌+◌, ◌*◌, inl, inr, refl, arith}
use Rattle.std.proofs.Math.Nat.{mul-le-mul_left}
use Rattle.std.proofs.lemmas.Bool.{cases_lt}
use Rattle.pat_lengths.specs.Lengths.{counted}

pub counted_right : (a b : ℕ) → counted (a + counted b) ≡ counted (a + b)
counted_right a b = omega arith

pub counted_both : (a b : ℕ) → counted (counted a + counted b) ≡ counted (a + b)
counted_both a b = omega arith

pub counted_times : (n k : ℕ) → counted (n * counted k) ≡ counted (n * k)
counted_times zero k = omega arith
counted_times (suc n) k = elim (cases_lt k 4294967295) [
  | inl l ↦ let e : counted k ≡ k = omega (arith, l) in rw e refl
  | inr l ↦
      let e : counted k ≡ 4294967295 = omega (arith, l) in
      rw e (omega (arith, l, mul-le-mul_left (suc n) l))
]
