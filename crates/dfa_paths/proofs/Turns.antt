-- So many turns of a way, and then more.
use Rattle.std.proofs.Common.{◌≡◌, ℕ, zero, suc, ◌-◌, ◌≤◌, refl, subst, arith, ◌+◌}
use Rattle.dfa_ends.specs.Ends.{Spot, Way, Times}

zero_more : (n : ℕ) → n ≡ 0 + n
zero_more n = omega arith

suc_more : (low n : ℕ) → suc (low + n) ≡ suc low + n
suc_more low n = omega arith

pub join : (w : Way) (low n : ℕ) (x z y : Spot) → Times w low x z → Times w n z y →
    Times w (low + n) x y
unfolding Times
join w zero n x z y t u =
    subst (λ k. Times w k x y) (zero_more n) (subst (λ v. Times w n v y) t u)
join w (suc low) n x z y t u =
    subst (λ k. Times w k x y) (suc_more low n) (t.0, t.1, join w low n t.0 z y t.2 u)

no_less : (n : ℕ) → n ≡ n - 0
no_less n = omega arith

less_less : (n low : ℕ) → n - low ≡ suc n - suc low
less_less n low = omega arith

pub split : (w : Way) (low n : ℕ) (x y : Spot) → low ≤ n → Times w n x y →
    (z : Spot) × Times w low x z × Times w (n - low) z y
unfolding Times
split w zero n x y l t = (x, refl, subst (λ k. Times w k x y) (no_less n) t)
split w (suc low) zero x y l t = absurd (omega (arith, l))
split w (suc low) (suc n) x y l t =
    let r = split w low n t.0 y (omega (arith, l)) t.2 in
    (r.0, (t.0, t.1, r.1), subst (λ k. Times w k r.0 y) (less_less n low) r.2)
