-- Numbers that grow with a subject, added and multiplied.
use Rattle.std.proofs.Common.{◌≡◌, ℕ, ◌+◌, ◌*◌, ◌^◌, ◌<◌, ◌≤◌, max, ap, ◌∙◌, arith}
use Rattle.std.proofs.Math.Nat.{pow-zero, pow-le-pow_right}
use Rattle.std.proofs.lemmas.Grind.{pow_more}
use Rattle.std.proofs.lemmas.Nat.{mul-le, pow-add}
use Rattle.pat_bounds.specs.declared.bounds.Growth.{Growth}
use Rattle.pat_bounds.specs.Bounds.{at, steady, plus, product, greater}

pub at_steady : (k n : ℕ) → at (steady k) n ≡ k
at_steady k n = let e : n ^ 0 ≡ 1 = pow-zero n in ap (λ m. k * m) e ∙ omega arith

pub at_line : (n : ℕ) → at (record { times = 1; degree = 1 }) n ≡ n
at_line n =
    let e : n ^ 1 ≡ n ^ 0 * n = pow_more n 0 in
    let f : n ^ 0 ≡ 1 = pow-zero n in
    ap (λ m. 1 * m) (e ∙ ap (λ m. m * n) f) ∙ omega arith

-- a higher degree gives no less
more_degree : (k i j n : ℕ) → 0 < n → i ≤ j → k * n ^ i ≤ k * n ^ j
more_degree k i j n pos le = mul-le k (n ^ i) k (n ^ j) (omega arith) (pow-le-pow_right pos le)

pub at_plus : (a b : Growth) (n : ℕ) → 0 < n → at a n + at b n ≤ at (plus a b) n
at_plus a b n pos =
    let d = max a.degree b.degree in
    let x = more_degree a.times a.degree d n pos (omega arith) in
    let y = more_degree b.times b.degree d n pos (omega arith) in
    let e : (a.times + b.times) * n ^ d ≡ a.times * n ^ d + b.times * n ^ d = grind arith in
    omega (arith, x, y, e)

-- the greater of two is no less
pub at_greater : (a b : Growth) (n : ℕ) → 0 < n
    → (at a n ≤ at (greater a b) n) × (at b n ≤ at (greater a b) n)
at_greater a b n pos =
    let d = max a.degree b.degree in
    let times = max a.times b.times in (
      mul-le a.times (n ^ a.degree) times (n ^ d) (omega arith) (pow-le-pow_right pos (omega arith)),
      mul-le b.times (n ^ b.degree) times (n ^ d) (omega arith) (pow-le-pow_right pos (omega arith)),
    )

pub at_product : (a b : Growth) (n : ℕ) → at (product a b) n ≡ at a n * at b n
at_product a b n =
    let e : n ^ (a.degree + b.degree) ≡ n ^ a.degree * n ^ b.degree = pow-add n a.degree b.degree in
    ap (λ m. (a.times * b.times) * m) e ∙ grind arith
