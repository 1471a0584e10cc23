-- Numbers made of bits.
use Rattle.std.proofs.Common.{◌≡◌, ℕ, ◌^◌, ◌<◌, ◌≤◌, Bool, true, false, List, [], ◌∷◌, length, drop, length-drop, arith}
use Rattle.std.proofs.Math.Nat.{pow-le-pow_right, pow-suc}
use Rattle.pat_save.specs.Fields.{bit, number_of}

pub bit_small : (b : Bool) → bit b ≤ 1
bit_small false = omega arith
bit_small true = omega arith

pub number_below : (bs : List Bool) → number_of bs < 2 ^ length bs
number_below [] = omega arith
number_below (b ∷ bs) = rw pow-suc (omega (arith, bit_small b, number_below bs))

-- of at most 31 bits, those behind the first make a number that can be doubled
pub fits_twice : (flags : List Bool) (i n : ℕ) → length flags ≤ 31 → 0 < i → n ≡ number_of (drop i flags) → n < 2 ^ 30
fits_twice flags i n few pos e =
    let short : length (drop i flags) ≤ 30 = omega (arith, length-drop i flags) in
    let most : 2 ^ length (drop i flags) ≤ 2 ^ 30 = pow-le-pow_right (omega arith) short in
    omega (arith, number_below (drop i flags))

pub bit_at_most : (b : Bool) (n : ℕ) → n ≡ bit b → n ≤ 1
bit_at_most b n e = omega (arith, bit_small b)
