-- Digits with a unit after them.
use Rattle.std.proofs.Common.{◌≡◌, ℕ, ◌*◌, ◌≤◌, List, Some, None, sym, ap, arith, mul-le-mul_left}
use Rattle.std.specs.Str.Parse.{digits_value}
use Rattle.byte_lanes.specs.Digits.{number_of, within_u32}
use Rattle.byte_lanes.proofs.lemmas.DigitLemmas.{past, is_past, is_within}

-- a unit makes a number no smaller
pub many_are_too_many : (digits : List ℕ) (unit : ℕ) → 1 ≤ unit → None ≡ number_of 10 digits
    → None ≡ within_u32 (digits_value 10 digits * unit)
many_are_too_many digits unit some e =
    let large = is_past (digits_value 10 digits) e in
    let more = mul-le-mul_left (digits_value 10 digits) some in
    sym (past (digits_value 10 digits * unit) (omega arith))

pub few_are_scaled : (digits : List ℕ) (value unit : ℕ) → Some value ≡ number_of 10 digits
    → within_u32 (value * unit) ≡ within_u32 (digits_value 10 digits * unit)
few_are_scaled digits value unit e = ap (λ n. within_u32 (n * unit)) (is_within (digits_value 10 digits) value e).0
