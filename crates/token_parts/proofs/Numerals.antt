-- The number that digits write, with a ceiling.
use Rattle.std.proofs.Common.{◌≡◌, ℕ, ◌+◌, ◌^◌, ◌≤◌, ◌-◌, min, List, [], ◌∷◌, length, drop, slice_range, length-take}
use Rattle.std.proofs.Common.{Some, None, arith}
use Rattle.std.proofs.lemmas.Bool.Decides.{nat_tests}
use Rattle.std.specs.Char.{digit_value}
use Rattle.std.specs.Str.Parse.{digits_value}
use Rattle.byte_lanes.specs.Digits.{number_of}
use Rattle.byte_lanes.proofs.lemmas.DigitLemmas.{is_past, is_within}
use Rattle.token_parts.specs.Bytes.{numeral}

pub numeral_within : (radix n : ℕ) (cs : List ℕ) → Some n ≡ number_of radix cs
    → n ≡ min (2 ^ 32) (digits_value radix cs)
numeral_within radix n cs e = let (same, small) = is_within (digits_value radix cs) n e in omega arith

pub numeral_past : (radix : ℕ) (cs : List ℕ) → None ≡ number_of radix cs → 2 ^ 32 ≡ min (2 ^ 32) (digits_value radix cs)
numeral_past radix cs e = let large = is_past (digits_value radix cs) e in omega arith

digit_small : (c : ℕ) → digit_value c ≤ 36
digit_small c = grind (arith, nat_tests)

two_digits : (cs : List ℕ) → length cs ≤ 2 → digits_value 16 cs ≤ 612
two_digits [] short = omega arith
two_digits (c ∷ []) short = omega (arith, digit_small c)
two_digits (c ∷ d ∷ []) short = omega (arith, digit_small c, digit_small d)
two_digits (c ∷ d ∷ e ∷ cs) short = absurd (omega arith)

-- Two hexadecimal digits write a small number.
pub numeral_small : (text : List ℕ) (from to : ℕ) → to ≤ from + 2 → numeral text 16 from to ≤ 612
unfolding numeral
numeral_small text from to short =
    let cs = slice_range text from to in
    let few : length cs ≤ 2 = omega (arith, length-take (to - from) (drop from text)) in
    omega (arith, two_digits cs few)
