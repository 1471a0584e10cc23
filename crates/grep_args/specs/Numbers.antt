-- The numbers among the values (pcre2grep, "OPTIONS").
use Rattle.std.specs.Prelude.{ℕ, ◌*◌, List, [], ◌∷◌, length, drop, take_while, Option, Some, None, codes, bytes_eq}
use Rattle.std.specs.Prelude.{if◌then◌else◌}
use Rattle.std.specs.Option.{option_and_then}
use Rattle.std.specs.Char.{is_ascii_digit}
use Rattle.std.specs.Str.Parse.{digits_value}
use Rattle.byte_lanes.specs.Digits.{within_u32}

-- what a `K` or an `M` after the digits stands for
abbrev pub unit_of : List ℕ → Option ℕ
unit_of text =
    if bytes_eq text [] then Some 1
    else if bytes_eq text (codes "K") then Some 1024
    else if bytes_eq text (codes "M") then Some 1048576
    else None

abbrev pub greatest : ℕ
greatest = 4294967295

abbrev pub has_digits : List ℕ → Option (List ℕ)
has_digits [] = None
has_digits (digit ∷ digits) = Some (digit ∷ digits)

-- a number: one or more decimal digits, then nothing, a `K` or an `M`; it is at most 4,294,967,295
abbrev pub number_of : List ℕ → Option ℕ
number_of text =
    option_and_then (λ digits. option_and_then (λ unit. within_u32 (digits_value 10 digits * unit))
    (unit_of (drop (length digits) text)))
    (has_digits (take_while is_ascii_digit text))
