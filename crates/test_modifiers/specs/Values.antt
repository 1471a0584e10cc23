-- What a modifier does, without a value or with one (pcre2test, "PATTERN MODIFIERS" and "SUBJECT MODIFIERS").
use Rattle.std.specs.Prelude.{ℕ, ◌==◌, List, length, Bool, Option, Some, None, codes, bytes_eq, if◌then◌else◌}
use Rattle.std.specs.List.{list_all}
use Rattle.std.specs.Option.{option_map}
use Rattle.std.specs.Char.{is_ascii_digit}
use Rattle.byte_lanes.specs.Digits.{number_of}
use Rattle.pat_tree.specs.Newlines.{newline_in_any_case}
use Rattle.pat_tree.specs.declared.options.Bsr.{Bsr}
use Rattle.pat_tree.specs.declared.options.Bsr.TheVariants as bsr
use Rattle.test_modifiers.specs.declared.modifiers.Modifiers.{Modifiers}
use Rattle.test_modifiers.specs.declared.kinds.Modifier.{Modifier}
use Rattle.test_modifiers.specs.declared.kinds.Modifier.TheVariants as modifier
use Rattle.test_modifiers.specs.Modifiers.{flag_given, number_given}

-- a number: one or more decimal digits, at most 4,294,967,295
abbrev pub decimal : List ℕ → Option ℕ
decimal text =
    if length text == 0 then None
    else if list_all is_ascii_digit text then number_of 10 text
    else None

abbrev pub bsr_of : List ℕ → Option Bsr
bsr_of word =
    if bytes_eq word (codes "unicode") then Some bsr.Unicode
    else if bytes_eq word (codes "anycrlf") then Some bsr.AnyCrLf
    else None

-- a modifier on or off, without a value; only an on-off one stands so
abbrev pub plain_given : Modifier → Bool → Modifiers → Option Modifiers
plain_given (modifier.Flag flag) on earlier = Some (flag_given flag on earlier)
plain_given (modifier.Number number) on earlier = None
plain_given modifier.Newline on earlier = None
plain_given modifier.Bsr on earlier = None
plain_given modifier.Replace on earlier = None

-- a modifier with its value, which is a number or one of its words; a replacement is any text
abbrev pub value_given : Modifier → List ℕ → Modifiers → Option Modifiers
value_given (modifier.Flag flag) value earlier = None
value_given (modifier.Number number) value earlier = option_map (λ n. number_given number n earlier) (decimal value)
value_given modifier.Newline value earlier = option_map (λ newline. record earlier { newline = Some newline })
    (newline_in_any_case value)
value_given modifier.Bsr value earlier = option_map (λ bsr. record earlier { bsr = Some bsr }) (bsr_of value)
value_given modifier.Replace value earlier = Some (record earlier { replace = Some value })
