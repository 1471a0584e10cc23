-- What the bytes of a run have in common.
use Rattle.std.specs.Prelude.{ℕ, Bool, not, ◌==◌}
use Rattle.std.specs.Char.{is_digit}
use Rattle.token_parts.specs.Bytes.{◌∈◌, is_word_byte}
use Rattle.token_parts.specs.declared.bytes.Run.{Run}
use Rattle.token_parts.specs.declared.bytes.Run.TheVariants.{Digits, Word, Options, Until}

abbrev pub passes : Run → ℕ → Bool
passes (Digits radix) c = is_digit c radix
passes Word c = is_word_byte c
passes Options c = c ∈ "imsxnJU"
passes (Until end) c = not (c == end)
