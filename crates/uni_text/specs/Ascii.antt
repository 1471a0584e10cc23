-- ASCII's letters, digits and word characters, and its folding.
use Rattle.std.specs.Prelude.{ℕ, ◌+◌, Bool, ◌||◌, ◌==◌, if◌then◌else◌}
use Rattle.std.specs.Int.{is_in_range}

-- 0 to 9
abbrev pub is_digit : ℕ → Bool
is_digit c = is_in_range 48 57 c

-- A to Z
abbrev pub is_capital : ℕ → Bool
is_capital c = is_in_range 65 90 c

-- a to z
abbrev pub is_small : ℕ → Bool
is_small c = is_in_range 97 122 c

abbrev pub is_letter : ℕ → Bool
is_letter c = is_capital c || is_small c

-- `\w` without UCP: letters, digits and the underscore, which is 95 (pcre2pattern, "Generic character types")
abbrev pub is_word_char : ℕ → Bool
is_word_char c = is_letter c || (is_digit c || c == 95)

-- the folding outside UTF: a capital letter folds to its small letter, and any other number to itself
abbrev pub ascii_fold : ℕ → ℕ
ascii_fold c = if is_capital c then c + 32 else c
