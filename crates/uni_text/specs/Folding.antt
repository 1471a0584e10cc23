-- The simple case folding of Unicode (The Unicode Standard, section 3.13), which is the folding in UTF.
use Rattle.std.specs.Prelude.{ℕ, Bool, ◌||◌, ◌&&◌, ◌==◌, nat_le, if◌then◌else◌}
use Rattle.ucd_case.specs.CaseFolding.{simple_fold}
use Rattle.uni_text.specs.Ascii.{ascii_fold}
use Rattle.uni_text.specs.Properties.{is_char}

-- a character's folding by the lines of CaseFolding.txt; a number that is no character folds to itself
abbrev pub fold : ℕ → ℕ
fold c = if is_char c then simple_fold c else c

-- in UTF-8 a character past ASCII with the folding of c may begin with the byte b: with any where c is past ASCII
-- itself, with that of the Kelvin sign where c is k, and with that of the long s where c is s
abbrev pub begins_past_ascii : ℕ → ℕ → Bool
begins_past_ascii c b = nat_le 128 c || (ascii_fold c == 107 && b == 0xE2 || ascii_fold c == 115 && b == 0xC5)
