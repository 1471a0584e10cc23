-- The sets of characters that have a name, without UCP as ASCII has them, and with UCP by Unicode's properties
-- (pcre2pattern, "Generic character types" and "POSIX character classes").
use Rattle.std.specs.Prelude.{ℕ, Bool, true, false, not, ◌&&◌, ◌||◌, ◌==◌, nat_lt}
use Rattle.std.specs.Int.{is_in_range}
use Rattle.ucd_category.specs.declared.GeneralCategory.TheVariants.{UppercaseLetter, LowercaseLetter, DecimalNumber}
use Rattle.ucd_category.specs.declared.GeneralCategory.TheVariants.{SpaceSeparator, Control, Format}
use Rattle.ucd_category.specs.declared.GeneralCategoryGroup.TheVariants.{Letter, Mark, Number, Punctuation, Symbol}
use Rattle.uni_text.specs.declared.properties.Prop.TheVariants.{Xan, Xsp, Xwd, Group, Category}
use Rattle.uni_text.specs.Ascii.{is_digit, is_capital, is_small, is_letter, is_word_char}
use Rattle.uni_text.specs.Properties.{has_prop, is_horizontal}

-- `\d`
abbrev pub digit : Bool → ℕ → Bool
digit false c = is_digit c
digit true c = has_prop (Category DecimalNumber) c

-- `\s`: HT, LF, VT, FF, CR and space
abbrev pub space : Bool → ℕ → Bool
space false c = is_in_range 9 13 c || c == 32
space true c = has_prop Xsp c

-- `\w`
abbrev pub word : Bool → ℕ → Bool
word false c = is_word_char c
word true c = has_prop Xwd c

abbrev pub alpha : Bool → ℕ → Bool
alpha false c = is_letter c
alpha true c = has_prop (Group Letter) c

abbrev pub alnum : Bool → ℕ → Bool
alnum false c = is_letter c || is_digit c
alnum true c = has_prop Xan c

abbrev pub lower : Bool → ℕ → Bool
lower false c = is_small c
lower true c = has_prop (Category LowercaseLetter) c

abbrev pub upper : Bool → ℕ → Bool
upper false c = is_capital c
upper true c = has_prop (Category UppercaseLetter) c

abbrev pub blank : Bool → ℕ → Bool
blank false c = c == 32 || c == 9
blank true c = is_horizontal c

abbrev pub cntrl : Bool → ℕ → Bool
cntrl false c = is_in_range 0 31 c || c == 127
cntrl true c = has_prop (Category Control) c

-- the characters that set the direction of a text, and write nothing
abbrev pub is_mark_of_direction : ℕ → Bool
is_mark_of_direction c = c == 0x61C || c == 0x180E || is_in_range 0x2066 0x2069 c

-- with UCP letters, marks, numbers, punctuation, symbols, and the characters of format that write something
abbrev pub graph : Bool → ℕ → Bool
graph false c = is_in_range 33 126 c
graph true c =
    has_prop (Group Letter) c || has_prop (Group Mark) c || has_prop (Group Number) c || has_prop (Group Punctuation)
    c || has_prop (Group Symbol) c
    || (has_prop (Category Format) c && not (is_mark_of_direction c))

abbrev pub print : Bool → ℕ → Bool
print false c = is_in_range 32 126 c
print true c = graph true c || has_prop (Category SpaceSeparator) c

-- with UCP punctuation, and the symbols below 256
abbrev pub punct : Bool → ℕ → Bool
punct false c = is_in_range 33 126 c && not (is_letter c || is_digit c)
punct true c = has_prop (Group Punctuation) c || (has_prop (Group Symbol) c && nat_lt c 256)

-- ASCII and hexadecimal digits are the same with UCP
abbrev pub ascii : ℕ → Bool
ascii c = is_in_range 0 127 c

abbrev pub xdigit : ℕ → Bool
xdigit c = is_digit c || is_in_range 97 102 c || is_in_range 65 70 c
