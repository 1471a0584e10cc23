-- Unicode's properties of a character, as `\p` names them (pcre2pattern, "Unicode character properties"), by the tables
-- of the crate `unicode`.
use Rattle.std.specs.Prelude.{ℕ, ◌+◌, Bool, true, not, ◌&&◌, ◌||◌, ◌==◌, nat_lt, List, map, filter, find, bytes_eq}
use Rattle.std.specs.Prelude.{Option, slice_get}
use Rattle.std.specs.Option.{option_map}
use Rattle.std.specs.Char.{to_ascii_lowercase}
use Rattle.std.specs.Int.{is_in_range}
use Rattle.ucd_category.specs.declared.GeneralCategory.{GeneralCategory}
use Rattle.ucd_category.specs.declared.GeneralCategory.TheVariants.{NonspacingMark, ConnectorPunctuation}
use Rattle.ucd_category.specs.declared.GeneralCategoryGroup.{GeneralCategoryGroup}
use Rattle.ucd_category.specs.declared.GeneralCategoryGroup.TheVariants.{Other, Letter, CasedLetter, Mark, Number}
use Rattle.ucd_category.specs.declared.GeneralCategoryGroup.TheVariants.{Punctuation, Symbol, Separator}
use Rattle.ucd_category.specs.GeneralCategory.{general_category, general_category_number, general_category_eq}
use Rattle.ucd_category.specs.GeneralCategoryGroup.{in_group}
use Rattle.ucd_script.specs.Script.{script, script_number, script_eq}
use Rattle.uni_text.specs.declared.properties.Prop.{Prop}
use Rattle.uni_text.specs.declared.properties.Prop.TheVariants.{Any, Xan, Xsp, Xps, Xwd, Group, Category, Script}
use Rattle.uni_text.specs.Names.{names}

-- the number c is a character: at most U+10FFFF, and no surrogate
abbrev pub is_char : ℕ → Bool
is_char c = nat_lt c 0xD800 || is_in_range 0xE000 0x10_FFFF c

-- `\h`: the horizontal white space
abbrev pub is_horizontal : ℕ → Bool
is_horizontal c = c == 0x9 || c == 0x20 || c == 0xA0 || c == 0x1680 || c == 0x180E || is_in_range 0x2000 0x200A c
    || c == 0x202F || c == 0x205F || c == 0x3000

-- `\v`: the vertical white space
abbrev pub is_vertical : ℕ → Bool
is_vertical c = is_in_range 0xA 0xD c || c == 0x85 || c == 0x2028 || c == 0x2029

-- the categories of a group, as L is Lu, Ll, Lt, Lm and Lo
abbrev pub is_in : GeneralCategoryGroup → ℕ → Bool
is_in group c = in_group group (general_category c)

-- a category alone
abbrev pub is_of : GeneralCategory → ℕ → Bool
is_of category c = general_category_eq (general_category c) category

-- letters and numbers
abbrev pub is_alnum : ℕ → Bool
is_alnum c = is_in Letter c || is_in Number c

-- `\s` with UCP: a separator, or horizontal or vertical white space
abbrev pub is_space : ℕ → Bool
is_space c = is_in Separator c || is_horizontal c || is_vertical c

-- `\w` with UCP: a letter, a number, a mark without a place of its own (Mn), or what connects words as the underscore
-- does (Pc)
abbrev pub is_word_of_unicode : ℕ → Bool
is_word_of_unicode c = is_in Letter c || is_in Number c || (is_of NonspacingMark c || is_of ConnectorPunctuation c)

-- what a property asks of a character
abbrev pub prop_holds : Prop → ℕ → Bool
prop_holds Any c = true
prop_holds Xan c = is_alnum c
prop_holds Xsp c = is_space c
prop_holds Xps c = is_space c
prop_holds Xwd c = is_word_of_unicode c
prop_holds (Group group) c = is_in group c
prop_holds (Category category) c = is_of category c
prop_holds (Script value) c = script_eq (script c) value

-- the number c is a character with the property. A number that is no character, as a surrogate, has none
abbrev pub has_prop : Prop → ℕ → Bool
has_prop p c = is_char c && prop_holds p c

-- spaces, hyphens and underscores don't count in a name
abbrev pub is_passed_over : ℕ → Bool
is_passed_over b = b == 32 || b == 45 || b == 95

-- a name without what doesn't count in it, and in small letters
abbrev pub plain_name : List ℕ → List ℕ
plain_name written = map to_ascii_lowercase (filter (λ b. not (is_passed_over b)) written)

-- the property of the first row of a name, and that of the row at a place
abbrev pub named : List (List ℕ × Prop) → List ℕ → Option Prop
named rows written = option_map (λ (row : List ℕ × Prop). row.1)
    (find (λ (row : List ℕ × Prop). bytes_eq (plain_name written) row.0) rows)

abbrev pub numbered : List (List ℕ × Prop) → ℕ → Option Prop
numbered rows n = option_map (λ (row : List ℕ × Prop). row.1) (slice_get rows n)

-- the property of a name, if it is one's
abbrev pub prop_by_name : List ℕ → Option Prop
prop_by_name = named names

-- the property of a number, if it is one's
abbrev pub prop_by_number : ℕ → Option Prop
prop_by_number = numbered names

-- groups in the order of their names
abbrev pub group_number : GeneralCategoryGroup → ℕ
group_number Other = 0
group_number Letter = 1
group_number CasedLetter = 2
group_number Mark = 3
group_number Number = 4
group_number Punctuation = 5
group_number Symbol = 6
group_number Separator = 7

-- the place of a property in the list of names: five of their own, eight groups, thirty categories, and the scripts
abbrev pub prop_number : Prop → ℕ
prop_number Any = 0
prop_number Xan = 1
prop_number Xsp = 2
prop_number Xps = 3
prop_number Xwd = 4
prop_number (Group group) = 5 + group_number group
prop_number (Category category) = 13 + general_category_number category
prop_number (Script value) = 43 + script_number value
