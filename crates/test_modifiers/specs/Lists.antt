-- Lists of modifiers (pcre2test, "PATTERN MODIFIERS" and "SUBJECT MODIFIERS").
use Rattle.std.specs.Prelude.{ℕ, ◌+◌, ◌==◌, List, [], ◌∷◌, Bool, true, false, not, ◌&&◌, Option, Some, None, Ok}
use Rattle.std.specs.Prelude.{take, drop, position, nat_eq, codes, if◌then◌else◌}
use Rattle.std.specs.List.{slice_split, starts_with}
use Rattle.std.specs.Option.{option_map, option_and_then}
use Rattle.test_modifiers.specs.declared.modifiers.Modifiers.{Modifiers}
use Rattle.test_modifiers.specs.declared.kinds.Flag.TheVariants as flag
use Rattle.test_modifiers.specs.declared.kinds.Modifier.{Modifier}
use Rattle.test_modifiers.specs.declared.refusal.Refusal.TheVariants.{UnknownModifier, BadModifierValue}
use Rattle.test_modifiers.specs.Modifiers.{ungiven, flag_given}
use Rattle.test_modifiers.specs.Table.{by_name, by_letter}
use Rattle.test_modifiers.specs.Values.{plain_given, value_given}
use Rattle.test_modifiers.specs.Refusals.{Reads, ◌>>=◌, or_refused}
use Rattle.test_modifiers.specs.Texts.{is_blank, without_begin, without_end}

-- letters that are joined, of which `xx` is one
abbrev pub begins_xx : List ℕ → Bool
begins_xx letters = starts_with nat_eq letters (codes "xx")

abbrev pub letter_given : Bool → ℕ → Modifiers → Option Modifiers
letter_given pattern c earlier = option_map (λ flag. flag_given flag true earlier) (by_letter pattern c)

abbrev pub letters_given : Bool → List ℕ → Modifiers → Option Modifiers
letters_given pattern [] earlier = Some earlier
letters_given pattern (c ∷ []) earlier = letter_given pattern c earlier
letters_given pattern (c ∷ d ∷ rest) earlier =
    if pattern && begins_xx (c ∷ d ∷ rest) then letters_given pattern rest (flag_given flag.ExtendedMore true earlier)
    else option_and_then (letters_given pattern (d ∷ rest)) (letter_given pattern c earlier)

-- the parts of an item: `-`, the name, and the value after the first `=`
abbrev pub is_equals : ℕ → Bool
is_equals c = c == 61

abbrev pub is_off : List ℕ → Bool
is_off [] = false
is_off (c ∷ rest) = c == 45

abbrev pub without_hyphen : List ℕ → List ℕ
without_hyphen [] = []
without_hyphen (c ∷ rest) = if c == 45 then rest else c ∷ rest

abbrev pub name_of : List ℕ → List ℕ
name_of text = elim (position is_equals text) [ None ↦ text | Some i ↦ take i text ]

abbrev pub value_of : List ℕ → Option (List ℕ)
value_of text = elim (position is_equals text) [ None ↦ None | Some i ↦ Some (drop (i + 1) text) ]

-- a modifier: with `-` it takes no value
abbrev pub modifier_given : Modifier → Bool → Option (List ℕ) → Modifiers → Option Modifiers
modifier_given modifier off None earlier = plain_given modifier (not off) earlier
modifier_given modifier true (Some value) earlier = None
modifier_given modifier false (Some value) earlier = value_given modifier value earlier

-- letters have neither `-` nor a value
abbrev pub joined_given : Bool → List ℕ → Bool → Option (List ℕ) → Modifiers → Option Modifiers
joined_given pattern name false None earlier = letters_given pattern name earlier
joined_given pattern name false (Some value) earlier = None
joined_given pattern name true value earlier = None

-- an item with its parts: a modifier of the list where it stands, else letters
abbrev pub parts_given : Bool → Bool → List ℕ → Option (List ℕ) → Modifiers → Reads Modifiers
parts_given pattern off name value earlier = elim (by_name pattern name) [
  | Some modifier ↦ or_refused (modifier_given modifier off value earlier) (BadModifierValue name)
  | None ↦ or_refused (joined_given pattern name off value earlier) (UnknownModifier name)
]

abbrev pub item_given : Bool → List ℕ → Modifiers → Reads Modifiers
item_given pattern text earlier =
    let body = without_hyphen text in
    parts_given pattern (is_off text) (name_of body) (value_of body) earlier

abbrev pub is_comma : ℕ → Bool
is_comma c = c == 44

-- the items in order, without the blanks before each; the first that is at fault decides
abbrev pub items_given : Bool → List (List ℕ) → Modifiers → Reads Modifiers
items_given pattern [] earlier = Ok earlier
items_given pattern (text ∷ texts) earlier = item_given pattern (without_begin is_blank text) earlier >>= items_given
    pattern texts

-- the modifiers of a list, of a pattern or of a subject; blanks at its end are passed over
unfoldable pub list_of : Bool → List ℕ → Reads Modifiers
list_of pattern list = items_given pattern (slice_split is_comma (without_end is_blank list)) ungiven
