-- What stands between the brackets of a class (pcre2pattern, "Square brackets and character classes").
use Rattle.std.specs.Prelude.{ℕ, zero, suc, Bool, true, false, not, ◌&&◌, nat_lt, List, [], ◌∷◌, length, Option}
use Rattle.std.specs.Prelude.{Some, None, Result, Ok, Err, slice_range, if◌then◌else◌}
use Rattle.std.specs.Str.{byte}
use Rattle.pat_tree.specs.declared.nodes.Part.{Part}
use Rattle.pat_tree.specs.declared.nodes.Part.TheVariants as part
use Rattle.pat_tree.specs.declared.nodes.ClassSpec.{ClassSpec}
use Rattle.pat_tree.specs.declared.nodes.SetName.TheVariants as set
use Rattle.uni_text.specs.declared.properties.Prop.{Prop}
use Rattle.uni_text.specs.Properties.{prop_by_name, prop_number}
use Rattle.token_parts.specs.declared.fault.Fault.{Fault}
use Rattle.token_parts.specs.declared.token.Token.{Token}
use Rattle.token_parts.specs.declared.token.Token.TheVariants.{End, Literal, Set, Property, ClassEnd, Hyphen}
use Rattle.token_parts.specs.Tell.{fault, ◌>>=◌}
use Rattle.pat_grammar.specs.State.{State, Reads, Item, item}

-- the character that a token stands for where a range may end
abbrev pub character : Token → Option ℕ
character (Literal c) = Some c
character Hyphen = Some (byte "-")
character _ = None

abbrev pub is_hyphen : Token → Bool
is_hyphen Hyphen = true
is_hyphen _ = false

-- nothing of the class follows
abbrev pub is_last : Token → Bool
is_last ClassEnd = true
is_last End = true
is_last _ = false

abbrev pub is_last_item : Result Item Fault → Bool
is_last_item (Ok (token, here, after)) = is_last token
is_last_item (Err f) = false

-- a property at a place, if there is one ("Unicode character properties")
abbrev pub property_if : Option Prop → Bool → Bool → ℕ → Result Part Fault
property_if (Some p) outside ucp at = Ok (part.Set (set.Property (prop_number p)) outside ucp)
property_if None outside ucp at = fault 147 at

abbrev pub property_part : List ℕ → Bool → Bool → ℕ → Result Part Fault
property_part name = property_if (prop_by_name name)

-- one part, and the parts after it
abbrev pub part_then : Part → Reads (List Part) → Reads (List Part)
part_then p rest = rest >>= λ (parts, end). Ok (p ∷ parts, end)

module _ (text : List ℕ) where
  -- What a character at `here` and a hyphen begin, the hyphen being between two states: with a character after it a
  -- range. The hyphen is a character where it is last, and may not stand before a set.
  unfoldable pub range_or_hyphen : ℕ → (State → Reads (List Part)) → ℕ → State → State → State → Reads (List Part)
  range_or_hyphen n rest c here before after = item text true n after >>= λ (token, to, end). elim (character token) [
    | Some d ↦ if nat_lt d c then fault 108 here.at else part_then (part.Range c d) (rest end)
    | None ↦ if is_last token then part_then (part.Range c c) (rest before) else fault 150 before.at
  ]

  -- a character at `here`
  unfoldable pub from_character : ℕ → (State → Reads (List Part)) → ℕ → State → State → Reads (List Part)
  from_character n rest c here after = do
    (hyphen, before, beyond) ← item text true n after
    if is_hyphen hyphen then range_or_hyphen n rest c here before beyond else part_then (part.Range c c) (rest after)

  -- A set: a hyphen after it must be last.
  unfoldable pub from_set : ℕ → (State → Reads (List Part)) → Part → State → Reads (List Part)
  from_set n rest set after = do
    (hyphen, before, beyond) ← item text true n after
    if is_hyphen hyphen && not (is_last_item (item text true n beyond)) then fault 150 before.at else part_then set
        (rest after)

  -- What begins at a token. A bracket that closes nothing yet is a character, unless a class may be empty.
  abbrev pub from_item : ℕ → (State → Reads (List Part)) → Bool → Token → State → State → Reads (List Part)
  from_item n rest first End here after = fault 106 (length text)
  from_item n rest first ClassEnd here after =
      if first && not here.options.allow_empty_class then from_character n rest (byte "]") here after else Ok
      ([], after)
  from_item n rest first Hyphen here after = from_character n rest (byte "-") here after
  from_item n rest first (Literal c) here after = from_character n rest c here after
  from_item n rest first (Set set outside) here after = from_set n rest (part.Set set outside here.options.ucp) after
  from_item n rest first (Property from to outside) here after =
      property_part (slice_range text from to) outside here.options.ucp here.at >>= λ p. from_set n rest p after
  from_item n rest first _ here after = fault 195 here.at

  -- the parts up to the closing bracket, from the first one on or from a later one
  unfoldable pub class_parts : ℕ → Bool → State → Reads (List Part)
  class_parts zero first st = fault 0 0
  class_parts (suc n) first st = item text true n st >>= λ (token, here, after). from_item n (class_parts n false)
      first token here after

  -- a class from the place after its opening bracket on
  unfoldable pub class_spec : ℕ → Bool → State → Reads ClassSpec
  class_spec n negated st = class_parts n true st >>= λ (parts, end).
      Ok (record { negated = negated; caseless = st.options.caseless; parts = parts }, end)
