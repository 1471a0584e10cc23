-- Names of verbs, as they are shown where `mark` asks for them (pcre2test, "Showing MARK names"): a mark → its line.
use Rattle.std.specs.Prelude.{ℕ, Bool, if◌then◌else◌, List, [], ◌++◌, codes, Option, Some, None, slice_get, slice_range}
use Rattle.std.specs.Option.{option_and_then}
use Rattle.tool_io.specs.Texts.{line}
use Rattle.pat_tree.specs.Pattern.{Pattern}
use Rattle.ordered_search.specs.PlaceAnswer.{Outcome}
use Rattle.test_lines.specs.Shown.{shown, groups_text}

-- How matches are shown: in UTF or outside it, and with these names of verbs, which are none where marks aren't shown.
pub record Showing : Type 0 where
  pub utf : Bool
  pub names : List (List ℕ)

abbrev pub showing : Pattern → Bool → Showing
showing p marks = record { utf = p.options.utf; names = if marks then p.verb_names else [] }

-- a name, after other text, in UTF or outside it
abbrev pub name_line : Bool → List ℕ → List ℕ → List ℕ
name_line utf before name = line (before ++ shown utf name)

-- how a line about a partial match begins
abbrev pub partial_head : Bool → Option (List ℕ) → List ℕ
partial_head utf None = codes "Partial match"
partial_head utf (Some name) = codes "Partial match, mark=" ++ shown utf name

module _ (s : Showing) where
  abbrev pub name_of : Option ℕ → Option (List ℕ)
  name_of mark = option_and_then (slice_get s.names) mark

  -- the mark of a match
  abbrev pub mark_line : Option (List ℕ) → List ℕ
  mark_line None = []
  mark_line (Some name) = name_line s.utf (codes "MK: ") name

  -- that there is no match
  abbrev pub missed_line : Option (List ℕ) → List ℕ
  missed_line None = line (codes "No match")
  missed_line (Some name) = name_line s.utf (codes "No match, mark = ") name

  -- a partial match of this text, with the last name that was met
  abbrev pub partial_text : List ℕ → Option ℕ → List ℕ
  partial_text text mark = partial_head s.utf (name_of mark) ++ name_line s.utf (codes ": ") text

  -- and between two places of a subject
  abbrev pub partial_line : List ℕ → ℕ → ℕ → Option ℕ → List ℕ
  partial_line subject from to mark = partial_text (slice_range subject from to) mark

  -- a match: its texts, and its mark
  abbrev pub match_text : List ℕ → Outcome → List ℕ
  match_text subject o = groups_text s.utf subject o ++ mark_line (name_of o.mark)
