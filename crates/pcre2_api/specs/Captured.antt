-- The texts of a match (pcre2api, "How pcre2_match() returns a string and captured substrings", "Extracting captured
-- substrings by name").
use Rattle.std.specs.Prelude.{ℕ, zero, suc, List, [], ◌∷◌, length, Option, Some, None, slice_get, slice_range}
use Rattle.std.specs.Prelude.{if◌then◌else◌, is_some}
use Rattle.std.specs.Option.{option_map, option_and_then}
use Rattle.std.specs.Str.{bytes_eq}
use Rattle.pat_tree.specs.declared.names.NameEntry.{NameEntry}
use Rattle.frame_store.specs.declared.registers.Span.{Span}
use Rattle.frame_store.specs.Captures.{Captures, capture}
use Rattle.ordered_search.specs.PlaceAnswer.{Outcome}
use Rattle.pcre2_api.specs.Matched.{MatchParts}

-- where a group's text stands, if it is set; group 0 is the whole match
abbrev pub span_of : Outcome → ℕ → Option Span
span_of o zero = Some (record { from = o.keep; to = o.to })
span_of o (suc n) = capture o.caps (suc n)

abbrev pub text_at : List ℕ → Span → List ℕ
text_at subject span = slice_range subject span.from span.to

-- a group's text, if it is set
abbrev pub group_of : MatchParts → ℕ → Option (List ℕ)
group_of f n = option_map (text_at f.subject) (span_of f.outcome n)

-- the text of the first set group of these that has the name
abbrev pub first_named : MatchParts → List ℕ → List NameEntry → Option (List ℕ)
first_named f name [] = None
first_named f name (e ∷ es) =
    if bytes_eq e.name name then (elim (group_of f e.group) [ Some text ↦ Some text | None ↦ first_named f name es ])
    else first_named f name es

abbrev pub named_of : MatchParts → List ℕ → Option (List ℕ)
named_of f name = first_named f name f.code.tree.names

-- the greatest number up to n of a set group, 0 if none is set
unfoldable pub top_within : Captures → ℕ → ℕ
top_within caps zero = 0
top_within caps (suc n) = if is_some (capture caps (suc n)) then suc n else top_within caps n

abbrev pub top_of : Outcome → ℕ
top_of o = top_within o.caps (length o.caps)

-- the last name on the match's path
abbrev pub mark_of : MatchParts → Option (List ℕ)
mark_of f = option_and_then (slice_get f.code.tree.verb_names) f.outcome.mark
