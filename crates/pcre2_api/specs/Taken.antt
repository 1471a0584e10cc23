-- What a replacement takes from a match (pcre2api, "Creating a new string with substitutions").
use Rattle.std.specs.Prelude.{ℕ, List, [], ◌∷◌, Some, slice_get, map, unwrap_or}
use Rattle.std.specs.Option.{option_map, option_and_then}
use Rattle.pat_tree.specs.declared.names.NameEntry.{NameEntry}
use Rattle.ordered_search.specs.PlaceAnswer.{Outcome}
use Rattle.subst_plan.specs.Matched.{Matched}
use Rattle.pcre2_api.specs.Captured.{text_at}
use Rattle.pcre2_api.specs.Matched.{MatchParts}

abbrev pub named_group : NameEntry → List ℕ × ℕ
named_group e = (e.name, e.group)

-- The texts of the match and of its groups, the names of groups, and the last name on its path.
abbrev pub taken : List NameEntry → List (List ℕ) → List ℕ → Outcome → Matched
taken names verb_names subject o = record {
  texts = Some (text_at subject (record { from = o.keep; to = o.to }))
      ∷ map (option_map (text_at subject)) o.caps;
  names = map named_group names;
  mark = unwrap_or (option_and_then (slice_get verb_names) o.mark) [];
}

abbrev pub taken_from : MatchParts → Matched
taken_from f = taken f.code.tree.names f.code.tree.verb_names f.subject f.outcome
