-- What a search says of start optimisations (pcre2api, "Option bits for pcre2_compile()",
-- PCRE2_NO_START_OPTIMIZE).
use Rattle.std.specs.Prelude.{◌≡◌, true, false}
use Rattle.pat_tree.specs.declared.options.PartialMode.TheVariants.{Off}
use Rattle.ordered_search.specs.Setting.{Setting}
use Rattle.ordered_search.specs.MatchAnswer.{match_answer}
use Rattle.search_starts.specs.StartLaw.{IsLimit, IsUnverbed, with_no_start_optimize}

-- For a pattern without verbs, callouts and calls, and without partial matching, the search gives
-- the same with the option and without it, where it passes no limit without start optimisations.
abbrev pub AreAlike : Setting → Type 0
AreAlike g =
    g.matching.«partial» ≡ Off → IsUnverbed g.whole
    → ¬ IsLimit (match_answer (with_no_start_optimize true g)).answer
    → match_answer (with_no_start_optimize false g) ≡ match_answer (with_no_start_optimize true g)
