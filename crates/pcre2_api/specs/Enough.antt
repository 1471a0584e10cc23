-- How many searches the definition of the matches of a subject is given.
use Rattle.std.specs.Prelude.{◌≡◌, ◌<◌, ℕ, ◌+◌, ◌*◌, false, List, length}
use Rattle.pat_tree.specs.declared.options.MatchOptions.{MatchOptions}
use Rattle.pat_tree.specs.Pattern.{Pattern}
use Rattle.pcre2_api.specs.Walks.{all_from}

-- With any more of them than two a place, the matches are the same.
abbrev pub EnoughSearches : Type 0
EnoughSearches =
    (p : Pattern) (matching : MatchOptions) (subject : List ℕ) → length subject < 4294967295
    → (at more : ℕ)
    → all_from p matching subject ((2 * length subject + 2) + more) false at
    ≡ all_from p matching subject (2 * length subject + 2) false at
