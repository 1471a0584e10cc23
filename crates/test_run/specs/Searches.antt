-- What a search comes to, as the code says it: an answer → what is written, and where the next
-- search begins.
use Rattle.std.specs.Prelude.{◌≡◌, ℕ, ◌≤◌, ◌==◌, List, [], ◌++◌, Option, ⊤}
use Rattle.pat_tree.specs.Pattern.{pattern_of}
use Rattle.ordered_search.specs.PlaceAnswer.{Outcome}
use Rattle.pcre2_errors.specs.declared.error.MatchError.{MatchError}
use Rattle.pcre2_errors.specs.declared.error.MatchError.TheVariants as told
use Rattle.test_run.specs.declared.course.Course.{Course as Kept}
use Rattle.test_run.specs.declared.course.Course.TheVariants as kept
use Rattle.test_run.specs.declared.matches.Search.{Search}
use Rattle.test_run.specs.declared.matches.Search.TheVariants as search
use Rattle.test_run.specs.Courses.{Course, between, tests, passed}
use Rattle.test_lines.specs.Lines.{unmatched_line}
use Rattle.pcre2_api.specs.Walks.{Answer, found, none, failed}
use Rattle.test_lines.specs.Marks.{Showing}

-- what is told of a search in a subject of this length
abbrev pub IsSearch : ℕ → Search → Answer → Type 0
IsSearch len (search.Found to is_empty) (found o) =
    (to ≡ o.to) × (is_empty ≡ (o.keep == o.to)) × (o.to ≤ len)
IsSearch len (search.Nothing mark) none = ⊤
IsSearch len search.Failed (failed e) = ⊤
IsSearch _ _ _ = ⊥

-- a partial match lies in a subject of this length
abbrev pub LiesIn : ℕ → MatchError → Type 0
LiesIn len (told.Partial from to mark) = (from ≤ to) × (to ≤ len)
LiesIn len _ = ⊤

-- the name that is told where nothing is found
abbrev pub TellsMissed : Option ℕ → Search → Type 0
TellsMissed last (search.Nothing mark) = mark ≡ last
TellsMissed last _ = ⊤

-- what is told of a match
abbrev pub TellsMatch : Search → Outcome → Type 0
TellsMatch (search.Found to is_empty) o = (to ≡ o.to) × (is_empty ≡ (o.keep == o.to))
TellsMatch _ o = ⊥

-- what is written of an error, and what is told of it; of want of memory nothing is
abbrev pub error_text : Showing → List ℕ → MatchError → List ℕ
error_text s subject (told.NoMatch mark) = []
error_text s subject told.Memory = []
error_text s subject e = unmatched_line s subject e

-- the same after these callouts
abbrev pub refused_text : List ℕ → Showing → List ℕ → MatchError → List ℕ
refused_text calls s subject told.Memory = []
refused_text calls s subject e = calls ++ error_text s subject e

abbrev pub TellsError : MatchError → Search → Type 0
TellsError (told.NoMatch mark) s = s ≡ search.Nothing mark
TellsError told.Memory s = ⊥
TellsError e s = s ≡ search.Failed

-- what subject lines are searched for, where the pattern is compiled
abbrev pub course_of : Kept → Course
course_of kept.Between = between
course_of (kept.Tests tested) =
    tests tested.pattern (pattern_of tested.code.tree) tested.code.tree.names tested.modifiers
course_of kept.Passed = passed
