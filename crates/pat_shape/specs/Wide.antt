-- What isn't matched by a wider expression isn't found by a search.
use Rattle.std.specs.Prelude.{◌≡◌, ℕ, ◌<◌, ◌≤◌, ◌+◌, List, ◌++◌, length, Option, Some, None}
use Rattle.pat_tree.specs.declared.options.PartialMode.TheVariants.{Off}
use Rattle.pat_bounds.specs.declared.bounds.Bound.{Bound}
use Rattle.pat_bounds.specs.Bounds.{at, bound}
use Rattle.match_items.specs.Subjects.{IsTextPlace}
use Rattle.ordered_search.specs.Stream.{State, reached, accepted, note, state, step, Stream, ends, ◌▸◌}
use Rattle.ordered_search.specs.Setting.{Setting, match_limit}
use Rattle.ordered_search.specs.PlaceAnswer.{Exhausted, Failed, answers, place_answer}
use Rattle.ordered_search.specs.MatchAnswer.{none_found, match_answer}
use Rattle.ordered_search.specs.Run.{run}
use Rattle.ordered_search.specs.Forward.{IsTextSearch}
use Rattle.ordered_search.proofs.ForwardStreams.{IsOnWay}
use Rattle.regex_hir.specs.Re.{Re}
use Rattle.regex_hir.specs.Matches.{Matches}
use Rattle.regex_hir.specs.Find.{Match, find}
use Rattle.pat_shape.specs.Looks.{IsLine, SeesLines}

-- each state is reached, at a place of P
unfoldable pub Only : (ℕ → Type 0) → Stream → Type 0
Only P (ends e) = Unit {0}
Only P (note k ▸ x) = Only P x
Only P (state reached s ▸ x) = P s.place × Only P x
Only P (state accepted s ▸ x) = ⊥
Only P (step ▸ x) = Only P x

-- A search without partial matching whose pattern takes no more than the limits allow, and wherever it gets from a
-- place the expression matches up to there.
pub record IsShapedSearch (g : Setting) (re : Re) (b : Bound) : Type 0 where
  pub wide : (d : ℕ) (s : State) → IsOnWay g None s → Only (Matches g.subject re s.place) (run g d g.whole s)
  pub bounded : bound g.class_has g.whole ≡ Some b
  pub steps : at b.steps (length g.subject + 1) ≤ match_limit g
  pub units : at b.units (length g.subject + 1) ≤ g.matching.frame_limit
  pub search : IsTextSearch g
  pub off : g.matching.«partial» ≡ Off

-- A place from which the expression matches nothing fails, no limit is passed, and nothing is told.
abbrev pub PlaceLaw : Type 0
PlaceLaw =
    (g : Setting) (re : Re) (b : Bound) → IsShapedSearch g re b
    → (p : ℕ) → IsTextPlace g.options g.subject p → ((q : ℕ) → ¬ Matches g.subject re p q)
    → place_answer g p ≡ answers (Failed Exhausted)

-- Where it isn't found from the start on, there is no match.
abbrev pub NoMatchLaw : Type 0
NoMatchLaw =
    (g : Setting) (re : Re) (b : Bound) → IsShapedSearch g re b
    → find re g.subject g.start ≡ None → match_answer g ≡ none_found

-- The places before the one where it is first found fail.
abbrev pub FirstLaw : Type 0
FirstLaw =
    (g : Setting) (re : Re) (b : Bound) → IsShapedSearch g re b
    → (m : Match) → find re g.subject g.start ≡ Some m
    → (p : ℕ) → IsTextPlace g.options g.subject p → g.start ≤ p → p < m.start
    → place_answer g p ≡ answers (Failed Exhausted)

-- nothing is found, or only past a place
abbrev pub IsPast : ℕ → Option Match → Type 0
IsPast e None = Unit {0}
IsPast e (Some m) = e < m.start

-- A line that ends in a text before the place where the expression is first found has no match.
abbrev pub LineLaw : Type 0
LineLaw =
    (g : Setting) (re : Re) (b : Bound) → IsShapedSearch g re b → SeesLines re
    → (before after : List ℕ) → IsLine before g.subject after → (from : ℕ) → from ≤ length before
    → IsPast (length before + length g.subject) (find re (before ++ (g.subject ++ after)) from)
    → match_answer g ≡ none_found
