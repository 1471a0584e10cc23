-- Searches that a text which is missing in the subject answers (docs/SPEED.md, "A text that every match needs").
use Rattle.std.specs.Prelude.{◌≡◌, ◌<◌, ◌≤◌, ℕ, ◌+◌, Bool, true, IsTrue, List, length, Some, slice_index}
use Rattle.pat_tree.specs.declared.options.PartialMode.TheVariants.{Off}
use Rattle.match_items.specs.Subjects.{IsText, IsTextPlace}
use Rattle.match_items.specs.Views.{fold_in}
use Rattle.pat_bounds.specs.declared.bounds.Bound.{Bound}
use Rattle.pat_bounds.specs.Bounds.{at, bound}
use Rattle.pat_needs.specs.Needs.{may_take, Needs}
use Rattle.pat_needs.specs.Distances.{NeedsAt}
use Rattle.pat_needs.specs.Lacking.{IsBoundWithout}
use Rattle.pat_needs.specs.Texts.{Stands}
use Rattle.ordered_search.specs.Setting.{Setting, match_limit}
use Rattle.ordered_search.specs.PlaceAnswer.{Exhausted, Failed, answers, place_answer}
use Rattle.ordered_search.specs.MatchAnswer.{none_found, match_answer}

-- Every match takes a text that stands nowhere in the subject, and what a search without it takes
-- at most is within the limits. There is no partial matching, characters fold as they do in UTF or
-- outside it, and in UTF the subject is UTF-8 and the start a place in it.
pub record IsWithoutNeed (g : Setting) (sets : List (List Bool)) (b : Bound) : Type 0 where
  pub needs : Needs (may_take g.options.utf g.class_has) g.options.utf true sets g.whole
  pub small : (k : ℕ) → k < length g.subject → slice_index g.subject k < 256
  pub missing : (k : ℕ) → ¬ Stands sets g.subject k
  pub bounded :
      IsBoundWithout (may_take g.options.utf g.class_has) g.options.utf g.class_has sets g.whole b
  pub steps : at b.steps (length g.subject + 1) ≤ match_limit g
  pub units : at b.units (length g.subject + 1) ≤ g.matching.frame_limit
  pub folds : g.fold ≡ fold_in g.options.utf
  pub text : IsTrue g.options.utf → IsText g.options g.subject
  pub begun : IsTrue g.options.utf → IsTextPlace g.options g.subject g.start
  pub off : g.matching.«partial» ≡ Off

abbrev pub NeedLaw : Type 0
NeedLaw = (g : Setting) (sets : List (List Bool)) (b : Bound) → IsWithoutNeed g sets b → match_answer g ≡ none_found

-- The same of a text that every match takes so many bytes behind the place where it begins, and that
-- doesn't stand so far behind the place p.
pub record IsWithoutBegin (g : Setting) (sets : List (List Bool)) (d : ℕ) (b : Bound)
    (p : ℕ) : Type 0 where
  pub needs : NeedsAt (may_take g.options.utf g.class_has) g.options.utf sets d g.whole
  pub small : (k : ℕ) → k < length g.subject → slice_index g.subject k < 256
  pub missing : ¬ Stands sets g.subject (p + d)
  pub bounded : bound g.class_has g.whole ≡ Some b
  pub steps : at b.steps (length g.subject + 1) ≤ match_limit g
  pub units : at b.units (length g.subject + 1) ≤ g.matching.frame_limit
  pub folds : g.fold ≡ fold_in g.options.utf
  pub text : IsTrue g.options.utf → IsText g.options g.subject
  pub begun : IsTrue g.options.utf → IsTextPlace g.options g.subject g.start
  pub here : IsTrue g.options.utf → IsTextPlace g.options g.subject p
  pub off : g.matching.«partial» ≡ Off

abbrev pub BeginLaw : Type 0
BeginLaw = (g : Setting) (sets : List (List Bool)) (d : ℕ) (b : Bound) (p : ℕ)
    → IsWithoutBegin g sets d b p → place_answer g p ≡ answers (Failed Exhausted)
