-- Laws on the ordered search.
use Rattle.std.specs.Prelude.{◌≡◌, ◌≢◌, ◌≤◌, ℕ, suc, ◌+◌, Some, None, List, [], ◌∷◌}
use Rattle.pat_tree.specs.declared.options.PartialMode.TheVariants.{Off}
use Rattle.pat_tree.specs.Nested.{Nested}
use Rattle.ordered_search.specs.Stream.{State, Ending, by_halt, cut, Note, Event, note, state, step, Stream, ends, ◌▸◌}
use Rattle.ordered_search.specs.Setting.{Setting}
use Rattle.ordered_search.specs.Run.{run}
use Rattle.ordered_search.specs.PlaceAnswer.{PlaceAnswer, MatchLimit, NoDepth, Walked, at_ending, decision, walk}
use Rattle.ordered_search.specs.PlaceAnswer.{place_answer}
use Rattle.ordered_search.specs.MatchAnswer.{PartialFrom, match_answer}

-- The depth.

unfoldable pub ending : Stream → Ending
ending (ends e) = e
ending (e ▸ x) = ending x

-- how many Steps are in it
unfoldable pub step_count : Stream → ℕ
step_count (ends e) = 0
step_count (note k ▸ x) = step_count x
step_count (state how s ▸ x) = step_count x
step_count (step ▸ x) = suc (step_count x)

-- The depth d is used up only after d Steps.
abbrev pub CutLaw : Type 0
CutLaw = (g : Setting) (d : ℕ) (t : Nested) (s : State) → ending (run g d t s) ≡ by_halt cut
    → d ≤ step_count (run g d t s)

-- So no place is answered by it.
abbrev pub NoCutAnswer : Type 0
NoCutAnswer = (g : Setting) (p : ℕ) → (place_answer g p).answer ≢ NoDepth

-- The walk.

-- the stream with these events before it
unfoldable pub after : List Event → Stream → Stream
after [] x = x
after (e ∷ es) x = e ▸ after es x

-- what is told among the events, and how many of them are Steps
unfoldable pub told_in : List Event → List Note
told_in [] = []
told_in (note k ∷ es) = k ∷ told_in es
told_in (state how s ∷ es) = told_in es
told_in (step ∷ es) = told_in es

unfoldable pub steps_in : List Event → ℕ
steps_in [] = 0
steps_in (note k ∷ es) = steps_in es
steps_in (state how s ∷ es) = steps_in es
steps_in (step ∷ es) = suc (steps_in es)

-- no state of them answers
unfoldable pub ArePassed : Setting → List Event → Type 0
ArePassed g [] = Unit {0}
ArePassed g (note k ∷ es) = ArePassed g es
ArePassed g (state how s ∷ es) = (decision g how s ≡ None) × ArePassed g es
ArePassed g (step ∷ es) = ArePassed g es

-- what comes next gives the answer: the ending, a state that is admitted or ends its place, or a Step where none is
-- left
unfoldable pub Gives : Setting → ℕ → Stream → PlaceAnswer → Type 0
Gives g left (ends e) a = a ≡ at_ending e
Gives g left (note k ▸ x) a = ⊥
Gives g left (state how s ▸ x) a = decision g how s ≡ Some a
Gives g left (step ▸ x) a = (left ≡ 0) × (a ≡ MatchLimit)

-- The first event that gives an answer gives it, and the names, callouts and hits are those before it.
pub record IsWalk (g : Setting) (limit : ℕ) (x : Stream) (w : Walked) : Type 0 where
  pub before : List Event
  pub rest : Stream
  pub left : ℕ
  pub parts : after before rest ≡ x
  pub passed : ArePassed g before
  pub counted : steps_in before + left ≡ limit
  pub told : w.notes ≡ told_in before
  pub answered : Gives g left rest w.answer

abbrev pub WalkLaw : Type 0
WalkLaw = (g : Setting) (limit : ℕ) (x : Stream) → IsWalk g limit x (walk g limit x)

-- The search over all start places.

-- Without partial matching no search finds a partial match.
abbrev pub NoPartialLaw : Type 0
NoPartialLaw = (g : Setting) → g.matching.«partial» ≡ Off → (p : ℕ) → (match_answer g).answer ≢ PartialFrom p
