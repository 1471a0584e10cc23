-- The stream of a search as a machine goes through it: with a pause for each turn of its loop that meets nothing.
use Rattle.std.specs.Prelude.{ℕ, zero, suc, ◌+◌, Bool, true, false, Option, Some, None, nat_le}
use Rattle.pat_tree.specs.declared.options.PartialMode.TheVariants.{Off, Soft, Hard}
use Rattle.ordered_search.specs.Stream.{State, VerbEnding, next_branch, is_partial, too_many_units, Ending}
use Rattle.ordered_search.specs.Stream.{exhausted, by_verb, by_halt, Note, hit_end, How, reached, note, state, step}
use Rattle.ordered_search.specs.Stream.{Stream, ends, ◌▸◌}
use Rattle.ordered_search.specs.Setting.{Setting, counts}
use Rattle.ordered_search.specs.Tests.{move_to}
use Rattle.ordered_search.specs.PlaceAnswer.{Walked, MatchLimit, answers, with_note, at_ending, decision}

pub data Moves : Type 0 where
  stops : Ending → Moves
  pause : Moves → Moves
  stepped : Moves → Moves
  noted : Note → Moves → Moves
  found : How → State → Moves → Moves

abbrev pub exhaust : Moves
exhaust = stops exhausted

-- what follows a state, where the last argument is left for when it fails
abbrev pub Follow : Type 0
Follow = How → State → Moves → Moves

-- what a verb leads to that is backtracked onto
abbrev pub Handler : Type 0
Handler = VerbEnding → Moves

-- a search before what follows, what is left where it fails, and what its verbs lead to
abbrev pub Path : Type 0
Path = State → Follow → Moves → Handler → Moves

-- a stream before what follows each of its states
unfoldable pub before : Stream → Follow → Moves → Handler → Moves
before (ends exhausted) k f h = f
before (ends (by_verb v)) k f h = h v
before (ends (by_halt x)) k f h = stops (by_halt x)
before (note n ▸ x) k f h = noted n (before x k f h)
before (state how s ▸ x) k f h = k how s (before x k f h)
before (step ▸ x) k f h = stepped (before x k f h)

-- a THEN leads to f
abbrev pub catching : Moves → Handler → Handler
catching f h next_branch = f
catching f h v = h v

-- where the whole pattern ends
abbrev pub at_end : Follow
at_end how s f = found how s f

abbrev pub at_verbs : Handler
at_verbs v = stops (by_verb v)

-- a place, where there is one
abbrev pub going : Option ℕ → State → Follow → Moves → Moves
going None s k f = f
going (Some p) s k f = k reached (move_to p s) f

module _ (g : Setting) where
  -- n more units, where there is room for them
  unfoldable pub holding : ℕ → State → (State → Moves) → Moves
  holding n s x =
      elim (nat_le (s.units + n) g.matching.frame_limit) [
        | true ↦ x (record s { units = s.units + n })
        | false ↦ stops (by_halt too_many_units)
      ]

  -- the subject's end was reached, and x follows
  unfoldable pub reaching : Bool → State → Moves → Moves
  reaching false s x = x
  reaching true s x =
      elim g.matching.«partial» [
        | Off ↦ x
        | Soft ↦ elim (counts g s) [ true ↦ noted hit_end x | false ↦ x ]
        | Hard ↦ elim (counts g s) [ true ↦ stops (by_halt is_partial) | false ↦ x ]
      ]

  -- the walk over it, with so many Steps left
  unfoldable pub tread : ℕ → Moves → Walked
  tread n (stops e) = answers (at_ending e)
  tread n (pause x) = tread n x
  tread n (noted k x) = with_note k (tread n x)
  tread n (found how s x) = elim (decision g how s) [ None ↦ tread n x | Some a ↦ answers a ]
  tread zero (stepped x) = answers MatchLimit
  tread (suc n) (stepped x) = tread n x

-- how much is met
unfoldable pub size : Moves → ℕ
size (stops e) = 0
size (pause x) = suc (size x)
size (stepped x) = suc (size x)
size (noted n x) = suc (size x)
size (found how s x) = suc (size x)
