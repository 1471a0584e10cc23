-- What a search answers at one start place.
use Rattle.std.specs.Prelude.{ℕ, zero, suc, ◌+◌, Bool, true, false, ◌&&◌, ◌||◌, not, List, [], ◌∷◌, length, Option}
use Rattle.std.specs.Prelude.{Some, None, ℤ, ◌==◌, filter_map}
use Rattle.std.specs.Option.{option_or}
use Rattle.std.specs.List.{list_any}
use Rattle.ordered_search.specs.Stream.{State, first_state, Block, VerbEnding, next_branch, prune, skip, commit}
use Rattle.ordered_search.specs.Stream.{Halt, is_partial, too_many_units, loop, abort, cut, Ending, exhausted}
use Rattle.ordered_search.specs.Stream.{by_verb, by_halt, Note, name, shown, hit_end, How, reached, accepted, note}
use Rattle.ordered_search.specs.Stream.{state, step, Stream, ends, ◌▸◌}
use Rattle.frame_store.specs.Captures.{Captures}
use Rattle.ordered_search.specs.Setting.{Setting, endanchored, notempty, notempty_atstart, match_limit}
use Rattle.ordered_search.specs.Run.{run}

-- what a match gives: its text is from `keep` to `to`
pub record Outcome : Type 0 where
  pub keep : ℕ
  pub to : ℕ
  pub mark : Option ℕ
  pub caps : Captures

abbrev pub outcome : State → Outcome
outcome s = record { keep = s.keep; to = s.place; mark = s.mark; caps = s.caps }

-- how a start place failed, and so which place follows
pub data Signal : Type 0 where
  Exhausted : Signal
  Prune : Signal
  Skip : ℕ → Signal
  Commit : Signal

pub data PlaceAnswer : Type 0 where
  Matched : Outcome → PlaceAnswer
  Failed : Signal → PlaceAnswer
  Partial : PlaceAnswer
  MatchLimit : PlaceAnswer
  FrameLimit : PlaceAnswer
  Loop : PlaceAnswer
  Abort : ℤ → PlaceAnswer
  -- never met
  NoDepth : PlaceAnswer

-- an answer, and what was told on the way to it
pub record Walked : Type 0 where
  pub answer : PlaceAnswer
  pub notes : List Note

-- Of what was told: the callouts, the last name, and whether the subject's end was reached.

abbrev pub block_in : Note → Option Block
block_in (shown b) = Some b
block_in _ = None

abbrev pub blocks : List Note → List Block
blocks ns = filter_map block_in ns

abbrev pub name_in : Note → Option ℕ
name_in (name n) = Some n
name_in _ = None

abbrev pub last_name : List Note → Option ℕ
last_name [] = None
last_name (n ∷ ns) = option_or (last_name ns) (name_in n)

abbrev pub is_hit : Note → Bool
is_hit hit_end = true
is_hit _ = false

abbrev pub has_hit : List Note → Bool
has_hit ns = list_any is_hit ns

abbrev pub answers : PlaceAnswer → Walked
answers a = record { answer = a; notes = [] }

abbrev pub with_note : Note → Walked → Walked
with_note n w = record w { notes = n ∷ w.notes }

abbrev pub at_verb : VerbEnding → Signal
at_verb next_branch = Prune
at_verb prune = Prune
at_verb (skip p) = Skip p
at_verb commit = Commit

abbrev pub at_halt : Halt → PlaceAnswer
at_halt is_partial = Partial
at_halt too_many_units = FrameLimit
at_halt loop = Loop
at_halt (abort n) = Abort n
at_halt cut = NoDepth

abbrev pub at_ending : Ending → PlaceAnswer
at_ending exhausted = Failed Exhausted
at_ending (by_verb v) = Failed (at_verb v)
at_ending (by_halt h) = at_halt h

module _ (g : Setting) where
  abbrev pub is_refused_by_end : State → Bool
  is_refused_by_end s = endanchored g && not (s.place == length g.subject)

  abbrev pub is_refused_as_empty : State → Bool
  is_refused_as_empty s = (s.keep == s.place) && (notempty g || notempty_atstart g && (s.keep == g.start))

  -- what a state answers; none where it is passed over. One that was accepted and of which only the end is refused
  -- fails its place.
  abbrev pub decision : How → State → Option PlaceAnswer
  decision how s =
      elim (is_refused_as_empty s) [
        | true ↦ None
        | false ↦ elim (is_refused_by_end s) [
          | false ↦ Some (Matched (outcome s))
          | true ↦ elim how [ reached ↦ None | accepted ↦ Some (Failed Exhausted) ]
        ]
      ]

  -- the walk over a stream with so many Steps left
  unfoldable pub walk : ℕ → Stream → Walked
  walk n (ends e) = answers (at_ending e)
  walk n (note k ▸ x) = with_note k (walk n x)
  walk n (state how s ▸ x) = elim (decision how s) [ None ↦ walk n x | Some a ↦ answers a ]
  walk zero (step ▸ x) = answers MatchLimit
  walk (suc n) (step ▸ x) = walk n x

  abbrev pub place_answer : ℕ → Walked
  place_answer p = walk (match_limit g) (run g (match_limit g + 1) g.whole (first_state g.groups p))
