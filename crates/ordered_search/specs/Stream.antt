-- The states of a search, and its streams: what happens in order, and how it ends.
use Rattle.std.specs.Prelude.{ℕ, ◌+◌, Bool, true, false, List, [], ◌∷◌, ℤ, Option, Some, None, ◌==◌, ◌&&◌, replicate}
use Rattle.frame_store.specs.declared.registers.Span.{Span}
use Rattle.frame_store.specs.Captures.{Captures, with_capture}

pub record State : Type 0 where
  pub place : ℕ
  -- what each group has captured
  pub caps : Captures
  -- the number of the last name on the path
  pub mark : Option ℕ
  -- what SKIP looks for: (name, place), the last one first
  pub passed : List (ℕ × ℕ)
  -- the place of `\K`, or the start place
  pub keep : ℕ
  -- the active calls (group, place), the latest one first
  pub calls : List (ℕ × ℕ)
  -- the earliest place inspected
  pub early : ℕ
  -- how many units the path holds
  pub units : ℕ

-- the first state at a place, with so many groups
abbrev pub first_state : ℕ → ℕ → State
first_state groups p = record {
  place = p;
  caps = replicate groups None;
  mark = None;
  passed = [];
  keep = p;
  calls = [];
  early = p;
  units = 0;
}

-- what a callout is shown (pcre2callout)
pub record Block : Type 0 where
  pub number : ℕ
  -- the callout's string in the pattern
  pub text_from : ℕ
  pub text_to : ℕ
  -- the next item in the pattern
  pub pattern_at : ℕ
  pub item_len : ℕ
  -- the match's start and the present place
  pub start : ℕ
  pub current : ℕ
  pub mark : Option ℕ

-- A verb that was backtracked onto (pcre2pattern, "Verbs that act after backtracking").
pub data VerbEnding : Type 0 where
  -- THEN
  next_branch : VerbEnding
  prune : VerbEnding
  skip : ℕ → VerbEnding
  commit : VerbEnding

-- What ends a match at once.
pub data Halt : Type 0 where
  is_partial : Halt
  too_many_units : Halt
  -- a call at the place of an active call of the same group
  loop : Halt
  -- a callout's answer
  abort : ℤ → Halt
  -- the depth is used up
  cut : Halt

pub data Ending : Type 0 where
  exhausted : Ending
  by_verb : VerbEnding → Ending
  by_halt : Halt → Ending

-- What is told beside the states.
pub data Note : Type 0 where
  -- the name of a verb is met
  name : ℕ → Note
  -- a callout is called
  shown : Block → Note
  -- the subject's end is reached
  hit_end : Note

-- how a state came: by the end of a tree, or by ACCEPT
pub data How : Type 0 where
  reached : How
  accepted : How

pub data Event : Type 0 where
  note : Note → Event
  state : How → State → Event
  step : Event

infixr 5 ◌▸◌
pub data Stream : Type 0 where
  ends : Ending → Stream
  ◌▸◌ : Event → Stream → Stream

-- a search from a state
abbrev pub Search : Type 0
Search = State → Stream

-- nothing happens
abbrev pub nothing : Stream
nothing = ends exhausted

-- one state
abbrev pub gives : How → Search
gives how s = state how s ▸ nothing

infixr 5 ◌or_else◌
-- x, and then y where x is exhausted
unfoldable pub ◌or_else◌ : Stream → Stream → Stream
(ends exhausted) or_else y = y
(ends e) or_else y = ends e
(e ▸ x) or_else y = e ▸ (x or_else y)

-- each state becomes a stream
unfoldable pub each : Stream → (How → Search) → Stream
each (ends e) f = ends e
each (state how s ▸ x) f = f how s or_else each x f
each (e ▸ x) f = e ▸ each x f

-- what goes on where a tree ended; an accepted state stays
abbrev pub go_on : Search → How → Search
go_on f reached s = f s
go_on f accepted s = gives accepted s

abbrev pub and_then : Stream → Search → Stream
and_then x f = each x (go_on f)

-- the first state decides; where there is none, an ending that `fails` gives what stands otherwise
unfoldable pub decide : (Ending → Bool) → Stream → (How → Search) → Stream → Stream
decide fails (ends e) f otherwise = elim (fails e) [ true ↦ otherwise | false ↦ ends e ]
decide fails (state how s ▸ x) f otherwise = f how s
decide fails (e ▸ x) f otherwise = e ▸ decide fails x f otherwise

-- an ending that is caught becomes exhausted
unfoldable pub catch : (Ending → Bool) → Stream → Stream
catch caught (ends e) = elim (caught e) [ true ↦ nothing | false ↦ ends e ]
catch caught (e ▸ x) = e ▸ catch caught x

abbrev pub no_ending : Ending → Bool
no_ending e = false

abbrev pub is_next_branch : Ending → Bool
is_next_branch (by_verb next_branch) = true
is_next_branch _ = false

abbrev pub is_verb : Ending → Bool
is_verb (by_verb v) = true
is_verb _ = false

-- a lookaround has failed by these endings: where it stands alone, and in a condition or where it is negative
abbrev pub fails_alone : Ending → Bool
fails_alone exhausted = true
fails_alone e = is_next_branch e

abbrev pub fails_inside : Ending → Bool
fails_inside exhausted = true
fails_inside e = is_verb e

-- group n reaches from p to the state's place
abbrev pub captured : ℕ → ℕ → State → State
captured n p s = record s { caps = with_capture s.caps n (Some (record { from = p; to = s.place })) }

abbrev pub same_span : Option Span → Option Span → Bool
same_span None None = true
same_span (Some a) (Some b) = (a.from == b.from) && (a.to == b.to)
same_span _ _ = false

-- how many groups have another value
unfoldable pub changes : Captures → Captures → ℕ
changes (a ∷ old) (b ∷ new) = elim (same_span a b) [ true ↦ changes old new | false ↦ 1 + changes old new ]
changes _ _ = 0
