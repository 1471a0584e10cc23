-- Streams of which one follows the other: the same events, from states at the same places that hold
-- no more units.
use Rattle.std.proofs.Common.{◌≡◌, ◌≤◌, Bool, true, false}
use Rattle.ordered_search.specs.Stream.{State, Ending, exhausted, by_verb, by_halt, too_many_units, How, reached}
use Rattle.ordered_search.specs.Stream.{accepted, state, step, Stream, Search, ends, ◌▸◌, nothing, gives, ◌or_else◌}
use Rattle.ordered_search.specs.Stream.{each, and_then, go_on, decide, catch}

-- at the same place, with no more units
pub record IsNear (t s : State) : Type 0 where
  pub place : t.place ≡ s.place
  pub units : t.units ≤ s.units

-- y follows x. Where x passes the limit of units y is anything. One that may stop may be exhausted
-- at any point.
pub data Follows (may_stop : Bool) : Stream → Stream → Type 0 where
  at_limit : {y : Stream} → Follows may_stop y (ends (by_halt too_many_units))
  at_stop : {x : Stream} → may_stop ≡ true → Follows may_stop (ends exhausted) x
  at_end : (e : Ending) → Follows may_stop (ends e) (ends e)
  at_state : {y x : Stream} (how : How) (t s : State) → IsNear t s → Follows may_stop y x
      → Follows may_stop (state how t ▸ y) (state how s ▸ x)
  at_step : {y x : Stream} → Follows may_stop y x → Follows may_stop (step ▸ y) (step ▸ x)

-- searches that follow at near states
abbrev pub FollowsAll : Bool → (How → Search) → (How → Search) → Type 0
FollowsAll b f h = (how : How) (t s : State) → IsNear t s → Follows b (f how t) (h how s)

-- one search at near states
abbrev pub Keeps : Search → Type 0
Keeps f = (t s : State) → IsNear t s → Follows false (f t) (f s)

pub follows_nothing : {b : Bool} → Follows b nothing nothing
follows_nothing = at_end exhausted

pub follows_gives : {b : Bool} (how : How) (t s : State) → IsNear t s
    → Follows b (gives how t) (gives how s)
follows_gives how t s near = at_state how t s near follows_nothing

module _ {b : Bool} where
  pub follows_if : (c : Bool) {y x y' x' : Stream} → Follows b y x → Follows b y' x'
      → Follows b (elim c [ true ↦ y | false ↦ y' ]) (elim c [ true ↦ x | false ↦ x' ])
  follows_if true h k = h
  follows_if false h k = k

  pub follows_or_else : {y' x' : Stream} {y x : Stream} → Follows false y x → Follows b y' x'
      → Follows b (y or_else y') (x or_else x')
  unfolding ◌or_else◌
  follows_or_else at_limit k = at_limit
  follows_or_else (at_stop e) k = absurd (cc e)
  follows_or_else (at_end exhausted) k = k
  follows_or_else (at_end (by_verb v)) k = at_end (by_verb v)
  follows_or_else (at_end (by_halt h)) k = at_end (by_halt h)
  follows_or_else (at_state how t s near h) k = at_state how t s near (follows_or_else h k)
  follows_or_else (at_step h) k = at_step (follows_or_else h k)

  pub follows_each : {f h : How → Search} {y x : Stream} → Follows b y x → FollowsAll false f h
      → Follows b (each y f) (each x h)
  unfolding each
  follows_each at_limit k = at_limit
  follows_each (at_stop e) k = at_stop e
  follows_each (at_end e) k = at_end e
  follows_each (at_state how t s near h) k = follows_or_else (k how t s near) (follows_each h k)
  follows_each (at_step h) k = at_step (follows_each h k)

  pub follows_and_then : {f h : Search} {y x : Stream} → Follows b y x
      → ((t s : State) → IsNear t s → Follows false (f t) (h s))
      → Follows b (and_then y f) (and_then x h)
  follows_and_then {f = f} {h = h} e k = follows_each {f = go_on f} {h = go_on h} e
      (elim [ reached ↦ k | accepted ↦ follows_gives accepted ])

-- an ending that is caught, or not
abbrev CatchesNoLimit : (Ending → Bool) → Type 0
CatchesNoLimit caught = caught (by_halt too_many_units) ≡ false

limit_stays : (c : Bool) → c ≡ false → (y z : Stream)
    → Follows false y (elim c [ true ↦ z | false ↦ ends (by_halt too_many_units) ])
limit_stays true e y z = absurd (cc e)
limit_stays false e y z = at_limit

pub follows_decide : (fails : Ending → Bool) → CatchesNoLimit fails
    → {f h : How → Search} {y' x' : Stream} {y x : Stream} → Follows false y x
    → FollowsAll false f h → Follows false y' x'
    → Follows false (decide fails y f y') (decide fails x h x')
unfolding decide
follows_decide fails uncaught at_limit k l = limit_stays (fails (by_halt too_many_units)) uncaught _
    _
follows_decide fails uncaught (at_stop e) k l = absurd (cc e)
follows_decide fails uncaught (at_end e) k l = follows_if (fails e) l (at_end e)
follows_decide fails uncaught (at_state how t s near h) k l = k how t s near
follows_decide fails uncaught (at_step h) k l = at_step (follows_decide fails uncaught h k l)

pub follows_catch : (caught : Ending → Bool) → CatchesNoLimit caught → {y x : Stream}
    → Follows false y x → Follows false (catch caught y) (catch caught x)
unfolding catch
follows_catch caught uncaught at_limit = limit_stays (caught (by_halt too_many_units)) uncaught _ _
follows_catch caught uncaught (at_stop e) = absurd (cc e)
follows_catch caught uncaught (at_end e) = follows_if (caught e) follows_nothing (at_end e)
follows_catch caught uncaught (at_state how t s near h) =
    at_state how t s near (follows_catch caught uncaught h)
follows_catch caught uncaught (at_step h) = at_step (follows_catch caught uncaught h)
