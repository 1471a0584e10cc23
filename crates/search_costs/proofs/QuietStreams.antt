-- Streams of Steps and states alone, which end by no verb.
use Rattle.std.proofs.Common.{Bool, true, false}
use Rattle.ordered_search.specs.Stream.{State, Ending, exhausted, by_verb, by_halt, How, reached, accepted, note, state}
use Rattle.ordered_search.specs.Stream.{step, Stream, Search, ends, ◌▸◌, nothing, gives, ◌or_else◌, each, and_then}
use Rattle.ordered_search.specs.Stream.{go_on, decide, catch}

unfoldable pub IsQuiet : Stream → Type 0
IsQuiet (ends exhausted) = Unit {0}
IsQuiet (ends (by_verb v)) = ⊥
IsQuiet (ends (by_halt a)) = Unit {0}
IsQuiet (note k ▸ x) = ⊥
IsQuiet (state reached s ▸ x) = IsQuiet x
IsQuiet (state accepted s ▸ x) = ⊥
IsQuiet (step ▸ x) = IsQuiet x

pub quiet_nothing : IsQuiet nothing
unfolding IsQuiet
quiet_nothing = tt

pub quiet_gives : (s : State) → IsQuiet (gives reached s)
unfolding IsQuiet
quiet_gives s = tt

pub quiet_step : (x : Stream) → IsQuiet x → IsQuiet (step ▸ x)
unfolding IsQuiet
quiet_step x h = h

pub quiet_if : (b : Bool) (x y : Stream) → IsQuiet x → IsQuiet y → IsQuiet (elim b [ true ↦ x | false ↦ y ])
quiet_if true x y h k = h
quiet_if false x y h k = k

pub quiet_or_else : (x y : Stream) → IsQuiet x → IsQuiet y → IsQuiet (x or_else y)
unfolding IsQuiet ◌or_else◌
quiet_or_else (ends exhausted) y h k = k
quiet_or_else (ends (by_verb v)) y h k = h
quiet_or_else (ends (by_halt a)) y h k = h
quiet_or_else (note n ▸ x) y h k = absurd h
quiet_or_else (state reached s ▸ x) y h k = quiet_or_else x y h k
quiet_or_else (state accepted s ▸ x) y h k = absurd h
quiet_or_else (step ▸ x) y h k = quiet_or_else x y h k

pub quiet_each : (x : Stream) (f : How → Search) → IsQuiet x → ((s : State) → IsQuiet (f reached s))
    → IsQuiet (each x f)
unfolding IsQuiet each
quiet_each (ends exhausted) f h k = tt
quiet_each (ends (by_verb v)) f h k = h
quiet_each (ends (by_halt a)) f h k = tt
quiet_each (note n ▸ x) f h k = absurd h
quiet_each (state reached s ▸ x) f h k = quiet_or_else (f reached s) (each x f) (k s) (quiet_each x f h k)
quiet_each (state accepted s ▸ x) f h k = absurd h
quiet_each (step ▸ x) f h k = quiet_each x f h k

pub quiet_and_then : (x : Stream) (f : Search) → IsQuiet x → ((s : State) → IsQuiet (f s)) → IsQuiet (and_then x f)
quiet_and_then x f h k = quiet_each x (go_on f) h k

pub quiet_decide : (fails : Ending → Bool) (x : Stream) (f : How → Search) (y : Stream) → IsQuiet x
    → ((s : State) → IsQuiet (f reached s)) → IsQuiet y → IsQuiet (decide fails x f y)
unfolding IsQuiet decide
quiet_decide fails (ends exhausted) f y h k l = quiet_if (fails exhausted) y nothing l quiet_nothing
quiet_decide fails (ends (by_verb v)) f y h k l = absurd h
quiet_decide fails (ends (by_halt a)) f y h k l = quiet_if (fails (by_halt a)) y (ends (by_halt a)) l h
quiet_decide fails (note n ▸ x) f y h k l = absurd h
quiet_decide fails (state reached s ▸ x) f y h k l = k s
quiet_decide fails (state accepted s ▸ x) f y h k l = absurd h
quiet_decide fails (step ▸ x) f y h k l = quiet_decide fails x f y h k l

pub quiet_catch : (caught : Ending → Bool) (x : Stream) → IsQuiet x → IsQuiet (catch caught x)
unfolding IsQuiet catch
quiet_catch caught (ends exhausted) h = quiet_if (caught exhausted) nothing nothing h h
quiet_catch caught (ends (by_verb v)) h = absurd h
quiet_catch caught (ends (by_halt a)) h = quiet_if (caught (by_halt a)) nothing (ends (by_halt a)) tt h
quiet_catch caught (note n ▸ x) h = absurd h
quiet_catch caught (state reached s ▸ x) h = quiet_catch caught x h
quiet_catch caught (state accepted s ▸ x) h = absurd h
quiet_catch caught (step ▸ x) h = quiet_catch caught x h
