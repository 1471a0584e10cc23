-- Streams of which one goes on where the other is cut.
use Rattle.std.proofs.Common.{◌≡◌, Bool, true, false}
use Rattle.ordered_search.specs.Stream.{State, Ending, exhausted, by_verb, by_halt, cut, Note, How, reached, accepted}
use Rattle.ordered_search.specs.Stream.{note, state, step, Stream, Search, ends, ◌▸◌, gives, ◌or_else◌, each}
use Rattle.ordered_search.specs.Stream.{and_then, go_on, decide, catch}

-- y is x, but for what follows where x is cut
pub data Extends : Stream → Stream → Type 0 where
  at_cut : {y : Stream} → Extends (ends (by_halt cut)) y
  at_end : (e : Ending) → Extends (ends e) (ends e)
  at_note : {x y : Stream} (k : Note) → Extends x y → Extends (note k ▸ x) (note k ▸ y)
  at_state : {x y : Stream} (how : How) (s : State) → Extends x y → Extends (state how s ▸ x) (state how s ▸ y)
  at_step : {x y : Stream} → Extends x y → Extends (step ▸ x) (step ▸ y)

-- a search that extends another, at each state
abbrev pub IsExtended : Search → Search → Type 0
IsExtended f h = (s : State) → Extends (f s) (h s)

pub extends_same : (x : Stream) → Extends x x
extends_same (ends e) = at_end e
extends_same (note k ▸ x) = at_note k (extends_same x)
extends_same (state how s ▸ x) = at_state how s (extends_same x)
extends_same (step ▸ x) = at_step (extends_same x)

pub extends_if : (b : Bool) {x y x' y' : Stream} → Extends x y → Extends x' y'
    → Extends (elim b [ true ↦ x | false ↦ x' ]) (elim b [ true ↦ y | false ↦ y' ])
extends_if true h k = h
extends_if false h k = k

pub extends_or_else : {x y x' y' : Stream} → Extends x y → Extends x' y' → Extends (x or_else x') (y or_else y')
unfolding ◌or_else◌
extends_or_else at_cut k = at_cut
extends_or_else (at_end exhausted) k = k
extends_or_else (at_end (by_verb v)) k = at_end (by_verb v)
extends_or_else (at_end (by_halt a)) k = at_end (by_halt a)
extends_or_else (at_note n h) k = at_note n (extends_or_else h k)
extends_or_else (at_state how s h) k = at_state how s (extends_or_else h k)
extends_or_else (at_step h) k = at_step (extends_or_else h k)

pub extends_each : {f h : How → Search} {x y : Stream} → Extends x y
    → ((how : How) (s : State) → Extends (f how s) (h how s)) → Extends (each x f) (each y h)
unfolding each
extends_each at_cut k = at_cut
extends_each (at_end e) k = at_end e
extends_each (at_note n e) k = at_note n (extends_each e k)
extends_each (at_state how s e) k = extends_or_else (k how s) (extends_each e k)
extends_each (at_step e) k = at_step (extends_each e k)

pub extends_and_then : {f h : Search} {x y : Stream} → Extends x y → IsExtended f h
    → Extends (and_then x f) (and_then y h)
extends_and_then {f = f} {h = h} e k = extends_each {f = go_on f} {h = go_on h} e
    (elim [ reached ↦ k | accepted ↦ λ s. extends_same (gives accepted s) ])

-- the cut is not caught
abbrev LetsCut : (Ending → Bool) → Type 0
LetsCut caught = caught (by_halt cut) ≡ false

cut_stays : (b : Bool) → b ≡ false → (y z : Stream) → Extends (elim b [ true ↦ z | false ↦ ends (by_halt cut) ]) y
cut_stays true e y z = absurd (cc e)
cut_stays false e y z = at_cut

pub extends_decide : (fails : Ending → Bool) → LetsCut fails → {f h : How → Search} {x' y' : Stream} {x y : Stream}
    → Extends x y → ((how : How) (s : State) → Extends (f how s) (h how s)) → Extends x' y'
    → Extends (decide fails x f x') (decide fails y h y')
unfolding decide
extends_decide fails lets at_cut k l = cut_stays (fails (by_halt cut)) lets _ _
extends_decide fails lets (at_end e) k l = extends_if (fails e) l (at_end e)
extends_decide fails lets (at_note n e) k l = at_note n (extends_decide fails lets e k l)
extends_decide fails lets (at_state how s e) k l = k how s
extends_decide fails lets (at_step e) k l = at_step (extends_decide fails lets e k l)

pub extends_catch : (caught : Ending → Bool) → LetsCut caught → {x y : Stream} → Extends x y
    → Extends (catch caught x) (catch caught y)
unfolding catch
extends_catch caught lets at_cut = cut_stays (caught (by_halt cut)) lets _ _
extends_catch caught lets (at_end e) = extends_if (caught e) (at_end exhausted) (at_end e)
extends_catch caught lets (at_note n e) = at_note n (extends_catch caught lets e)
extends_catch caught lets (at_state how s e) = at_state how s (extends_catch caught lets e)
extends_catch caught lets (at_step e) = at_step (extends_catch caught lets e)
