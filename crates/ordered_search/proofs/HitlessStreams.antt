-- Streams that tell no hit of the subject's end and are not ended by a partial match.
use Rattle.std.proofs.Common.{◌≡◌, ◌≢◌, Bool, true, false}
use Rattle.ordered_search.specs.Stream.{State, Ending, exhausted, by_verb, by_halt, is_partial, Note, How, reached}
use Rattle.ordered_search.specs.Stream.{accepted, note, state, step, Stream, Search, ends, ◌▸◌, nothing, gives}
use Rattle.ordered_search.specs.Stream.{◌or_else◌, each, and_then, go_on, decide, catch}
use Rattle.ordered_search.specs.PlaceAnswer.{is_hit}

unfoldable pub NoHit : Stream → Type 0
NoHit (ends e) = e ≢ by_halt is_partial
NoHit (note k ▸ x) = (is_hit k ≡ false) × NoHit x
NoHit (state how s ▸ x) = NoHit x
NoHit (step ▸ x) = NoHit x

pub hitless_ends : (e : Ending) → e ≢ by_halt is_partial → NoHit (ends e)
unfolding NoHit
hitless_ends e h = h

pub hitless_nothing : NoHit nothing
hitless_nothing = hitless_ends exhausted (λ e. cc)

pub hitless_gives : (how : How) (s : State) → NoHit (gives how s)
unfolding NoHit
hitless_gives how s = hitless_nothing

pub hitless_if : (b : Bool) (x y : Stream) → NoHit x → NoHit y → NoHit (elim b [ true ↦ x | false ↦ y ])
hitless_if true x y h k = h
hitless_if false x y h k = k

pub hitless_step : (x : Stream) → NoHit x → NoHit (step ▸ x)
unfolding NoHit
hitless_step x h = h

pub hitless_note : (k : Note) (x : Stream) → is_hit k ≡ false → NoHit x → NoHit (note k ▸ x)
unfolding NoHit
hitless_note k x e h = (e, h)

pub hitless_state : (how : How) (s : State) (x : Stream) → NoHit x → NoHit (state how s ▸ x)
unfolding NoHit
hitless_state how s x h = h

pub hitless_or_else : (x y : Stream) → NoHit x → NoHit y → NoHit (x or_else y)
unfolding NoHit ◌or_else◌
hitless_or_else (ends exhausted) y h k = k
hitless_or_else (ends (by_verb v)) y h k = h
hitless_or_else (ends (by_halt a)) y h k = h
hitless_or_else (note m ▸ x) y h k = (h.0, hitless_or_else x y h.1 k)
hitless_or_else (state how s ▸ x) y h k = hitless_or_else x y h k
hitless_or_else (step ▸ x) y h k = hitless_or_else x y h k

pub hitless_each : (x : Stream) (f : How → Search) → NoHit x → ((how : How) (s : State) → NoHit (f how s))
    → NoHit (each x f)
unfolding NoHit each
hitless_each (ends e) f h k = h
hitless_each (note m ▸ x) f h k = (h.0, hitless_each x f h.1 k)
hitless_each (state how s ▸ x) f h k = hitless_or_else (f how s) (each x f) (k how s) (hitless_each x f h k)
hitless_each (step ▸ x) f h k = hitless_each x f h k

pub hitless_and_then : (x : Stream) (f : Search) → NoHit x → ((s : State) → NoHit (f s)) → NoHit (and_then x f)
hitless_and_then x f h k = hitless_each x (go_on f) h (elim [ reached ↦ k | accepted ↦ hitless_gives accepted ])

pub hitless_decide : (fails : Ending → Bool) (x : Stream) (f : How → Search) (y : Stream) → NoHit x
    → ((how : How) (s : State) → NoHit (f how s)) → NoHit y
    → NoHit (decide fails x f y)
unfolding NoHit decide
hitless_decide fails (ends e) f y h k l = hitless_if (fails e) y (ends e) l h
hitless_decide fails (note m ▸ x) f y h k l = (h.0, hitless_decide fails x f y h.1 k l)
hitless_decide fails (state how s ▸ x) f y h k l = k how s
hitless_decide fails (step ▸ x) f y h k l = hitless_decide fails x f y h k l

pub hitless_catch : (caught : Ending → Bool) (x : Stream) → NoHit x → NoHit (catch caught x)
unfolding NoHit catch
hitless_catch caught (ends e) h = hitless_if (caught e) nothing (ends e) hitless_nothing h
hitless_catch caught (note m ▸ x) h = (h.0, hitless_catch caught x h.1)
hitless_catch caught (state how s ▸ x) h = hitless_catch caught x h
hitless_catch caught (step ▸ x) h = hitless_catch caught x h
