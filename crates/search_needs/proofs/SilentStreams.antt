-- Streams without a state.
use Rattle.std.proofs.Common.{◌≡◌, Bool, true, false, refl, arith}
use Rattle.ordered_search.specs.Stream.{Ending, How, note, state, step, Stream, Search, ends, ◌▸◌, nothing}
use Rattle.ordered_search.specs.Stream.{◌or_else◌, each, decide, catch}
use Rattle.search_needs.proofs.TameStreams.{state_count, states_both}

abbrev pub Silent : Stream → Type 0
Silent x = state_count x ≡ 0

pub silent_nothing : Silent nothing
unfolding state_count
silent_nothing = refl

pub silent_halt : (e : Ending) → Silent (ends e)
unfolding state_count
silent_halt e = refl

pub silent_step : (x : Stream) → Silent x → Silent (step ▸ x)
unfolding state_count
silent_step x h = h

pub silent_if : (b : Bool) (x y : Stream) → Silent x → Silent y → Silent (elim b [ true ↦ x | false ↦ y ])
silent_if true x y h k = h
silent_if false x y h k = k

pub silent_or_else : (x y : Stream) → Silent x → Silent y → Silent (x or_else y)
silent_or_else x y h k = let e = states_both x y in omega (arith, e, h, k)

-- there is no state from which anything follows
pub silent_before : (x : Stream) (f : How → Search) → Silent x → Silent (each x f)
unfolding state_count each
silent_before (ends e) f h = refl
silent_before (note m ▸ x) f h = silent_before x f h
silent_before (state how s ▸ x) f h = absurd (omega (arith, h))
silent_before (step ▸ x) f h = silent_before x f h

pub silent_decide : (fails : Ending → Bool) (x : Stream) (f : How → Search) (y : Stream) → Silent x → Silent y
    → Silent (decide fails x f y)
unfolding state_count decide
silent_decide fails (ends e) f y h k = silent_if (fails e) y (ends e) k refl
silent_decide fails (note m ▸ x) f y h k = silent_decide fails x f y h k
silent_decide fails (state how s ▸ x) f y h k = absurd (omega (arith, h))
silent_decide fails (step ▸ x) f y h k = silent_decide fails x f y h k

pub silent_catch : (caught : Ending → Bool) (x : Stream) → Silent x → Silent (catch caught x)
unfolding state_count catch
silent_catch caught (ends e) h = silent_if (caught e) nothing (ends e) refl refl
silent_catch caught (note m ▸ x) h = silent_catch caught x h
silent_catch caught (state how s ▸ x) h = absurd (omega (arith, h))
silent_catch caught (step ▸ x) h = silent_catch caught x h
