-- Streams that are cut late: after n Steps at least.
use Rattle.std.proofs.Common.{◌≡◌, ◌≢◌, ℕ, zero, suc, ◌≤◌, Bool, true, false, arith}
use Rattle.ordered_search.specs.Stream.{State, Ending, exhausted, by_verb, by_halt, cut, Note, How, reached}
use Rattle.ordered_search.specs.Stream.{accepted, note, state, step, Stream, Search, ends, ◌▸◌, nothing, gives}
use Rattle.ordered_search.specs.Stream.{◌or_else◌, each, and_then, go_on, decide, catch}
use Rattle.ordered_search.specs.Laws.{ending, step_count}

-- the ending may come after n more Steps
unfoldable pub LateEnd : ℕ → Ending → Type 0
LateEnd zero e = Unit {0}
LateEnd (suc n) e = e ≢ by_halt cut

unfoldable pub Late : ℕ → Stream → Type 0
unfolding LateEnd
Late n (ends e) = LateEnd n e
Late n (note k ▸ x) = Late n x
Late n (state how s ▸ x) = Late n x
Late zero (step ▸ x) = Unit {0}
Late (suc n) (step ▸ x) = Late n x

pub late_zero : (x : Stream) → Late 0 x
unfolding Late LateEnd
late_zero (ends e) = tt
late_zero (note k ▸ x) = late_zero x
late_zero (state how s ▸ x) = late_zero x
late_zero (step ▸ x) = tt

late_less_end : (n : ℕ) (e : Ending) → LateEnd (suc n) e → LateEnd n e
unfolding LateEnd
late_less_end zero e h = tt
late_less_end (suc n) e h = h

pub late_less : (n : ℕ) (x : Stream) → Late (suc n) x → Late n x
unfolding Late LateEnd
late_less n (ends e) h = late_less_end n e h
late_less n (note k ▸ x) h = late_less n x h
late_less n (state how s ▸ x) h = late_less n x h
late_less zero (step ▸ x) h = tt
late_less (suc n) (step ▸ x) h = late_less n x h

-- the end of a stream, where it is not the cut
pub late_ends : (n : ℕ) (e : Ending) → e ≢ by_halt cut → Late n (ends e)
unfolding Late LateEnd
late_ends zero e h = tt
late_ends (suc n) e h = h

pub late_nothing : (n : ℕ) → Late n nothing
late_nothing n = late_ends n exhausted (λ e. cc)

pub late_gives : (n : ℕ) (how : How) (s : State) → Late n (gives how s)
unfolding Late
late_gives n how s = late_nothing n

pub late_if : (n : ℕ) (b : Bool) (x y : Stream) → Late n x → Late n y → Late n (elim b [ true ↦ x | false ↦ y ])
late_if n true x y h k = h
late_if n false x y h k = k

pub late_step : (n : ℕ) (x : Stream) → Late n x → Late (suc n) (step ▸ x)
unfolding Late
late_step n x h = h

pub late_step_same : (n : ℕ) (x : Stream) → Late n x → Late n (step ▸ x)
unfolding Late
late_step_same zero x h = tt
late_step_same (suc n) x h = late_less n x h

pub late_note : (n : ℕ) (k : Note) (x : Stream) → Late n x → Late n (note k ▸ x)
unfolding Late
late_note n k x h = h

pub late_state : (n : ℕ) (how : How) (s : State) (x : Stream) → Late n x → Late n (state how s ▸ x)
unfolding Late
late_state n how s x h = h

pub late_or_else : (n : ℕ) (x y : Stream) → Late n x → Late n y → Late n (x or_else y)
unfolding Late LateEnd ◌or_else◌
late_or_else n (ends exhausted) y h k = k
late_or_else n (ends (by_verb v)) y h k = h
late_or_else n (ends (by_halt a)) y h k = h
late_or_else n (note m ▸ x) y h k = late_or_else n x y h k
late_or_else n (state how s ▸ x) y h k = late_or_else n x y h k
late_or_else zero (step ▸ x) y h k = tt
late_or_else (suc n) (step ▸ x) y h k = late_or_else n x y h (late_less n y k)

pub late_each : (n : ℕ) (x : Stream) (f : How → Search) → Late n x → ((how : How) (s : State) → Late n (f how s)) →
    Late n (each x f)
unfolding Late LateEnd each
late_each n (ends e) f h k = h
late_each n (note m ▸ x) f h k = late_each n x f h k
late_each n (state how s ▸ x) f h k = late_or_else n (f how s) (each x f) (k how s) (late_each n x f h k)
late_each zero (step ▸ x) f h k = tt
late_each (suc n) (step ▸ x) f h k = late_each n x f h (λ how s. late_less n (f how s) (k how s))

pub late_and_then : (n : ℕ) (x : Stream) (f : Search) → Late n x → ((s : State) → Late n (f s)) → Late n (and_then x f)
late_and_then n x f h k = late_each n x (go_on f) h (elim [ reached ↦ k | accepted ↦ late_gives n accepted ])

pub late_decide : (n : ℕ) (fails : Ending → Bool) (x : Stream) (f : How → Search) (y : Stream) → Late n x →
    ((how : How) (s : State) → Late n (f how s)) → Late n y → Late n (decide fails x f y)
unfolding Late LateEnd decide
late_decide n fails (ends e) f y h k l = late_if n (fails e) y (ends e) l h
late_decide n fails (note m ▸ x) f y h k l = late_decide n fails x f y h k l
late_decide n fails (state how s ▸ x) f y h k l = k how s
late_decide zero fails (step ▸ x) f y h k l = tt
late_decide (suc n) fails (step ▸ x) f y h k l =
    late_decide n fails x f y h (λ how s. late_less n (f how s) (k how s)) (late_less n y l)

pub late_catch : (n : ℕ) (caught : Ending → Bool) (x : Stream) → Late n x → Late n (catch caught x)
unfolding Late LateEnd catch
late_catch n caught (ends e) h = late_if n (caught e) nothing (ends e) (late_nothing n) h
late_catch n caught (note m ▸ x) h = late_catch n caught x h
late_catch n caught (state how s ▸ x) h = late_catch n caught x h
late_catch zero caught (step ▸ x) h = tt
late_catch (suc n) caught (step ▸ x) h = late_catch n caught x h

pub late_law : (n : ℕ) (x : Stream) → Late n x → ending x ≡ by_halt cut → n ≤ step_count x
unfolding Late LateEnd ending step_count
late_law zero x h e = omega arith
late_law (suc n) (ends a) h e = absurd (h e)
late_law (suc n) (note m ▸ x) h e = late_law (suc n) x h e
late_law (suc n) (state how s ▸ x) h e = late_law (suc n) x h e
late_law (suc n) (step ▸ x) h e = let k = late_law n x h e in omega arith
