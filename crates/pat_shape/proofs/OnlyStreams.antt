-- Streams whose states are all reached at places of a set.
use Rattle.std.proofs.Common.{◌≡◌, ℕ, ◌+◌, Bool, true, false, None, refl}
use Rattle.std.specs.Prelude.{nat_le}
use Rattle.pat_tree.specs.declared.options.PartialMode.{PartialMode}
use Rattle.pat_tree.specs.declared.options.PartialMode.TheVariants.{Off, Soft, Hard}
use Rattle.ordered_search.specs.Stream.{State, Ending, exhausted, by_verb, by_halt, is_partial, How, reached}
use Rattle.ordered_search.specs.Stream.{accepted, Note, note, hit_end, state, step, Stream, Search, ends, ◌▸◌}
use Rattle.ordered_search.specs.Stream.{nothing, gives, ◌or_else◌, each, and_then, decide, catch}
use Rattle.ordered_search.specs.Setting.{Setting, held, hold, counts, reach, reach_if}
use Rattle.ordered_search.proofs.ForwardStreams.{IsOnWay, Forward}
use Rattle.pat_shape.specs.Wide.{Only}

module _ (P : ℕ → Type 0) where
  pub only_end : (e : Ending) → Only P (ends e)
  unfolding Only
  only_end e = tt

  pub only_gives : (s : State) → P s.place → Only P (gives reached s)
  unfolding Only
  only_gives s h = (h, tt)

  pub only_note : (m : Note) (x : Stream) → Only P x → Only P (note m ▸ x)
  unfolding Only
  only_note m x h = h

  -- a state, and then an ending
  pub only_last : (s : State) (e : Ending) → P s.place → Only P (state reached s ▸ ends e)
  unfolding Only
  only_last s e h = (h, tt)

  pub only_step : (x : Stream) → Only P x → Only P (step ▸ x)
  unfolding Only
  only_step x h = h

  pub only_if : (b : Bool) (x y : Stream) → Only P x → Only P y → Only P (elim b [ true ↦ x | false ↦ y ])
  only_if true x y h k = h
  only_if false x y h k = k

  pub only_if_so : (b : Bool) (x y : Stream) → (b ≡ true → Only P x) → Only P y
      → Only P (elim b [ true ↦ x | false ↦ y ])
  only_if_so true x y h k = h refl
  only_if_so false x y h k = k

  pub only_or_else : (x y : Stream) → Only P x → Only P y → Only P (x or_else y)
  unfolding Only ◌or_else◌
  only_or_else (ends exhausted) y h k = k
  only_or_else (ends (by_verb v)) y h k = h
  only_or_else (ends (by_halt a)) y h k = h
  only_or_else (note m ▸ x) y h k = only_or_else x y h k
  only_or_else (state reached s ▸ x) y h k = (h.0, only_or_else x y h.1 k)
  only_or_else (state accepted s ▸ x) y h k = h
  only_or_else (step ▸ x) y h k = only_or_else x y h k

  pub only_catch : (caught : Ending → Bool) (x : Stream) → Only P x → Only P (catch caught x)
  unfolding Only catch
  only_catch caught (ends e) h = only_if (caught e) nothing (ends e) (only_end exhausted) h
  only_catch caught (note m ▸ x) h = only_catch caught x h
  only_catch caught (state reached s ▸ x) h = (h.0, only_catch caught x h.1)
  only_catch caught (state accepted s ▸ x) h = h
  only_catch caught (step ▸ x) h = only_catch caught x h

  module _ (g : Setting) where
    pub only_held : (k : ℕ) (s : State) (f : Search) → Only P (f (record s { units = s.units + k }))
        → Only P (held g k s f)
    unfolding held
    only_held k s f h = only_if (nat_le (s.units + k) g.matching.frame_limit) _ _ h (only_end _)

    pub only_hold : (s : State) → P s.place → Only P (hold g reached s)
    unfolding hold
    only_hold s h = only_held 1 s (gives reached) (only_gives _ h)

    only_reached : (mode : PartialMode) (b : Bool) (x : Stream) → Only P x → Only P (elim mode [
      | Off ↦ x
      | Soft ↦ elim b [ true ↦ note hit_end ▸ x | false ↦ x ]
      | Hard ↦ elim b [ true ↦ ends (by_halt is_partial) | false ↦ x ]
    ])
    unfolding Only
    only_reached Off b x h = h
    only_reached Soft true x h = h
    only_reached Soft false x h = h
    only_reached Hard true x h = tt
    only_reached Hard false x h = h

    pub only_reach_if : (b : Bool) (s : State) (x : Stream) → Only P x → Only P (reach_if g b s x)
    unfolding reach reach_if
    only_reach_if true s x h = only_reached g.matching.«partial» (counts g s) x h
    only_reach_if false s x h = h

module _ (P Q : ℕ → Type 0) where
  pub only_wider : ((q : ℕ) → P q → Q q) → (x : Stream) → Only P x → Only Q x
  unfolding Only
  only_wider to (ends e) h = tt
  only_wider to (note m ▸ x) h = only_wider to x h
  only_wider to (state reached s ▸ x) h = (to s.place h.0, only_wider to x h.1)
  only_wider to (state accepted s ▸ x) h = h
  only_wider to (step ▸ x) h = only_wider to x h

  pub only_each : (x : Stream) (f : How → Search) → Only P x → ((s : State) → P s.place → Only Q (f reached s))
      → Only Q (each x f)
  unfolding Only each
  only_each (ends e) f h k = tt
  only_each (note m ▸ x) f h k = only_each x f h k
  only_each (state reached s ▸ x) f h k = only_or_else Q (f reached s) (each x f) (k s h.0) (only_each x f h.1 k)
  only_each (state accepted s ▸ x) f h k = absurd h
  only_each (step ▸ x) f h k = only_each x f h k

  -- what goes on from a state on its way
  pub only_then : (g : Setting) (p : ℕ) (x : Stream) (f : Search) → Only P x → Forward g None p x
      → ((s : State) → IsOnWay g None s → P s.place → Only Q (f s)) → Only Q (and_then x f)
  unfolding Only Forward each
  only_then g p (ends e) f h w k = tt
  only_then g p (note m ▸ x) f h w k = only_then g p x f h w k
  only_then g p (state reached s ▸ x) f h w k = only_or_else Q (f s) (and_then x f) (k s w.1 h.0)
      (only_then g p x f h.1 w.2 k)
  only_then g p (state accepted s ▸ x) f h w k = absurd h
  only_then g p (step ▸ x) f h w k = only_then g p x f h w k

  -- the first state decides
  pub only_decide : (fails : Ending → Bool) (x : Stream) (f : How → Search) (y : Stream) → Only P x → Only Q y
      → ((s : State) → P s.place → Only Q (f reached s)) → Only Q (decide fails x f y)
  unfolding Only decide
  only_decide fails (ends e) f y h k to = only_if Q (fails e) y (ends e) k (only_end Q e)
  only_decide fails (note m ▸ x) f y h k to = only_decide fails x f y h k to
  only_decide fails (state reached s ▸ x) f y h k to = to s h.0
  only_decide fails (state accepted s ▸ x) f y h k to = absurd h
  only_decide fails (step ▸ x) f y h k to = only_decide fails x f y h k to

-- Whatever the states are, what follows is of Q.
module _ (Q : ℕ → Type 0) where
  pub only_each_any : (x : Stream) (f : How → Search) → ((how : How) (s : State) → Only Q (f how s)) → Only Q (each x f)
  unfolding Only each
  only_each_any (ends e) f k = tt
  only_each_any (note m ▸ x) f k = only_each_any x f k
  only_each_any (state how s ▸ x) f k = only_or_else Q (f how s) (each x f) (k how s) (only_each_any x f k)
  only_each_any (step ▸ x) f k = only_each_any x f k

  pub only_decide_any : (fails : Ending → Bool) (x : Stream) (f : How → Search) (y : Stream) → Only Q y
      → ((how : How) (s : State) → Only Q (f how s)) → Only Q (decide fails x f y)
  unfolding Only decide
  only_decide_any fails (ends e) f y k to = only_if Q (fails e) y (ends e) k (only_end Q e)
  only_decide_any fails (note m ▸ x) f y k to = only_decide_any fails x f y k to
  only_decide_any fails (state how s ▸ x) f y k to = to how s
  only_decide_any fails (step ▸ x) f y k to = only_decide_any fails x f y k to
