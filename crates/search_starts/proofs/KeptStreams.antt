-- Streams whose states are all reached and of one kind, which tell nothing beside them and end when they are exhausted
-- or by a limit.
use Rattle.std.proofs.Common.{Bool, true, false, Option, Some, None}
use Rattle.ordered_search.specs.Stream.{State, too_many_units, cut, Ending, exhausted, by_verb, by_halt, How}
use Rattle.ordered_search.specs.Stream.{reached, accepted, note, state, step, Stream, Search, ends, ◌▸◌, nothing}
use Rattle.ordered_search.specs.Stream.{gives, ◌or_else◌, each, go_on, and_then, decide, catch}

abbrev IsQuiet : Ending → Type 0
IsQuiet exhausted = Unit {0}
IsQuiet (by_halt too_many_units) = Unit {0}
IsQuiet (by_halt cut) = Unit {0}
IsQuiet _ = ⊥

unfoldable pub Kept : (State → Type 0) → Stream → Type 0
Kept P (ends e) = IsQuiet e
Kept P (note k ▸ x) = ⊥
Kept P (state reached s ▸ x) = P s × Kept P x
Kept P (state accepted s ▸ x) = ⊥
Kept P (step ▸ x) = Kept P x

module _ (P : State → Type 0) where
  pub kept_nothing : Kept P nothing
  unfolding Kept
  kept_nothing = tt

  pub kept_cut : Kept P (ends (by_halt cut))
  unfolding Kept
  kept_cut = tt

  pub kept_full : Kept P (ends (by_halt too_many_units))
  unfolding Kept
  kept_full = tt

  pub kept_gives : (s : State) → P s → Kept P (gives reached s)
  unfolding Kept
  kept_gives s h = (h, tt)

  pub kept_if : (b : Bool) (x y : Stream) → Kept P x → Kept P y → Kept P (elim b [ true ↦ x | false ↦ y ])
  kept_if true x y h k = h
  kept_if false x y h k = k

  pub kept_option : {A : Type 0} (o : Option A) (x : Stream) (f : A → Stream) → Kept P x → ((a : A) → Kept P (f a)) →
      Kept P (elim o [ None ↦ x | Some a ↦ f a ])
  kept_option None x f h k = h
  kept_option (Some a) x f h k = k a

  pub kept_step : (x : Stream) → Kept P x → Kept P (step ▸ x)
  unfolding Kept
  kept_step x h = h

  pub kept_or_else : (x y : Stream) → Kept P x → Kept P y → Kept P (x or_else y)
  unfolding Kept ◌or_else◌
  kept_or_else (ends exhausted) y h k = k
  kept_or_else (ends (by_verb v)) y h k = absurd h
  kept_or_else (ends (by_halt a)) y h k = h
  kept_or_else (note m ▸ x) y h k = absurd h
  kept_or_else (state reached s ▸ x) y h k = (h.0, kept_or_else x y h.1 k)
  kept_or_else (state accepted s ▸ x) y h k = absurd h
  kept_or_else (step ▸ x) y h k = kept_or_else x y h k

  pub kept_catch : (caught : Ending → Bool) (x : Stream) → Kept P x → Kept P (catch caught x)
  unfolding Kept catch
  kept_catch caught (ends e) h = kept_if (caught e) nothing (ends e) kept_nothing h
  kept_catch caught (note m ▸ x) h = absurd h
  kept_catch caught (state reached s ▸ x) h = (h.0, kept_catch caught x h.1)
  kept_catch caught (state accepted s ▸ x) h = absurd h
  kept_catch caught (step ▸ x) h = kept_catch caught x h

-- From one kind of states to another.
module _ (P Q : State → Type 0) where
  pub kept_each : (x : Stream) (f : How → Search) → Kept P x → ((s : State) → P s → Kept Q (f reached s))
      → Kept Q (each x f)
  unfolding Kept each
  kept_each (ends e) f h k = h
  kept_each (note m ▸ x) f h k = absurd h
  kept_each (state reached s ▸ x) f h k = kept_or_else Q (f reached s) (each x f) (k s h.0) (kept_each x f h.1 k)
  kept_each (state accepted s ▸ x) f h k = absurd h
  kept_each (step ▸ x) f h k = kept_each x f h k

  pub kept_and_then : (x : Stream) (f : Search) → Kept P x → ((s : State) → P s → Kept Q (f s)) → Kept Q (and_then x f)
  kept_and_then x f h k = kept_each x (go_on f) h k

  pub kept_decide : (fails : Ending → Bool) (x : Stream) (f : How → Search) (y : Stream) → Kept P x →
      ((s : State) → P s → Kept Q (f reached s)) → Kept Q y → Kept Q (decide fails x f y)
  unfolding Kept decide
  kept_decide fails (ends e) f y h k l = kept_if Q (fails e) y (ends e) l h
  kept_decide fails (note m ▸ x) f y h k l = absurd h
  kept_decide fails (state reached s ▸ x) f y h k l = k s h.0
  kept_decide fails (state accepted s ▸ x) f y h k l = absurd h
  kept_decide fails (step ▸ x) f y h k l = kept_decide fails x f y h k l

  pub kept_more : (x : Stream) → Kept P x → ((s : State) → P s → Q s) → Kept Q x
  unfolding Kept
  kept_more (ends e) h k = h
  kept_more (note m ▸ x) h k = absurd h
  kept_more (state reached s ▸ x) h k = (k s h.0, kept_more x h.1 k)
  kept_more (state accepted s ▸ x) h k = absurd h
  kept_more (step ▸ x) h k = kept_more x h k
