-- Streams that reach each place of a set, unless they are halted before.
use Rattle.std.proofs.Common.{◌≡◌, ℕ, ◌+◌, Bool, true, false, None, ◌⊎◌, inl, inr, refl, sym, subst}
use Rattle.std.specs.Prelude.{nat_le}
use Rattle.pat_tree.specs.declared.options.PartialMode.{PartialMode}
use Rattle.pat_tree.specs.declared.options.PartialMode.TheVariants.{Off, Soft, Hard}
use Rattle.ordered_search.specs.Stream.{State, exhausted, by_verb, by_halt, is_partial, too_many_units, Halt, How}
use Rattle.ordered_search.specs.Stream.{reached, accepted, note, hit_end, is_next_branch, captured, state, step}
use Rattle.ordered_search.specs.Stream.{Stream, Search, ends, ◌▸◌, nothing, gives, ◌or_else◌, each, and_then, catch}
use Rattle.ordered_search.specs.Setting.{Setting, held, hold, counts, reach, reach_if}
use Rattle.ordered_search.proofs.ForwardStreams.{IsOnWay, Forward}
use Rattle.pat_shape.specs.Wide.{Only}
use Rattle.pat_shape.specs.Exact.{Calm, Reaches, Full}

calm_or_else : (x y : Stream) → Calm x → Calm y → Calm (x or_else y)
unfolding Calm ◌or_else◌
calm_or_else (ends exhausted) y h k = k
calm_or_else (ends (by_verb v)) y h k = h
calm_or_else (ends (by_halt a)) y h k = h
calm_or_else (note m ▸ x) y h k = calm_or_else x y h k
calm_or_else (state reached s ▸ x) y h k = calm_or_else x y h k
calm_or_else (state accepted s ▸ x) y h k = h
calm_or_else (step ▸ x) y h k = calm_or_else x y h k

reach_first : (e : ℕ) (x y : Stream) → Reaches e x → Reaches e (x or_else y)
unfolding Reaches ◌or_else◌
reach_first e (ends exhausted) y h = absurd h
reach_first e (ends (by_verb v)) y h = h
reach_first e (ends (by_halt a)) y h = h
reach_first e (note m ▸ x) y h = reach_first e x y h
reach_first e (state reached s ▸ x) y (inl h) = inl h
reach_first e (state reached s ▸ x) y (inr h) = inr (reach_first e x y h)
reach_first e (state accepted s ▸ x) y h = h
reach_first e (step ▸ x) y h = reach_first e x y h

reach_later : (e : ℕ) (x y : Stream) → Calm x → Reaches e y → Reaches e (x or_else y)
unfolding Calm Reaches ◌or_else◌
reach_later e (ends exhausted) y h k = k
reach_later e (ends (by_verb v)) y h k = absurd h
reach_later e (ends (by_halt a)) y h k = tt
reach_later e (note m ▸ x) y h k = reach_later e x y h k
reach_later e (state reached s ▸ x) y h k = inr (reach_later e x y h k)
reach_later e (state accepted s ▸ x) y h k = absurd h
reach_later e (step ▸ x) y h k = reach_later e x y h k

pub full_or_else : (P Q : ℕ → Type 0) (x y : Stream) → Full P x → Full Q y → Full (λ e. P e ⊎ Q e) (x or_else y)
full_or_else P Q x y h k = (calm_or_else x y h.0 k.0, λ e p. by_side e p)
  where
    by_side : (e : ℕ) → P e ⊎ Q e → Reaches e (x or_else y)
    by_side e (inl p) = reach_first e x y (h.1 e p)
    by_side e (inr q) = reach_later e x y h.0 (k.1 e q)

pub full_fewer : (P Q : ℕ → Type 0) → ((e : ℕ) → Q e → P e) → (x : Stream) → Full P x → Full Q x
full_fewer P Q to x h = (h.0, λ e q. h.1 e (to e q))

module _ (P : ℕ → Type 0) where
  pub full_none : ((e : ℕ) → ¬ P e) → Full P nothing
  unfolding Calm
  full_none none = (tt, λ e p. absurd (none e p))

  pub full_halt : (a : Halt) → Full P (ends (by_halt a))
  unfolding Calm Reaches
  full_halt a = (tt, λ e p. tt)

  pub full_gives : (s : State) → ((e : ℕ) → P e → s.place ≡ e) → Full P (gives reached s)
  unfolding Calm Reaches
  full_gives s to = (tt, λ e p. inl (to e p))

  pub full_step : (x : Stream) → Full P x → Full P (step ▸ x)
  unfolding Calm Reaches
  full_step x h = (h.0, λ e p. h.1 e p)

  pub full_if : (b : Bool) (x y : Stream) → (b ≡ true → Full P x) → (b ≡ false → Full P y)
      → Full P (elim b [ true ↦ x | false ↦ y ])
  full_if true x y h k = h refl
  full_if false x y h k = k refl

  calm_caught : (x : Stream) → Calm x → Calm (catch is_next_branch x)
  unfolding Calm catch
  calm_caught (ends exhausted) h = tt
  calm_caught (ends (by_verb v)) h = absurd h
  calm_caught (ends (by_halt a)) h = tt
  calm_caught (note m ▸ x) h = calm_caught x h
  calm_caught (state reached s ▸ x) h = calm_caught x h
  calm_caught (state accepted s ▸ x) h = h
  calm_caught (step ▸ x) h = calm_caught x h

  reach_caught : (e : ℕ) (x : Stream) → Reaches e x → Reaches e (catch is_next_branch x)
  unfolding Reaches catch
  reach_caught e (ends exhausted) h = absurd h
  reach_caught e (ends (by_verb v)) h = absurd h
  reach_caught e (ends (by_halt a)) h = tt
  reach_caught e (note m ▸ x) h = reach_caught e x h
  reach_caught e (state reached s ▸ x) (inl h) = inl h
  reach_caught e (state reached s ▸ x) (inr h) = inr (reach_caught e x h)
  reach_caught e (state accepted s ▸ x) h = h
  reach_caught e (step ▸ x) h = reach_caught e x h

  pub full_caught : (x : Stream) → Full P x → Full P (catch is_next_branch x)
  full_caught x h = (calm_caught x h.0, λ e p. reach_caught e x (h.1 e p))

  module _ (g : Setting) where
    pub full_held : (k : ℕ) (s : State) (f : Search) → Full P (f (record s { units = s.units + k }))
        → Full P (held g k s f)
    unfolding held
    full_held k s f h = full_if (nat_le (s.units + k) g.matching.frame_limit) _ _ (λ fits. h)
        (λ over. full_halt too_many_units)

    pub full_hold : (s : State) → ((e : ℕ) → P e → s.place ≡ e) → Full P (hold g reached s)
    unfolding hold
    full_hold s to = full_held 1 s (gives reached) (full_gives _ to)

    full_reached : (mode : PartialMode) (b : Bool) (x : Stream) → Full P x → Full P (elim mode [
      | Off ↦ x
      | Soft ↦ elim b [ true ↦ note hit_end ▸ x | false ↦ x ]
      | Hard ↦ elim b [ true ↦ ends (by_halt is_partial) | false ↦ x ]
    ])
    unfolding Calm Reaches
    full_reached Off b x h = h
    full_reached Soft true x h = (h.0, λ e p. h.1 e p)
    full_reached Soft false x h = h
    full_reached Hard true x h = (tt, λ e p. tt)
    full_reached Hard false x h = h

    pub full_reach_if : (b : Bool) (s : State) (x : Stream) → Full P x → Full P (reach_if g b s x)
    unfolding reach reach_if
    full_reach_if true s x h = full_reached g.matching.«partial» (counts g s) x h
    full_reach_if false s x h = h

-- What goes on from each state, whose place is of O.
module _ (g : Setting) (O : ℕ → Type 0) (R : ℕ → ℕ → Type 0) where
  abbrev pub Later : Search → Type 0
  Later f = (s : State) → IsOnWay g None s → O s.place → Full (R s.place) (f s)

  calm_then : (p : ℕ) (x : Stream) (f : Search) → Calm x → Only O x → Forward g None p x → Later f → Calm (and_then x f)
  unfolding Calm Only Forward each
  calm_then p (ends exhausted) f h o w k = tt
  calm_then p (ends (by_verb v)) f h o w k = absurd h
  calm_then p (ends (by_halt a)) f h o w k = tt
  calm_then p (note m ▸ x) f h o w k = calm_then p x f h o w k
  calm_then p (state reached s ▸ x) f h o w k = calm_or_else (f s) (and_then x f) (k s w.1 o.0).0
      (calm_then p x f h o.1 w.2 k)
  calm_then p (state accepted s ▸ x) f h o w k = absurd h
  calm_then p (step ▸ x) f h o w k = calm_then p x f h o w k

  reach_then : (m e p : ℕ) (x : Stream) (f : Search) → Calm x → Only O x → Forward g None p x → Later f → R m e
      → Reaches m x → Reaches e (and_then x f)
  unfolding Calm Only Forward Reaches each
  reach_then m e p (ends exhausted) f h o w k r there = absurd there
  reach_then m e p (ends (by_verb v)) f h o w k r there = absurd there
  reach_then m e p (ends (by_halt a)) f h o w k r there = tt
  reach_then m e p (note n ▸ x) f h o w k r there = reach_then m e p x f h o w k r there
  reach_then m e p (state reached s ▸ x) f h o w k r (inl here) =
      reach_first e (f s) (and_then x f) ((k s w.1 o.0).1 e (subst (λ n. R n e) (sym here) r))
  reach_then m e p (state reached s ▸ x) f h o w k r (inr there) =
      reach_later e (f s) (and_then x f) (k s w.1 o.0).0 (reach_then m e p x f h o.1 w.2 k r there)
  reach_then m e p (state accepted s ▸ x) f h o w k r there = absurd h
  reach_then m e p (step ▸ x) f h o w k r there = reach_then m e p x f h o w k r there

  pub full_then : (P : ℕ → Type 0) (p : ℕ) (x : Stream) (f : Search) → Full P x → Only O x → Forward g None p x
      → Later f
      → Full (λ e. (m : ℕ) × P m × R m e) (and_then x f)
  full_then P p x f h o w k = (calm_then p x f h.0 o w k, λ e q. reach_then q.0 e p x f h.0 o w k q.2 (h.1 q.0 q.1))

-- a group is captured, and the place stays
module _ (g : Setting) (n from : ℕ) where
  abbrev marks : How → Search
  marks how u = hold g how (captured n from u)

  mark_one : (s : State) → Full (λ e. s.place ≡ e) (hold g reached (captured n from s))
  mark_one s = full_hold (λ e. s.place ≡ e) g (captured n from s) (λ e same. same)

  calm_marked : (x : Stream) → Calm x → Calm (each x marks)
  unfolding Calm each
  calm_marked (ends exhausted) h = tt
  calm_marked (ends (by_verb v)) h = absurd h
  calm_marked (ends (by_halt a)) h = tt
  calm_marked (note m ▸ x) h = calm_marked x h
  calm_marked (state reached s ▸ x) h = calm_or_else _ (each x marks) (mark_one s).0 (calm_marked x h)
  calm_marked (state accepted s ▸ x) h = absurd h
  calm_marked (step ▸ x) h = calm_marked x h

  reach_marked : (e : ℕ) (x : Stream) → Calm x → Reaches e x → Reaches e (each x marks)
  unfolding Calm Reaches each
  reach_marked e (ends exhausted) h k = absurd k
  reach_marked e (ends (by_verb v)) h k = absurd k
  reach_marked e (ends (by_halt a)) h k = tt
  reach_marked e (note m ▸ x) h k = reach_marked e x h k
  reach_marked e (state reached s ▸ x) h (inl here) = reach_first e _ (each x marks) ((mark_one s).1 e here)
  reach_marked e (state reached s ▸ x) h (inr there) =
      reach_later e _ (each x marks) (mark_one s).0 (reach_marked e x h there)
  reach_marked e (state accepted s ▸ x) h k = absurd h
  reach_marked e (step ▸ x) h k = reach_marked e x h k

  pub full_marked : (P : ℕ → Type 0) (x : Stream) → Full P x → Full P (each x (λ how u. hold g how (captured n from u)))
  full_marked P x h = (calm_marked x h.0, λ e p. reach_marked e x h.0 (h.1 e p))
