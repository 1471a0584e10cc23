-- Streams that end when they are exhausted or their depth is used up, with states that are reached
-- with no more than so many units and nothing told beside them; how many Steps and states they give.
use Rattle.std.proofs.Common.{◌≡◌, ℕ, suc, ◌+◌, ◌*◌, ◌≤◌, Bool, true, false, refl, ap, arith}
use Rattle.std.proofs.lemmas.Nat.{mul-le}
use Rattle.ordered_search.specs.Stream.{State, Ending, exhausted, by_verb, by_halt, is_partial, too_many_units, loop}
use Rattle.ordered_search.specs.Stream.{abort, cut, How, reached, accepted, note, state, step, Stream, Search, ends}
use Rattle.ordered_search.specs.Stream.{◌▸◌, nothing, gives, ◌or_else◌, each, and_then, go_on, decide, catch}
use Rattle.ordered_search.specs.Laws.{step_count}

-- how many states are in it
unfoldable pub state_count : Stream → ℕ
state_count (ends e) = 0
state_count (note k ▸ x) = state_count x
state_count (state how s ▸ x) = suc (state_count x)
state_count (step ▸ x) = state_count x

abbrev pub IsTameEnd : Ending → Type 0
IsTameEnd exhausted = Unit {0}
IsTameEnd (by_verb v) = ⊥
IsTameEnd (by_halt is_partial) = ⊥
IsTameEnd (by_halt too_many_units) = ⊥
IsTameEnd (by_halt loop) = ⊥
IsTameEnd (by_halt (abort n)) = ⊥
IsTameEnd (by_halt cut) = Unit {0}

unfoldable pub Tame : ℕ → Stream → Type 0
Tame u (ends e) = IsTameEnd e
Tame u (note k ▸ x) = ⊥
Tame u (state reached s ▸ x) = (s.units ≤ u) × Tame u x
Tame u (state accepted s ▸ x) = ⊥
Tame u (step ▸ x) = Tame u x

tame_more : (u v : ℕ) (x : Stream) → u ≤ v → Tame u x → Tame v x
unfolding Tame
tame_more u v (ends e) le h = h
tame_more u v (note k ▸ x) le h = absurd h
tame_more u v (state reached s ▸ x) le h = (omega (arith, le, h.0), tame_more u v x le h.1)
tame_more u v (state accepted s ▸ x) le h = absurd h
tame_more u v (step ▸ x) le h = tame_more u v x le h

-- One stream behind another.

tame_or_else : (u : ℕ) (x y : Stream) → Tame u x → Tame u y → Tame u (x or_else y)
unfolding Tame ◌or_else◌
tame_or_else u (ends exhausted) y h k = k
tame_or_else u (ends (by_verb v)) y h k = absurd h
tame_or_else u (ends (by_halt a)) y h k = h
tame_or_else u (note m ▸ x) y h k = absurd h
tame_or_else u (state reached s ▸ x) y h k = (h.0, tame_or_else u x y h.1 k)
tame_or_else u (state accepted s ▸ x) y h k = absurd h
tame_or_else u (step ▸ x) y h k = tame_or_else u x y h k

steps_both : (x y : Stream) → step_count (x or_else y) ≤ step_count x + step_count y
unfolding step_count ◌or_else◌
steps_both (ends exhausted) y = omega arith
steps_both (ends (by_verb v)) y = omega arith
steps_both (ends (by_halt a)) y = omega arith
steps_both (note m ▸ x) y = steps_both x y
steps_both (state how s ▸ x) y = steps_both x y
steps_both (step ▸ x) y = let h = steps_both x y in omega (arith, h)

pub states_both : (x y : Stream) → state_count (x or_else y) ≤ state_count x + state_count y
unfolding state_count ◌or_else◌
states_both (ends exhausted) y = omega arith
states_both (ends (by_verb v)) y = omega arith
states_both (ends (by_halt a)) y = omega arith
states_both (note m ▸ x) y = states_both x y
states_both (state how s ▸ x) y = let h = states_both x y in omega (arith, h)
states_both (step ▸ x) y = states_both x y

-- Within bounds: so many Steps, states and units.

pub record Within (p r u : ℕ) (x : Stream) : Type 0 where
  pub steps : step_count x ≤ p
  pub states : state_count x ≤ r
  pub tame : Tame u x

pub within_more : (p r u q t v : ℕ) (x : Stream) → p ≤ q → r ≤ t → u ≤ v → Within p r u x → Within q t v x
within_more p r u q t v x a b c h = record {
  steps = let k = h.steps in omega (arith, a, k);
  states = let k = h.states in omega (arith, b, k);
  tame = tame_more u v x c h.tame;
}

pub within_nothing : (p r u : ℕ) → Within p r u nothing
unfolding step_count state_count Tame
within_nothing p r u = record { steps = omega arith; states = omega arith; tame = tt }

pub within_end : (p r u : ℕ) (e : Ending) → IsTameEnd e → Within p r u (ends e)
unfolding step_count state_count Tame
within_end p r u e h = record { steps = omega arith; states = omega arith; tame = h }

pub within_gives : (p u : ℕ) (s : State) → s.units ≤ u → Within p 1 u (gives reached s)
unfolding step_count state_count Tame
within_gives p u s h = record { steps = omega arith; states = omega arith; tame = (h, tt) }

pub within_if : (p r u : ℕ) (b : Bool) (x y : Stream) → Within p r u x → Within p r u y
    → Within p r u (elim b [ true ↦ x | false ↦ y ])
within_if p r u true x y h k = h
within_if p r u false x y h k = k

pub within_step : (p r u : ℕ) (x : Stream) → Within p r u x → Within (1 + p) r u (step ▸ x)
unfolding step_count state_count Tame
within_step p r u x h = record { steps = let k = h.steps in omega (arith, k); states = h.states; tame = h.tame }

pub within_or_else : (p r q t u : ℕ) (x y : Stream) → Within p r u x → Within q t u y
    → Within (p + q) (r + t) u (x or_else y)
within_or_else p r q t u x y h k = record {
  steps = let a = h.steps in let b = k.steps in let c = steps_both x y in omega (arith, a, b, c);
  states = let a = h.states in let b = k.states in let c = states_both x y in omega (arith, a, b, c);
  tame = tame_or_else u x y h.tame k.tame;
}

-- At each state.

abbrev pub AllWithin : ℕ → ℕ → ℕ → ℕ → (How → Search) → Type 0
AllWithin u p r v f = (s : State) → s.units ≤ u → Within p r v (f reached s)

tame_each : (u p r v : ℕ) (x : Stream) (f : How → Search) → Tame u x → AllWithin u p r v f → Tame v (each x f)
unfolding Tame each
tame_each u p r v (ends e) f h k = h
tame_each u p r v (note m ▸ x) f h k = absurd h
tame_each u p r v (state reached s ▸ x) f h k =
    tame_or_else v (f reached s) (each x f) (k s h.0).tame (tame_each u p r v x f h.1 k)
tame_each u p r v (state accepted s ▸ x) f h k = absurd h
tame_each u p r v (step ▸ x) f h k = tame_each u p r v x f h k

steps_each : (u p r v : ℕ) (x : Stream) (f : How → Search) → Tame u x → AllWithin u p r v f →
    step_count (each x f) ≤ step_count x + state_count x * p
unfolding Tame step_count state_count each
steps_each u p r v (ends e) f h k = omega arith
steps_each u p r v (note m ▸ x) f h k = absurd h
steps_each u p r v (state reached s ▸ x) f h k =
    let a = steps_both (f reached s) (each x f) in
    let b = (k s h.0).steps in
    let c = steps_each u p r v x f h.1 k in
    let e : suc (state_count x) * p ≡ p + state_count x * p = omega arith in
    omega (arith, a, b, c, e)
steps_each u p r v (state accepted s ▸ x) f h k = absurd h
steps_each u p r v (step ▸ x) f h k = let c = steps_each u p r v x f h k in omega (arith, c)

states_each : (u p r v : ℕ) (x : Stream) (f : How → Search) → Tame u x → AllWithin u p r v f →
    state_count (each x f) ≤ state_count x * r
unfolding Tame state_count each
states_each u p r v (ends e) f h k = omega arith
states_each u p r v (note m ▸ x) f h k = absurd h
states_each u p r v (state reached s ▸ x) f h k =
    let a = states_both (f reached s) (each x f) in
    let b = (k s h.0).states in
    let c = states_each u p r v x f h.1 k in
    let e : suc (state_count x) * r ≡ r + state_count x * r = omega arith in
    omega (arith, a, b, c, e)
states_each u p r v (state accepted s ▸ x) f h k = absurd h
states_each u p r v (step ▸ x) f h k = states_each u p r v x f h k

pub within_each : (p r u q t v : ℕ) (x : Stream) (f : How → Search) → Within p r u x → AllWithin u q t v f →
    Within (p + r * q) (r * t) v (each x f)
within_each p r u q t v x f h k = record {
  steps =
      let a = steps_each u q t v x f h.tame k in
      let b = h.steps in
      let c = mul-le (state_count x) q r q h.states (omega arith) in
      omega (arith, a, b, c);
  states =
      let a = states_each u q t v x f h.tame k in
      let c = mul-le (state_count x) t r t h.states (omega arith) in
      omega (arith, a, c);
  tame = tame_each u q t v x f h.tame k;
}

pub within_and_then : (p r u q t v : ℕ) (x : Stream) (f : Search) → Within p r u x
    → ((s : State) → s.units ≤ u → Within q t v (f s)) →
    Within (p + r * q) (r * t) v (and_then x f)
within_and_then p r u q t v x f h k = within_each p r u q t v x (go_on f) h k

-- The first state decides, or y follows.
decide_counted : (u q t q' t' v : ℕ) (fails : Ending → Bool) (x : Stream) (f : How → Search) (y : Stream) → Tame u x →
    AllWithin u q t v f → Within q' t' v y → Within (step_count x + (q + q')) (t + t') v (decide fails x f y)
unfolding Tame step_count decide
decide_counted u q t q' t' v fails (ends e) f y h k l =
    within_if _ _ v (fails e) y (ends e) (within_more q' t' v _ _ v y (omega arith) (omega arith) (omega arith) l)
    (within_end _ _ v e h)
decide_counted u q t q' t' v fails (note m ▸ x) f y h k l = absurd h
decide_counted u q t q' t' v fails (state reached s ▸ x) f y h k l =
    within_more q t v _ _ v (f reached s) (omega arith) (omega arith) (omega arith) (k s h.0)
decide_counted u q t q' t' v fails (state accepted s ▸ x) f y h k l = absurd h
decide_counted u q t q' t' v fails (step ▸ x) f y h k l =
    within_more (1 + (step_count x + (q + q'))) (t + t') v _ _ v _ (omega arith) (omega arith) (omega arith)
    (within_step (step_count x + (q + q')) (t + t') v _ (decide_counted u q t q' t' v fails x f y h k l))

pub within_decide : (p r u q t q' t' v : ℕ) (fails : Ending → Bool) (x : Stream) (f : How → Search) (y : Stream)
    → Within p r u x →
    AllWithin u q t v f → Within q' t' v y → Within (p + (q + q')) (t + t') v (decide fails x f y)
within_decide p r u q t q' t' v fails x f y h k l =
    let a = h.steps in
    within_more (step_count x + (q + q')) (t + t') v _ _ v _ (omega (arith, a)) (omega arith) (omega arith)
    (decide_counted u q t q' t' v fails x f y h.tame k l)

-- An ending that is caught leaves the bounds as they are.

steps_caught : (caught : Ending → Bool) (x : Stream) → step_count (catch caught x) ≡ step_count x
unfolding step_count catch
steps_caught caught (ends e) = by_test (caught e)
  where
    by_test : (b : Bool) → step_count (elim b [ true ↦ nothing | false ↦ ends e ]) ≡ 0
    by_test true = refl
    by_test false = refl
steps_caught caught (note m ▸ x) = steps_caught caught x
steps_caught caught (state how s ▸ x) = steps_caught caught x
steps_caught caught (step ▸ x) = ap suc (steps_caught caught x)

pub states_caught : (caught : Ending → Bool) (x : Stream)
    → state_count (catch caught x) ≡ state_count x
unfolding state_count catch
states_caught caught (ends e) = by_test (caught e)
  where
    by_test : (b : Bool) → state_count (elim b [ true ↦ nothing | false ↦ ends e ]) ≡ 0
    by_test true = refl
    by_test false = refl
states_caught caught (note m ▸ x) = states_caught caught x
states_caught caught (state how s ▸ x) = ap suc (states_caught caught x)
states_caught caught (step ▸ x) = states_caught caught x

tame_caught : (u : ℕ) (caught : Ending → Bool) (x : Stream) → Tame u x → Tame u (catch caught x)
unfolding Tame catch
tame_caught u caught (ends e) h = by_test (caught e)
  where
    by_test : (b : Bool) → Tame u (elim b [ true ↦ nothing | false ↦ ends e ])
    by_test true = tt
    by_test false = h
tame_caught u caught (note m ▸ x) h = absurd h
tame_caught u caught (state reached s ▸ x) h = (h.0, tame_caught u caught x h.1)
tame_caught u caught (state accepted s ▸ x) h = absurd h
tame_caught u caught (step ▸ x) h = tame_caught u caught x h

pub within_catch : (p r u : ℕ) (caught : Ending → Bool) (x : Stream) → Within p r u x → Within p r u (catch caught x)
within_catch p r u caught x h = record {
  steps = let a = h.steps in let e = steps_caught caught x in omega (arith, a, e);
  states = let a = h.states in let e = states_caught caught x in omega (arith, a, e);
  tame = tame_caught u caught x h.tame;
}
