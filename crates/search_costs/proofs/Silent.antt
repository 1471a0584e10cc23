-- Streams without a state and a verb: what follows a state changes nothing.
use Rattle.std.proofs.Common.{◌≡◌, ◌∙◌, ◌<◌, ◌≤◌, ℕ, zero, suc, ◌-◌, refl, sym, ap, subst, arith}
use Rattle.ordered_search.specs.Stream.{State, VerbEnding, Ending, exhausted, by_verb, by_halt, too_many_units}
use Rattle.ordered_search.specs.Stream.{How, note, state, step, Stream, Search, ends, ◌▸◌, ◌or_else◌, each}
use Rattle.ordered_search.specs.Setting.{Setting}
use Rattle.ordered_search.specs.PlaceAnswer.{MatchLimit, FrameLimit, answers}
use Rattle.ordered_search.specs.Moves.{Moves, stops, pause, noted, found, stepped, Follow, Handler, before, at_end}
use Rattle.ordered_search.specs.Moves.{at_verbs, tread}
use Rattle.ordered_search.proofs.Late.{LateEnd, Late}
use Rattle.search_paths.specs.Pauses.{strip}
use Rattle.search_paths.proofs.Streams.{before_or_else}
use Rattle.search_costs.specs.Costs.{steps}
use Rattle.search_costs.proofs.DeeperStreams as deeper
use Rattle.search_costs.proofs.DeeperStreams.{Extends}

unfoldable pub IsSilent : Stream → Type 0
IsSilent (ends exhausted) = Unit {0}
IsSilent (ends (by_verb v)) = ⊥
IsSilent (ends (by_halt a)) = Unit {0}
IsSilent (note k ▸ x) = IsSilent x
IsSilent (state how s ▸ x) = ⊥
IsSilent (step ▸ x) = IsSilent x

-- what is left behind a silent stream
abbrev pub left_behind : Stream → Moves → Moves
left_behind x f = before x at_end f at_verbs

silent_first : (x y : Stream) → IsSilent (x or_else y) → IsSilent x
unfolding IsSilent ◌or_else◌
silent_first (ends exhausted) y h = tt
silent_first (ends (by_verb v)) y h = h
silent_first (ends (by_halt a)) y h = h
silent_first (note k ▸ x) y h = silent_first x y h
silent_first (state how s ▸ x) y h = h
silent_first (step ▸ x) y h = silent_first x y h

-- what y leaves counts only where it is come to
silent_behind : (x y : Stream) (f f' : Moves) → IsSilent (x or_else y) → (IsSilent y → f ≡ f')
    → left_behind x f ≡ left_behind x f'
unfolding IsSilent ◌or_else◌ before
silent_behind (ends exhausted) y f f' h k = k h
silent_behind (ends (by_verb v)) y f f' h k = absurd h
silent_behind (ends (by_halt a)) y f f' h k = refl
silent_behind (note n ▸ x) y f f' h k = ap (noted n) (silent_behind x y f f' h k)
silent_behind (state how s ▸ x) y f f' h k = absurd h
silent_behind (step ▸ x) y f f' h k = ap stepped (silent_behind x y f f' h k)

-- Without pauses.

pub strip_twice : (x : Moves) → strip (strip x) ≡ strip x
unfolding strip
strip_twice (stops e) = refl
strip_twice (pause x) = strip_twice x
strip_twice (stepped x) = ap stepped (strip_twice x)
strip_twice (noted n x) = ap (noted n) (strip_twice x)
strip_twice (found how s x) = ap (found how s) (strip_twice x)

module _ (w : How → Search) (l : Follow) (j : Handler)
    (bare : (how : How) (s : State) (f : Moves) → strip (l how s f) ≡ l how s f)
    (bare' : (v : VerbEnding) → strip (j v) ≡ j v) where
  pub strip_before : (x : Stream) (f : Moves) → strip f ≡ f → strip (before x l f j) ≡ before x l f j
  unfolding strip before
  strip_before (ends exhausted) f e = e
  strip_before (ends (by_verb v)) f e = bare' v
  strip_before (ends (by_halt a)) f e = refl
  strip_before (note n ▸ x) f e = ap (noted n) (strip_before x f e)
  strip_before (state how s ▸ x) f e = bare how s _
  strip_before (step ▸ x) f e = ap stepped (strip_before x f e)

  -- Each state becomes a stream, and all of them are silent.
  pub silent_each : (x : Stream) (f : Moves) → strip f ≡ f
      → ((how : How) (s : State) (f' : Moves) → strip f' ≡ f' → IsSilent (w how s)
      → l how s f' ≡ left_behind (w how s) f')
      → IsSilent (each x w) → before x l f j ≡ left_behind (each x w) f
  unfolding IsSilent before each
  silent_each (ends exhausted) f e k h = refl
  silent_each (ends (by_verb v)) f e k h = absurd h
  silent_each (ends (by_halt a)) f e k h = refl
  silent_each (note n ▸ x) f e k h = ap (noted n) (silent_each x f e k h)
  silent_each (state how s ▸ x) f e k h =
      k how s (before x l f j) (strip_before x f e) (silent_first (w how s) (each x w) h)
      ∙ silent_behind (w how s) (each x w) _ _ h (silent_each x f e k)
      ∙ sym (before_or_else (w how s) (each x w) at_end f at_verbs)
  silent_each (step ▸ x) f e k h = ap stepped (silent_each x f e k h)

-- Streams that fail are silent.

pub silent_fails : (n : ℕ) → IsSilent (steps n exhausted)
unfolding IsSilent steps
silent_fails zero = tt
silent_fails (suc n) = silent_fails n

pub silent_passes : (n : ℕ) → IsSilent (steps n (by_halt too_many_units))
unfolding IsSilent steps
silent_passes zero = tt
silent_passes (suc n) = silent_passes n

pub silent_short : (c : ℕ) {x z : Stream} → Extends x z → z ≡ steps c exhausted → IsSilent x
unfolding IsSilent steps
silent_short c deeper.at_cut q = tt
silent_short zero (deeper.at_end e) q = subst IsSilent (sym q) tt
silent_short (suc c) (deeper.at_end e) q = absurd (cc q)
silent_short zero (deeper.at_note k h) q = absurd (cc q)
silent_short (suc c) (deeper.at_note k h) q = absurd (cc q)
silent_short zero (deeper.at_state how s h) q = absurd (cc q)
silent_short (suc c) (deeper.at_state how s h) q = absurd (cc q)
silent_short zero (deeper.at_step h) q = absurd (cc q)
silent_short (suc c) (deeper.at_step h) q = silent_short c h (cc q)

-- The walk over what they leave.
module _ (g : Setting) where
  pub tread_fails : (n c : ℕ) (f : Moves) → c ≤ n
      → tread g n (left_behind (steps c exhausted) f) ≡ tread g (n - c) f
  unfolding tread steps before
  tread_fails n zero f le = let e : n - 0 ≡ n = omega arith in ap (λ k. tread g k f) (sym e)
  tread_fails zero (suc c) f le = absurd (omega arith)
  tread_fails (suc n) (suc c) f le =
      let e : suc n - suc c ≡ n - c = omega arith in
      tread_fails n c f (omega arith) ∙ ap (λ k. tread g k f) (sym e)

  pub tread_passes : (n c : ℕ) (f : Moves) → c ≤ n
      → tread g n (left_behind (steps c (by_halt too_many_units)) f) ≡ answers FrameLimit
  unfolding tread steps before
  tread_passes n zero f le = refl
  tread_passes zero (suc c) f le = absurd (omega arith)
  tread_passes (suc n) (suc c) f le = tread_passes n c f (omega arith)

  pub tread_runs_out : (n m c : ℕ) (e : Ending) (f : Moves) {x z : Stream} → Extends x z → z ≡ steps c e → Late m x
      → n < m → n < c → tread g n (left_behind x f) ≡ answers MatchLimit
  unfolding tread steps before Late LateEnd
  tread_runs_out n zero c e f h q late deep out = absurd (omega arith)
  tread_runs_out n (suc m) zero e f h q late deep out = absurd (omega arith)
  tread_runs_out n (suc m) (suc c) e f deeper.at_cut q late deep out = absurd (late refl)
  tread_runs_out n (suc m) (suc c) e f (deeper.at_end e') q late deep out = absurd (cc q)
  tread_runs_out n (suc m) (suc c) e f (deeper.at_note k h) q late deep out = absurd (cc q)
  tread_runs_out n (suc m) (suc c) e f (deeper.at_state how s h) q late deep out = absurd (cc q)
  tread_runs_out zero (suc m) (suc c) e f (deeper.at_step h) q late deep out = refl
  tread_runs_out (suc n) (suc m) (suc c) e f (deeper.at_step h) q late deep out =
      tread_runs_out n m c e f h (cc q) late (omega arith) (omega arith)
