-- Streams that fail: Steps alone, and the ending.
use Rattle.std.proofs.Common.{◌≡◌, ◌≢◌, ℕ, zero, suc, ◌-◌, ◌<◌, ◌≤◌, ◌∙◌, false, refl, sym, ap, arith}
use Rattle.ordered_search.specs.Stream.{Ending, exhausted, by_halt, cut, too_many_units, step, Stream, ends}
use Rattle.ordered_search.specs.Stream.{◌▸◌, ◌or_else◌}
use Rattle.ordered_search.specs.Setting.{Setting}
use Rattle.ordered_search.specs.PlaceAnswer.{MatchLimit, FrameLimit, answers, walk}
use Rattle.ordered_search.proofs.FollowStreams.{Follows, at_limit, at_stop, at_end, at_state, at_step}
use Rattle.ordered_search.proofs.Late.{LateEnd, Late}
use Rattle.search_costs.specs.Costs.{steps, IsTooMuch}
use Rattle.search_costs.proofs.DeeperStreams as deeper
use Rattle.search_costs.proofs.DeeperStreams.{Extends}

-- With more depth.

pub extended_fails : (n : ℕ) (e : Ending) → e ≢ by_halt cut → {y : Stream} → Extends (steps n e) y → y ≡ steps n e
unfolding steps
extended_fails zero e uncut deeper.at_cut = absurd (uncut refl)
extended_fails zero e uncut (deeper.at_end _) = refl
extended_fails (suc n) e uncut (deeper.at_step h) = ap (λ z. step ▸ z) (extended_fails n e uncut h)

-- With less, where the cut comes later.
pub short_fails : (n m : ℕ) (e : Ending) {x z : Stream} → Extends x z → z ≡ steps n e → Late m x → n < m
    → x ≡ steps n e
unfolding steps Late LateEnd
short_fails n zero e h q late le = absurd (omega arith)
short_fails n (suc m) e deeper.at_cut q late le = absurd (late refl)
short_fails n (suc m) e (deeper.at_end e') q late le = q
short_fails zero (suc m) e (deeper.at_note k h) q late le = absurd (cc q)
short_fails (suc n) (suc m) e (deeper.at_note k h) q late le = absurd (cc q)
short_fails zero (suc m) e (deeper.at_state how s h) q late le = absurd (cc q)
short_fails (suc n) (suc m) e (deeper.at_state how s h) q late le = absurd (cc q)
short_fails zero (suc m) e (deeper.at_step h) q late le = absurd (cc q)
short_fails (suc n) (suc m) e (deeper.at_step h) q late le =
    ap (λ z. step ▸ z) (short_fails n m e h (cc q) late (omega arith))

-- With no less room.
pub follower_fails : (n : ℕ) → {y : Stream} → Follows false y (steps n exhausted) → y ≡ steps n exhausted
unfolding steps
follower_fails zero (at_stop e) = absurd (cc e)
follower_fails zero (at_end _) = refl
follower_fails (suc n) (at_stop e) = absurd (cc e)
follower_fails (suc n) (at_step h) = ap (λ z. step ▸ z) (follower_fails n h)

one_more : (n : ℕ) (x : Stream) → IsTooMuch n x → IsTooMuch (suc n) (step ▸ x)
unfolding steps
one_more n x h = let few = h.few in record { count = suc h.count; few = omega arith; is = ap (λ z. step ▸ z) h.is }

limit_at : (n : ℕ) → IsTooMuch n (ends (by_halt too_many_units))
unfolding steps
limit_at n = record { count = 0; few = omega arith; is = refl }

-- With no more room.
pub followed_passes : (n : ℕ) {y x : Stream} → Follows false y x → y ≡ steps n (by_halt too_many_units)
    → IsTooMuch n x
unfolding steps
followed_passes n at_limit q = limit_at n
followed_passes n (at_stop e) q = absurd (cc e)
followed_passes zero (at_end e) q = record { count = 0; few = omega arith; is = q }
followed_passes (suc n) (at_end e) q = absurd (cc q)
followed_passes zero (at_state how t s near h) q = absurd (cc q)
followed_passes (suc n) (at_state how t s near h) q = absurd (cc q)
followed_passes zero (at_step h) q = absurd (cc q)
followed_passes (suc n) (at_step h) q = one_more n _ (followed_passes n h (cc q))

-- The walk.
module _ (g : Setting) where
  pub walk_fails : (n c : ℕ) (x : Stream) → c ≤ n → walk g n (steps c exhausted or_else x) ≡ walk g (n - c) x
  unfolding walk steps ◌or_else◌
  walk_fails n zero x le = let e : n - 0 ≡ n = omega arith in ap (λ k. walk g k x) (sym e)
  walk_fails zero (suc c) x le = absurd (omega arith)
  walk_fails (suc n) (suc c) x le =
      let e : suc n - suc c ≡ n - c = omega arith in
      walk_fails n c x (omega arith) ∙ ap (λ k. walk g k x) (sym e)

  pub walk_passes : (n c : ℕ) (x : Stream) → c ≤ n
      → walk g n (steps c (by_halt too_many_units) or_else x) ≡ answers FrameLimit
  unfolding walk steps ◌or_else◌
  walk_passes n zero x le = refl
  walk_passes zero (suc c) x le = absurd (omega arith)
  walk_passes (suc n) (suc c) x le = walk_passes n c x (omega arith)

  -- where the Steps run out before the failure
  pub walk_runs_out : (n m c : ℕ) (e : Ending) (y : Stream) {x z : Stream} → Extends x z → z ≡ steps c e → Late m x
      → n < m → n < c → walk g n (x or_else y) ≡ answers MatchLimit
  unfolding walk steps ◌or_else◌ Late LateEnd
  walk_runs_out n zero c e y h q late deep out = absurd (omega arith)
  walk_runs_out n (suc m) zero e y h q late deep out = absurd (omega arith)
  walk_runs_out n (suc m) (suc c) e y deeper.at_cut q late deep out = absurd (late refl)
  walk_runs_out n (suc m) (suc c) e y (deeper.at_end e') q late deep out = absurd (cc q)
  walk_runs_out n (suc m) (suc c) e y (deeper.at_note k h) q late deep out = absurd (cc q)
  walk_runs_out n (suc m) (suc c) e y (deeper.at_state how s h) q late deep out = absurd (cc q)
  walk_runs_out zero (suc m) (suc c) e y (deeper.at_step h) q late deep out = refl
  walk_runs_out (suc n) (suc m) (suc c) e y (deeper.at_step h) q late deep out =
      walk_runs_out n m c e y h (cc q) late (omega arith) (omega arith)
