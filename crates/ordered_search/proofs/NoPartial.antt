-- Without partial matching no search finds a partial match.
use Rattle.std.proofs.Common.{◌≡◌, ◌≢◌, ℕ, zero, suc, ◌+◌, Bool, true, false, ◌||◌, Option, Some, None, refl, sym}
use Rattle.std.proofs.Common.{ap, ◌∙◌}
use Rattle.pat_tree.specs.declared.options.PartialMode.TheVariants.{Off}
use Rattle.ordered_search.specs.Stream.{State, first_state, exhausted, by_verb, by_halt, is_partial, too_many_units}
use Rattle.ordered_search.specs.Stream.{loop, abort, cut, How, note, state, step, Stream, ends, ◌▸◌}
use Rattle.ordered_search.specs.Setting.{Setting, match_limit}
use Rattle.ordered_search.specs.PlaceAnswer.{Signal, Exhausted, PlaceAnswer, Matched, Failed, Partial, MatchLimit}
use Rattle.ordered_search.specs.PlaceAnswer.{FrameLimit, Loop, Abort, NoDepth, Walked, has_hit, answers, decision}
use Rattle.ordered_search.specs.PlaceAnswer.{is_refused_as_empty, is_refused_by_end, walk, place_answer}
use Rattle.ordered_search.specs.Places.{is_excluded, place_after}
use Rattle.ordered_search.specs.MatchAnswer.{PartialFrom, Found, undecided, tried, from_place, found_by}
use Rattle.ordered_search.specs.Laws.{NoPartialLaw}
use Rattle.ordered_search.proofs.HitlessStreams.{NoHit}
use Rattle.ordered_search.proofs.Hitless.{hitless_run}
use Rattle.ordered_search.proofs.WalkLaw.{decided}

-- it tells no hit, and isn't a partial match
abbrev IsHitless : Walked → Type 0
IsHitless w = (has_hit w.notes ≡ false) × (w.answer ≢ Partial)

module _ (g : Setting) where
  decided_hitless : (how : How) (s : State) (w : Walked) (d : Option PlaceAnswer) → decision g how s ≡ d → IsHitless w →
      IsHitless (elim d [ None ↦ w | Some a ↦ answers a ])
  decided_hitless how s w None e h = h
  decided_hitless how s w (Some a) e h = (refl, (decided (is_refused_as_empty g s) (is_refused_by_end g s) how s a e).1)

  walk_hitless : (n : ℕ) (x : Stream) → NoHit x → IsHitless (walk g n x)
  unfolding walk NoHit
  walk_hitless n (ends exhausted) h = (refl, λ e. cc)
  walk_hitless n (ends (by_verb v)) h = (refl, λ e. cc)
  walk_hitless n (ends (by_halt is_partial)) h = absurd (h refl)
  walk_hitless n (ends (by_halt too_many_units)) h = (refl, λ e. cc)
  walk_hitless n (ends (by_halt loop)) h = (refl, λ e. cc)
  walk_hitless n (ends (by_halt (abort k))) h = (refl, λ e. cc)
  walk_hitless n (ends (by_halt cut)) h = (refl, λ e. cc)
  walk_hitless n (note k ▸ x) h = let r = walk_hitless n x h.1 in
      (ap (λ b. b || has_hit (walk g n x).notes) h.0 ∙ r.0, r.1)
  walk_hitless n (state how s ▸ x) h = decided_hitless how s (walk g n x) (decision g how s) refl (walk_hitless n x h)
  walk_hitless zero (step ▸ x) h = (refl, λ e. cc)
  walk_hitless (suc n) (step ▸ x) h = walk_hitless n x h

  found_hitless : (p q : ℕ) (w : Walked) (later : Signal → Found) → IsHitless w
      → ((signal : Signal) → (later signal).answer ≢ PartialFrom q)
      → (a : PlaceAnswer) → w.answer ≡ a → (found_by p w later a).answer ≢ PartialFrom q
  found_hitless p q w later h k (Matched o) is e = cc
  found_hitless p q w later h k (Failed signal) is e =
      k signal (sym (ap (λ b. undecided b p (later signal).answer) h.0) ∙ e)
  found_hitless p q w later h k Partial is e = h.1 is
  found_hitless p q w later h k MatchLimit is e = cc
  found_hitless p q w later h k FrameLimit is e = cc
  found_hitless p q w later h k Loop is e = cc
  found_hitless p q w later h k (Abort n) is e = cc
  found_hitless p q w later h k NoDepth is e = cc

  module _ (off : g.matching.«partial» ≡ Off) where
    tried_hitless : (p : ℕ) → IsHitless (tried g p)
    tried_hitless p = by_test (is_excluded g p)
      where
        by_test : (b : Bool) → IsHitless (elim b [ true ↦ answers (Failed Exhausted) | false ↦ place_answer g p ])
        by_test true = (refl, λ e. cc)
        by_test false = walk_hitless (match_limit g) _
            (hitless_run g off (match_limit g + 1) g.whole (first_state g.groups p))

    from_hitless : (n q : ℕ) (o : Option ℕ) → (from_place g n o).answer ≢ PartialFrom q
    unfolding from_place
    from_hitless zero q o e = cc
    from_hitless (suc n) q None e = cc
    from_hitless (suc n) q (Some p) e =
        found_hitless p q (tried g p) (λ signal. from_place g n (place_after g p signal)) (tried_hitless p)
        (λ signal. from_hitless n q (place_after g p signal)) (tried g p).answer refl e

pub no_partial : NoPartialLaw
no_partial g off p = from_hitless g off _ p _
