-- What a walk meets before its answer.
use Rattle.std.proofs.Common.{◌≡◌, ◌≢◌, ℕ, zero, suc, ◌+◌, ◌<◌, Bool, true, false, [], ◌∷◌, Option, Some, None, refl}
use Rattle.std.proofs.Common.{ap, arith}
use Rattle.ordered_search.specs.Stream.{State, first_state, exhausted, by_verb, by_halt, is_partial, too_many_units}
use Rattle.ordered_search.specs.Stream.{loop, abort, cut, How, reached, accepted, note, state, step, Stream, ends}
use Rattle.ordered_search.specs.Stream.{◌▸◌}
use Rattle.ordered_search.specs.Setting.{Setting, match_limit}
use Rattle.ordered_search.specs.PlaceAnswer.{PlaceAnswer, Matched, Failed, Exhausted, outcome, MatchLimit, NoDepth}
use Rattle.ordered_search.specs.PlaceAnswer.{Walked, answers, at_ending, decision, is_refused_as_empty}
use Rattle.ordered_search.specs.PlaceAnswer.{is_refused_by_end, walk, Partial}
use Rattle.ordered_search.specs.Laws.{after, told_in, steps_in, ArePassed, Gives, IsWalk, WalkLaw, NoCutAnswer}
use Rattle.ordered_search.proofs.Late.{Late, LateEnd}
use Rattle.ordered_search.proofs.CutLaw.{late_run}

-- a state that decides gives neither
pub decided : (b c : Bool) (how : How) (s : State) (a : PlaceAnswer) →
    elim b [
      | true ↦ None
      | false ↦ elim c [
        | false ↦ Some (Matched (outcome s))
        | true ↦ elim how [ reached ↦ None | accepted ↦ Some (Failed Exhausted) ]
      ]
    ] ≡ Some a → (a ≢ NoDepth) × (a ≢ Partial)
decided true c how s a e = absurd cc
decided false false how s a e = ((λ f. cc), (λ f. cc))
decided false true reached s a e = absurd cc
decided false true accepted s a e = ((λ f. cc), (λ f. cc))

module _ (g : Setting) where
  here : (n : ℕ) (x : Stream) (a : PlaceAnswer) → Gives g n x a → IsWalk g n x (answers a)
  unfolding after told_in steps_in ArePassed
  here n x a h = record {
    before = [];
    rest = x;
    left = n;
    parts = refl;
    passed = tt;
    counted = omega arith;
    told = refl;
    answered = h;
  }

  walk_state : (n : ℕ) (how : How) (s : State) (x : Stream) (d : Option PlaceAnswer) → decision g how s ≡ d →
      IsWalk g n x (walk g n x) → IsWalk g n (state how s ▸ x) (elim d [ None ↦ walk g n x | Some a ↦ answers a ])
  unfolding after told_in steps_in ArePassed Gives
  walk_state n how s x None e w = record {
    before = state how s ∷ w.before;
    rest = w.rest;
    left = w.left;
    parts = ap (λ y. state how s ▸ y) w.parts;
    passed = (e, w.passed);
    counted = w.counted;
    told = w.told;
    answered = w.answered;
  }
  walk_state n how s x (Some a) e w = here n (state how s ▸ x) a e

  walks : (n : ℕ) (x : Stream) → IsWalk g n x (walk g n x)
  unfolding walk after told_in steps_in ArePassed Gives
  walks n (ends e) = here n (ends e) (at_ending e) refl
  walks n (note k ▸ x) =
      let w = walks n x in
      record {
        before = note k ∷ w.before;
        rest = w.rest;
        left = w.left;
        parts = ap (λ y. note k ▸ y) w.parts;
        passed = w.passed;
        counted = w.counted;
        told = ap (λ ks. k ∷ ks) w.told;
        answered = w.answered;
      }
  walks n (state how s ▸ x) = walk_state n how s x (decision g how s) refl (walks n x)
  walks zero (step ▸ x) = here 0 (step ▸ x) MatchLimit (refl, refl)
  walks (suc n) (step ▸ x) =
      let w = walks n x in
      record {
        before = step ∷ w.before;
        rest = w.rest;
        left = w.left;
        parts = ap (λ y. step ▸ y) w.parts;
        passed = w.passed;
        counted = let e : steps_in w.before + w.left ≡ n = w.counted in omega arith;
        told = w.told;
        answered = w.answered;
      }

  -- a walk of fewer Steps than a stream is late by never meets the cut

  decided_late : (how : How) (s : State) (w : Walked) (d : Option PlaceAnswer) → decision g how s ≡ d
      → w.answer ≢ NoDepth →
      (let v : Walked = elim d [ None ↦ w | Some a ↦ answers a ] in v).answer ≢ NoDepth
  decided_late how s w None q h e = h e
  decided_late how s w (Some a) q h e = (decided (is_refused_as_empty g s) (is_refused_by_end g s) how s a q).0 e

  walk_late : (n m : ℕ) (x : Stream) → n < m → Late m x → (walk g n x).answer ≢ NoDepth
  unfolding walk Late LateEnd
  walk_late n zero x lt h e = omega arith
  walk_late n (suc m) (ends exhausted) lt h e = cc
  walk_late n (suc m) (ends (by_verb v)) lt h e = cc
  walk_late n (suc m) (ends (by_halt is_partial)) lt h e = cc
  walk_late n (suc m) (ends (by_halt too_many_units)) lt h e = cc
  walk_late n (suc m) (ends (by_halt loop)) lt h e = cc
  walk_late n (suc m) (ends (by_halt (abort k))) lt h e = cc
  walk_late n (suc m) (ends (by_halt cut)) lt h e = h refl
  walk_late n (suc m) (note k ▸ x) lt h e = walk_late n (suc m) x lt h e
  walk_late n (suc m) (state how s ▸ x) lt h e =
      decided_late how s (walk g n x) (decision g how s) refl (walk_late n (suc m) x lt h) e
  walk_late zero (suc m) (step ▸ x) lt h e = cc
  walk_late (suc n) (suc m) (step ▸ x) lt h e = walk_late n m x (omega arith) h e

pub walk_law : WalkLaw
walk_law g n x = walks g n x

pub no_cut : NoCutAnswer
no_cut g p = walk_late g (match_limit g) _ _ (omega arith)
    (late_run g (match_limit g + 1) g.whole (first_state g.groups p))
