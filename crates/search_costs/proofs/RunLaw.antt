-- Failures of a greedy repeat of one item without a maximum.
use Rattle.std.proofs.Common.{◌≡◌, ◌<◌, ◌≤◌, ◌∙◌, ℕ, zero, suc, ◌+◌, false, true, List, [], ◌∷◌, ◌++◌, refl, sym, ap}
use Rattle.std.proofs.Common.{subst, arith, Bool}
use Rattle.std.proofs.lemmas.Bool.Decides.{nat_tests}
use Rattle.std.specs.Prelude.{nat_le}
use Rattle.std.proofs.lemmas.List.Elements.{All-head, All-tail}
use Rattle.pat_tree.specs.declared.nodes.Item.{Item}
use Rattle.pat_tree.specs.declared.options.PartialMode.TheVariants.{Off}
use Rattle.ordered_search.specs.Stream.{State, exhausted, by_verb, by_halt, too_many_units, reached, note, state}
use Rattle.ordered_search.specs.Stream.{step, Stream}
use Rattle.ordered_search.specs.Stream.{Search}
use Rattle.ordered_search.specs.Stream.{ends, ◌▸◌, nothing, How, gives, ◌or_else◌, each, go_on, and_then}
use Rattle.ordered_search.specs.Setting.{Setting, held, hold, reach, reach_if}
use Rattle.ordered_search.specs.Tests.{move_to, offers, greedy, run_many}
use Rattle.ordered_search.specs.Parts.{in_order}
use Rattle.ordered_search.specs.Run.{level, run}
use Rattle.ordered_search.proofs.FollowStreams.{Follows, at_step, follows_gives, follows_or_else}
use Rattle.ordered_search.proofs.FollowStreams.{follows_and_then, follows_nothing}
use Rattle.ordered_search.proofs.FollowSearch.{near_moved, follows_hold}
use Rattle.ordered_search.proofs.Late.{Late, late_ends, late_gives, late_if, late_nothing, late_or_else, late_and_then}
use Rattle.ordered_search.proofs.Late.{late_step_same}
use Rattle.search_costs.specs.Tasks.{Task, part, task_search, onward, IsDeeper, IsPlainTask}
use Rattle.search_costs.specs.Costs.{steps, IsAt}
use Rattle.search_costs.specs.RunLaw.{greedy_run, handed_on, RunLaw}
use Rattle.search_costs.proofs.DeeperStreams.{extends_same, extends_and_then}
use Rattle.search_costs.proofs.Failing.{short_fails, follower_fails}
use Rattle.search_costs.proofs.Onward.{all_deepened, deepest, extends_onward, late_onward}
use Rattle.search_costs.proofs.KeptTasks.{keeps_onward, keys_later}
use Rattle.search_costs.proofs.CostLaw.{keeps_plain, depth, meets_failure}

pub or_else_twice : (x y z : Stream) → ((x or_else y) or_else z) ≡ (x or_else (y or_else z))
unfolding ◌or_else◌
or_else_twice (ends exhausted) y z = refl
or_else_twice (ends (by_verb v)) y z = refl
or_else_twice (ends (by_halt a)) y z = refl
or_else_twice (note k ▸ x) y z = ap (λ x. note k ▸ x) (or_else_twice x y z)
or_else_twice (state how s ▸ x) y z = ap (λ x. state how s ▸ x) (or_else_twice x y z)
or_else_twice (step ▸ x) y z = ap (λ x. step ▸ x) (or_else_twice x y z)

pub each_or_else : (x y : Stream) (f : How → Search) → each (x or_else y) f ≡ (each x f or_else each y f)
unfolding ◌or_else◌ each
each_or_else (ends exhausted) y f = refl
each_or_else (ends (by_verb v)) y f = refl
each_or_else (ends (by_halt a)) y f = refl
each_or_else (note k ▸ x) y f = ap (λ x. note k ▸ x) (each_or_else x y f)
each_or_else (state how s ▸ x) y f =
    ap (λ y. f how s or_else y) (each_or_else x y f) ∙ sym (or_else_twice (f how s) (each x f) (each y f))
each_or_else (step ▸ x) y f = ap (λ x. step ▸ x) (each_or_else x y f)

module _ (g : Setting) where
  -- the places are handed on, each with a unit
  unfoldable held_offers : List ℕ → Search
  held_offers [] s = nothing
  held_offers (p ∷ ps) s = step ▸ (hold g reached (move_to p s) or_else held_offers ps s)

  -- so they are where further ones follow
  offers_first : (ps : List ℕ) (r : ℕ) (rest : List ℕ) (s : State)
      → offers g (ps ++ r ∷ rest) s ≡ (held_offers ps s or_else offers g (r ∷ rest) s)
  unfolding offers held_offers ◌or_else◌
  offers_first [] r rest s = refl
  offers_first (p ∷ []) r rest s =
      ap (λ x. step ▸ x)
      (sym (or_else_twice (hold g reached (move_to p s)) nothing (offers g (r ∷ rest) s)))
  offers_first (p ∷ q ∷ ps) r rest s =
      ap (λ x. step ▸ (hold g reached (move_to p s) or_else x)) (offers_first (q ∷ ps) r rest s)
      ∙ ap (λ x. step ▸ x)
      (sym (or_else_twice (hold g reached (move_to p s)) (held_offers (q ∷ ps) s) (offers g (r ∷ rest) s)))

  late_held : (n : ℕ) (s : State) → Late n (hold g reached s)
  unfolding hold held
  late_held n s =
      late_if n (nat_le (s.units + 1) g.matching.frame_limit) _ _ (late_gives n reached _) (late_ends n _ (λ e. cc))

  late_offers : (n : ℕ) (ps : List ℕ) (s : State) → Late n (held_offers ps s)
  unfolding held_offers
  late_offers n [] s = late_nothing n
  late_offers n (p ∷ ps) s = late_step_same n _ (late_or_else n _ _ (late_held n (move_to p s)) (late_offers n ps s))

  module _ (off : g.matching.«partial» ≡ Off) where
    unreached : (b : Bool) (s : State) (x : Stream) → reach_if g b s x ≡ x
    unfolding reach_if reach
    unreached true s x = rw off
    unreached false s x = refl

    -- the last place holds no unit where it is the last
    follows_last : (p : ℕ) (t s : State) → t.units < s.units → s.units ≤ g.matching.frame_limit
        → Follows false (hold g reached (move_to p t) or_else nothing) (gives reached (move_to p s))
    unfolding hold held ◌or_else◌
    follows_last p t s less fits = by_test (nat_le (t.units + 1) g.matching.frame_limit) (grind (arith, nat_tests))
      where
        by_test : (b : Bool) → b ≡ true → Follows false
            ((elim b [
              | true ↦ gives reached (record (move_to p t) { units = t.units + 1 })
              | false ↦ ends (by_halt too_many_units)
            ]) or_else nothing)
            (gives reached (move_to p s))
        by_test true e = follows_gives reached _ _ (record { place = refl; units = omega (arith, less) })
        by_test false e = absurd (cc e)

    follows_offers : (ps : List ℕ) (t s : State) → t.units < s.units → s.units ≤ g.matching.frame_limit
        → Follows false (held_offers ps t) (offers g ps s)
    unfolding held_offers offers
    follows_offers [] t s less fits = follows_nothing
    follows_offers (p ∷ []) t s less fits = at_step (follows_last p t s less fits)
    follows_offers (p ∷ q ∷ ps) t s less fits =
        at_step (follows_or_else
        (follows_hold g off reached _ _ (near_moved p t s (omega (arith, less))))
        (follows_offers (q ∷ ps) t s less fits))

    run_is : (d : ℕ) (item : Item) (low : ℕ) (s : State)
        → run g (suc d) (greedy_run item low) s ≡ offers g (handed_on g item low s.place) s
    unfolding run level run_many greedy
    run_is d item low s = unreached _ s _

    task_is : (d n : ℕ) → n < d → (item : Item) (low : ℕ) (s : State)
        → task_search g (part d (greedy_run item low)) s ≡ offers g (handed_on g item low s.place) s
    unfolding task_search
    task_is zero n less item low s = absurd (omega (arith, less))
    task_is (suc d) n less item low s = run_is d item low s

pub run_law : RunLaw
unfolding in_order
run_law g item low q ks c d left s r rest whole longer deep =
    ap (λ x. and_then x (onward g left))
    (task_is g whole.off d c.steps (All-head (IsDeeper c.steps) _ left deep) item low s
    ∙ ap (λ ps. offers g ps s) longer.places ∙ offers_first g ps r rest s)
    ∙ each_or_else (held_offers g ps s) (offers g (r ∷ rest) s) (go_on (onward g left))
    ∙ ap (λ x. x or_else and_then (offers g (r ∷ rest) s) (onward g left)) fails
  where
    ps : List ℕ
    ps = handed_on g item low q

    run' : Task
    run' = part d (greedy_run item low)

    -- at q, with the most units held
    there : State
    there = record (move_to q s) { units = c.most }

    at : IsAt g q ks (run' ∷ left) there
    at = record {
      visit = record {
        here = longer.at.visit.here;
        plain = longer.at.visit.plain;
        begun = longer.at.visit.begun;
      };
      place = refl;
      keys =
          keys_later (run' ∷ left) (run' ∷ left) (move_to q s) (move_to q s) there (move_to q s) refl refl (omega arith)
          longer.at.visit.begun longer.at.visit.begun refl ∙ longer.at.keys;
    }

    -- a depth that is enough for both
    n : ℕ
    n = depth g whole longer.known.at at

    enough : 0 < n
    enough = let less : c.steps < d = All-head (IsDeeper c.steps) run' left deep in omega (arith, less)

    within : deepest left ≤ n
    within = omega arith

    known : onward g (all_deepened n (run' ∷ left)) there ≡ steps c.steps exhausted
    known = meets_failure g whole longer.known.at at c.steps c.most longer.known.fails (omega arith)

    offered : and_then (offers g ps there) (onward g (all_deepened n left)) ≡ steps c.steps exhausted
    offered =
        ap (λ x. and_then x (onward g (all_deepened n left))) (sym (task_is g whole.off n 0 enough item low there))
        ∙ known

    held : and_then (held_offers g ps s) (onward g (all_deepened n left)) ≡ steps c.steps exhausted
    held =
        follower_fails c.steps
        (subst (Follows false (and_then (held_offers g ps s) (onward g (all_deepened n left)))) offered
        (follows_and_then (follows_offers g whole.off ps s there longer.room longer.fits)
        (keeps_onward g whole.off (all_deepened n left)
        (keeps_plain n left (All-tail IsPlainTask run' left longer.at.visit.plain)))))

    fails : and_then (held_offers g ps s) (onward g left) ≡ steps c.steps exhausted
    fails =
        short_fails c.steps (suc c.steps) exhausted
        (extends_and_then (extends_same (held_offers g ps s)) (extends_onward g n left within)) held
        (late_and_then (suc c.steps) _ _ (late_offers g (suc c.steps) ps s)
        (late_onward g c.steps left (All-tail (IsDeeper c.steps) run' left deep)))
        (omega arith)
