-- Sequences whose first parts give no state: those behind them never run.
use mathlib.Core.Path.{fun_ext}
use Rattle.std.proofs.Common.{◌≡◌, ◌∙◌, ℕ, Bool, List, [], ◌∷◌, ◌++◌, Option, Some, None, refl, sym, ap, arith}
use Rattle.pat_tree.specs.Nested.{Nested, row}
use Rattle.pat_bounds.specs.declared.bounds.Bound.{Bound}
use Rattle.pat_bounds.specs.Bounds.{grouped, change, bound, bound_in_turn}
use Rattle.pat_needs.specs.Lacking.{sequence}
use Rattle.ordered_search.specs.Stream.{State, exhausted, by_verb, by_halt, How, reached, accepted, note, state}
use Rattle.ordered_search.specs.Stream.{step, Stream, Search, ends, ◌▸◌, nothing, ◌or_else◌, each, go_on, and_then}
use Rattle.ordered_search.specs.Setting.{Setting}
use Rattle.ordered_search.specs.Parts.{Searches, in_order, branches, run_group}
use Rattle.ordered_search.specs.Run.{level, levels}
use Rattle.search_needs.proofs.TameStreams.{state_count}
use Rattle.search_needs.proofs.SilentStreams.{Silent}

-- Streams behind one another.

or_nothing : (x : Stream) → x or_else nothing ≡ x
unfolding ◌or_else◌
or_nothing (ends exhausted) = refl
or_nothing (ends (by_verb v)) = refl
or_nothing (ends (by_halt a)) = refl
or_nothing (note m ▸ x) = ap (λ y. note m ▸ y) (or_nothing x)
or_nothing (state how s ▸ x) = ap (λ y. state how s ▸ y) (or_nothing x)
or_nothing (step ▸ x) = ap (λ y. step ▸ y) (or_nothing x)

or_three : (x y z : Stream) → (x or_else y) or_else z ≡ x or_else (y or_else z)
unfolding ◌or_else◌
or_three (ends exhausted) y z = refl
or_three (ends (by_verb v)) y z = refl
or_three (ends (by_halt a)) y z = refl
or_three (note m ▸ x) y z = ap (λ w. note m ▸ w) (or_three x y z)
or_three (state how s ▸ x) y z = ap (λ w. state how s ▸ w) (or_three x y z)
or_three (step ▸ x) y z = ap (λ w. step ▸ w) (or_three x y z)

each_of_both : (x y : Stream) (f : How → Search) → each (x or_else y) f ≡ each x f or_else each y f
unfolding each ◌or_else◌
each_of_both (ends exhausted) y f = refl
each_of_both (ends (by_verb v)) y f = refl
each_of_both (ends (by_halt a)) y f = refl
each_of_both (note m ▸ x) y f = ap (λ w. note m ▸ w) (each_of_both x y f)
each_of_both (state how s ▸ x) y f =
    ap (λ w. f how s or_else w) (each_of_both x y f)
    ∙ sym (or_three (f how s) (each x f) (each y f))
each_of_both (step ▸ x) y f = ap (λ w. step ▸ w) (each_of_both x y f)

and_then_both : (x : Stream) (f k : Search)
    → and_then (and_then x f) k ≡ and_then x (λ s. and_then (f s) k)
unfolding each ◌or_else◌
and_then_both (ends e) f k = refl
and_then_both (note m ▸ x) f k = ap (λ w. note m ▸ w) (and_then_both x f k)
and_then_both (state reached s ▸ x) f k =
    each_of_both (f s) (and_then x f) (go_on k)
    ∙ ap (λ w. and_then (f s) k or_else w) (and_then_both x f k)
and_then_both (state accepted s ▸ x) f k = ap (λ w. state accepted s ▸ w) (and_then_both x f k)
and_then_both (step ▸ x) f k = ap (λ w. step ▸ w) (and_then_both x f k)

-- Parts, and those behind them.

turn_of_both : (fs ks : List Search) (s : State)
    → in_order (fs ++ ks) s ≡ and_then (in_order fs s) (in_order ks)
unfolding in_order each
turn_of_both [] ks s = sym (or_nothing (in_order ks s))
turn_of_both (f ∷ fs) ks s =
    ap (λ (rest : Search). and_then (f s) rest) (fun_ext (λ t. turn_of_both fs ks t))
    ∙ sym (and_then_both (f s) (in_order fs) (in_order ks))

-- nothing goes on where there is no state
silent_stays : (x : Stream) (f : How → Search) → Silent x → each x f ≡ x
unfolding state_count each
silent_stays (ends e) f h = refl
silent_stays (note m ▸ x) f h = ap (λ w. note m ▸ w) (silent_stays x f h)
silent_stays (state how s ▸ x) f h = absurd (omega (arith, h))
silent_stays (step ▸ x) f h = ap (λ w. step ▸ w) (silent_stays x f h)

module _ (g : Setting) (below : Searches) where
  levels_of_both : (ts us : List Nested)
      → levels g below (row (ts ++ us)) ≡ levels g below (row ts) ++ levels g below (row us)
  unfolding level
  levels_of_both [] us = refl
  levels_of_both (t ∷ ts) us = ap (λ fs. level g below t ∷ fs) (levels_of_both ts us)

  level_in_turn : (ts : List Nested) (s : State)
      → level g below (sequence ts) s ≡ in_order (levels g below (row ts)) s
  unfolding level branches run_group
  level_in_turn ts s = refl

  pub first_alone : (ts us : List Nested) (s : State) → Silent (level g below (sequence ts) s)
      → level g below (sequence (ts ++ us)) s ≡ level g below (sequence ts) s
  first_alone ts us s h =
      level_in_turn (ts ++ us) s
      ∙ ap (λ (fs : List Search). in_order fs s) (levels_of_both ts us)
      ∙ turn_of_both (levels g below (row ts)) (levels g below (row us)) s
      ∙ ap (λ x. and_then x (in_order (levels g below (row us)))) (sym (level_in_turn ts s))
      ∙ silent_stays (level g below (sequence ts) s) (go_on (in_order (levels g below (row us)))) h

ungrouped : (x : Option Bound) → change (grouped None) x ≡ x
ungrouped None = refl
ungrouped (Some b) = refl

pub bound_of_sequence : (has : ℕ → ℕ → Bool) (ts : List Nested)
    → bound has (sequence ts) ≡ bound_in_turn has (row ts)
unfolding bound
bound_of_sequence has ts = ungrouped (bound_in_turn has (row ts))
