-- What follows a stream of Steps and states.
use Rattle.std.proofs.Common.{◌≡◌, ◌∙◌, ℕ, Bool, true, false, refl, sym, ap}
use Rattle.pat_tree.specs.declared.options.PartialMode.{PartialMode}
use Rattle.pat_tree.specs.declared.options.PartialMode.TheVariants.{Off, Soft, Hard}
use Rattle.ordered_search.specs.Stream.{State, Ending, exhausted, by_verb, by_halt, is_partial, How, reached, accepted}
use Rattle.ordered_search.specs.Stream.{hit_end, note, state, step, Stream, Search, ends, ◌▸◌, nothing, gives}
use Rattle.ordered_search.specs.Stream.{◌or_else◌}
use Rattle.ordered_search.specs.Stream.{each, go_on, and_then, catch, is_next_branch}
use Rattle.ordered_search.specs.Setting.{Setting, counts, reach, reach_if}
use Rattle.search_costs.proofs.QuietStreams.{IsQuiet}
use Rattle.search_costs.proofs.RunLaw.{each_or_else}

pub or_nothing : (x : Stream) → (x or_else nothing) ≡ x
unfolding ◌or_else◌
or_nothing (ends exhausted) = refl
or_nothing (ends (by_verb v)) = refl
or_nothing (ends (by_halt a)) = refl
or_nothing (note k ▸ x) = ap (λ y. note k ▸ y) (or_nothing x)
or_nothing (state how s ▸ x) = ap (λ y. state how s ▸ y) (or_nothing x)
or_nothing (step ▸ x) = ap (λ y. step ▸ y) (or_nothing x)

pub then_given : (s : State) (f : Search) → and_then (gives reached s) f ≡ f s
unfolding each
then_given s f = or_nothing (f s)

pub then_gives : (x : Stream) → and_then x (gives reached) ≡ x
unfolding each ◌or_else◌
then_gives (ends e) = refl
then_gives (note k ▸ x) = ap (λ y. note k ▸ y) (then_gives x)
then_gives (state reached s ▸ x) = ap (λ y. state reached s ▸ y) (then_gives x)
then_gives (state accepted s ▸ x) = ap (λ y. state accepted s ▸ y) (then_gives x)
then_gives (step ▸ x) = ap (λ y. step ▸ y) (then_gives x)

pub then_twice : (x : Stream) (f k : Search) → and_then (and_then x f) k ≡ and_then x (λ s. and_then (f s) k)
unfolding each ◌or_else◌
then_twice (ends e) f k = refl
then_twice (note m ▸ x) f k = ap (λ y. note m ▸ y) (then_twice x f k)
then_twice (state reached s ▸ x) f k =
    each_or_else (f s) (and_then x f) (go_on k) ∙ ap (λ y. and_then (f s) k or_else y) (then_twice x f k)
then_twice (state accepted s ▸ x) f k = ap (λ y. state accepted s ▸ y) (then_twice x f k)
then_twice (step ▸ x) f k = ap (λ y. step ▸ y) (then_twice x f k)

-- no state was accepted
pub each_then : (x : Stream) (f : How → Search) (k : Search) → IsQuiet x
    → and_then (each x f) k ≡ and_then x (λ s. and_then (f reached s) k)
unfolding each ◌or_else◌ IsQuiet
each_then (ends e) f k h = refl
each_then (note m ▸ x) f k h = absurd h
each_then (state reached s ▸ x) f k h =
    each_or_else (f reached s) (each x f) (go_on k)
    ∙ ap (λ y. and_then (f reached s) k or_else y) (each_then x f k h)
each_then (state accepted s ▸ x) f k h = absurd h
each_then (step ▸ x) f k h = ap (λ y. step ▸ y) (each_then x f k h)

pub caught : (x : Stream) → IsQuiet x → catch is_next_branch x ≡ x
unfolding catch IsQuiet
caught (ends exhausted) h = refl
caught (ends (by_verb v)) h = absurd h
caught (ends (by_halt a)) h = refl
caught (note m ▸ x) h = absurd h
caught (state reached s ▸ x) h = ap (λ y. state reached s ▸ y) (caught x h)
caught (state accepted s ▸ x) h = absurd h
caught (step ▸ x) h = ap (λ y. step ▸ y) (caught x h)

-- a stream, where a test is true, and else an ending
pub then_if : (b : Bool) (x y : Stream) (e : Ending) (f : Search) → and_then x f ≡ y
    → and_then (elim b [ true ↦ x | false ↦ ends e ]) f ≡ elim b [ true ↦ y | false ↦ ends e ]
unfolding each
then_if true x y e f same = same
then_if false x y e f same = refl

-- without partial matching
module _ (g : Setting) where
  by_mode : (mode : PartialMode) → mode ≡ Off → (s : State) (x : Stream) → elim mode [
    | Off ↦ x
    | Soft ↦ elim (counts g s) [ true ↦ note hit_end ▸ x | false ↦ x ]
    | Hard ↦ elim (counts g s) [ true ↦ ends (by_halt is_partial) | false ↦ x ]
  ] ≡ x
  by_mode Off e s x = refl
  by_mode Soft e s x = absurd (cc e)
  by_mode Hard e s x = absurd (cc e)

  pub reach_off : g.matching.«partial» ≡ Off → (b : Bool) (s : State) (x : Stream) → reach_if g b s x ≡ x
  unfolding reach_if reach
  reach_off off true s x = by_mode g.matching.«partial» off s x
  reach_off off false s x = refl
