-- The works that a step leaves may be done, and its states lie in the graph.
use Rattle.std.proofs.Common.{◌≡◌, ◌∙◌, ℕ, zero, suc, ◌+◌, ◌<◌, ◌≤◌, Bool, true, false, List, [], ◌∷◌, map, length}
use Rattle.std.proofs.Common.{Option, Some, None, refl, sym, ap, subst, arith}
use Rattle.std.specs.Prelude as list
use Rattle.std.specs.Prelude.{◌==◌, slice_get, option_map}
use Rattle.pat_tree.specs.declared.nodes.Placed as placed
use Rattle.pat_tree.specs.declared.nodes.Node as parts
use Rattle.pat_tree.specs.declared.nodes.Node.TheVariants as part
use Rattle.pat_tree.specs.declared.nodes.Cond.{Cond}
use Rattle.pat_tree.specs.declared.nodes.Cond.TheVariants as cond
use Rattle.pat_tree.specs.declared.nodes.Verb.{Verb}
use Rattle.pat_tree.specs.declared.nodes.Verb.TheVariants.{Accept, Fail, Commit, Prune, Skip, Then, Mark}
use Rattle.pat_tree.specs.Rules.{kids_of, classes_of, tests_of, asserted_by, is_test, IsOrdered, AtMost}
use Rattle.pat_tree.specs.Nested as tree
use Rattle.pat_tree.specs.Nested.{row, tree_at, nest, trees}
use Rattle.pat_lengths.specs.declared.backs.Back.{Back}
use Rattle.dfa_graph.specs.declared.build.Work.{Work}
use Rattle.dfa_graph.specs.declared.build.Work.TheVariants as work
use Rattle.dfa_graph.specs.declared.build.Work.TheVariants.{All, Any, Turn, Ask, Behind}
use Rattle.dfa_graph.specs.declared.build.Step.{Step}
use Rattle.dfa_graph.specs.declared.build.Step.TheVariants as step
use Rattle.dfa_graph.specs.Building.{part_of, IsRange, ids_of, one_less, part_step, second_step, cond_step, ask_step}
use Rattle.dfa_graph.specs.Building.{ask_second, nested_step, verb_step, all_step, any_step, turn_step, turns_step}
use Rattle.dfa_graph.specs.Building.{behind_step, node_of, step_of, IsPart}
use Rattle.dfa_paths.proofs.Behind.{IsMeasured, IsReady, is_behind, all_below}
use Rattle.dfa_graph.proofs.Steps.{all_get, ids_below, last_kid, test_after, IsIn, NoIn, IsWork, IsStep}

module _ (ps : List placed.Placed) where
  range_of : (low : ℕ) (high : Option ℕ) → AtMost low high → IsRange low high
  range_of low None h = tt
  range_of low (Some high) h = h

  less_range : (low : ℕ) (high : Option ℕ) → IsRange (suc low) high → IsRange low (one_less high)
  less_range low None h = tt
  less_range low (Some high) h = omega (arith, h)

  before : (k p root : ℕ) → k < p → p ≤ root → k ≤ root
  before k p root l m = omega (arith, l, m)

  -- a part that stands below another
  abbrev Under : ℕ → ℕ → Type 0
  Under p k = (k < p) × IsReady (tree_at (trees ps) k)

  module _ (root states classes p next : ℕ) (inside : p ≤ root)
      (ready : IsReady (tree_at (trees ps) p)) (l : next < states) where
    under_in : (k : ℕ) → Under p k → IsIn ps root k
    under_in k u = (before k p root u.0 inside, u.1)

    kid_work : (k : ℕ) → Under p k → IsWork ps root (work.Part k)
    kid_work k u = record {
      inside = before k p root u.0 inside;
      range = tt;
      asked = tt;
      ready = u.1;
    }

    second_ok : (test : Cond) (yes' : ℕ) (no' : Option ℕ) →
        list.All (Under p) (kids_of (part.Cond test yes' no')) →
        IsStep ps root states classes (second_step next no')
    second_ok test yes' None below = l
    second_ok test yes' (Some q) below =
        kid_work q (last_kid (Under p) (tests_of test) yes' q below)

    no_in : (k yes' : ℕ) (no' : Option ℕ) →
        list.All (Under p) (kids_of (part.Cond (cond.Assert k) yes' no')) → NoIn ps root no'
    no_in k yes' None below = tt
    no_in k yes' (Some q) below =
        under_in q (last_kid (Under p) (k ∷ []) yes' q below)

    test_in : (k yes' : ℕ) (no' : Option ℕ) →
        list.All (Under p) (kids_of (part.Cond (cond.Assert k) yes' no')) →
        IsIn ps root k × IsIn ps root yes'
    test_in k yes' None below =
        (under_in k (below 0 0 (omega arith)), under_in yes' (below 1 0 (omega arith)))
    test_in k yes' (Some q) below =
        (under_in k (below 0 0 (omega arith)), under_in yes' (below 1 0 (omega arith)))

    cond_ok : (test : Cond) (yes' : ℕ) (no' : Option ℕ) →
        list.All (Under p) (kids_of (part.Cond test yes' no')) →
        list.All (λ k. is_test (tree_at (trees ps) k) ≡ true) (tests_of test) →
        IsStep ps root states classes (cond_step next test yes' no')
    cond_ok cond.Never yes' no' below tested = second_ok cond.Never yes' no' below
    cond_ok cond.InCall yes' no' below tested = second_ok cond.InCall yes' no' below
    cond_ok (cond.AnySet groups) yes' no' below tested = tt
    cond_ok (cond.InCallOf groups) yes' no' below tested = tt
    cond_ok (cond.Assert k) yes' no' below tested = record {
      inside = (test_in k yes' no' below).0.0;
      range = tt;
      asked = ((test_in k yes' no' below).1, no_in k yes' no' below, tested 0 0 (omega arith));
      ready = (test_in k yes' no' below).0.1;
    }

    -- a step that nests the branches of the part
    nested_ok : (d : ℕ) (s : Step) → IsStep ps root states classes s →
        IsStep ps root states classes (nested_step d s)
    nested_ok zero s h = tt
    nested_ok (suc d) s h = h

    verb_ok : (v : Verb) → IsStep ps root states classes (verb_step v)
    verb_ok (Fail name) = tt
    verb_ok (Accept name) = tt
    verb_ok (Commit name) = tt
    verb_ok (Prune name) = tt
    verb_ok (Skip name) = tt
    verb_ok (Then name) = tt
    verb_ok (Mark name) = tt

    part_ok : (d : ℕ) (m : parts.Node) → nest (trees ps) m ≡ tree_at (trees ps) p →
        list.All (Under p) (kids_of m) →
        list.All (λ n. n < classes) (classes_of m) → IsOrdered m →
        list.All (λ k. is_test (tree_at (trees ps) k) ≡ true) (asserted_by m) →
        IsStep ps root states classes (part_step p d next m)
    part_ok d part.Empty is below inner ord tested = l
    part_ok d (part.One item) is below inner ord tested = (l, inner)
    part_ok d part.Break is below inner ord tested = l
    part_ok d (part.Seq kids) is below inner ord tested =
        record { inside = inside; range = tt; asked = tt; ready = ready }
    part_ok d (part.Group number branches) is below inner ord tested =
        record { inside = inside; range = tt; asked = tt; ready = ready }
    part_ok d (part.Repeat body min max lazy) is below inner ord tested =
        record { inside = inside; range = range_of min max ord; asked = tt; ready = ready }
    part_ok d (part.OneRepeat item min max lazy) is below inner ord tested =
        record { inside = inside; range = range_of min max ord; asked = tt; ready = ready }
    part_ok d (part.Atomic branches) is below inner ord tested =
        nested_ok d (step.Keep (Any p 0))
        (record { inside = inside; range = tt; asked = tt; ready = ready })
    part_ok d (part.Look true positive once branches) is below inner ord tested =
        nested_ok d (step.Assert (Any p 0) positive)
        (record { inside = inside; range = tt; asked = tt; ready = ready })
    part_ok d (part.Look false positive once branches) is below inner ord tested =
        nested_ok d (step.Seek (Behind p 0) positive)
        (record { inside = inside; range = tt; asked = ap is_behind (sym is); ready = ready })
    part_ok d (part.Cond test yes' no') is below inner ord tested =
        cond_ok test yes' no' below tested
    part_ok d (part.Call n) is below inner ord tested = tt
    part_ok d (part.Ref groups caseless) is below inner ord tested = tt
    part_ok d (part.Anchor kind) is below inner ord tested = l
    part_ok d part.KeepOut is below inner ord tested = tt
    part_ok d (part.VerbNode v) is below inner ord tested = verb_ok v
    part_ok d (part.Callout number from to pos len) is below inner ord tested = l

    -- the rows
    kid_ok : (from k : ℕ) → list.All (Under p) (ids_of (node_of ps p)) →
        slice_get (ids_of (node_of ps p)) from ≡ Some k → IsWork ps root (work.Part k)
    kid_ok from k below e =
        kid_work k (all_get (Under p) (ids_of (node_of ps p)) from k below e)

    all_ok : (from : ℕ) (o : Option ℕ) → slice_get (ids_of (node_of ps p)) from ≡ o →
        list.All (Under p) (ids_of (node_of ps p)) →
        IsStep ps root states classes (all_step p from next o)
    all_ok from None e below = l
    all_ok from (Some k) e below = (
      kid_ok from k below e,
      record { inside = inside; range = tt; asked = tt; ready = ready },
    )

    any_ok : (from : ℕ) (o : Option ℕ) (last : Bool) → slice_get (ids_of (node_of ps p)) from ≡ o →
        list.All (Under p) (ids_of (node_of ps p)) →
        IsStep ps root states classes (any_step p from o last)
    any_ok from None last e below = tt
    any_ok from (Some k) true e below = kid_ok from k below e
    any_ok from (Some k) false e below = (
      kid_ok from k below e,
      record { inside = inside; range = tt; asked = tt; ready = ready },
    )

    turn_ok : (m : parts.Node) → list.All (Under p) (kids_of m) →
        list.All (λ n. n < classes) (classes_of m) →
        IsStep ps root states classes (turn_step next m)
    turn_ok (part.Repeat body min max lazy) below inner =
        kid_work body (below 0 0 (omega arith))
    turn_ok (part.OneRepeat item min max lazy) below inner = (l, inner)
    turn_ok part.Empty below inner = tt
    turn_ok (part.One item) below inner = tt
    turn_ok part.Break below inner = tt
    turn_ok (part.Seq kids) below inner = tt
    turn_ok (part.Group number branches) below inner = tt
    turn_ok (part.Atomic branches) below inner = tt
    turn_ok (part.Look ahead positive once branches) below inner = tt
    turn_ok (part.Cond test yes' no') below inner = tt
    turn_ok (part.Call n) below inner = tt
    turn_ok (part.Ref groups caseless) below inner = tt
    turn_ok (part.Anchor kind) below inner = tt
    turn_ok part.KeepOut below inner = tt
    turn_ok (part.VerbNode v) below inner = tt
    turn_ok (part.Callout number from to pos len) below inner = tt

    turns_ok : (low : ℕ) (high : Option ℕ) → IsRange low high →
        IsStep ps root states classes (turns_step p next low high)
    turns_ok (suc low) high ord = (
      record { inside = inside; range = tt; asked = tt; ready = ready },
      record { inside = inside; range = less_range low high ord; asked = tt; ready = ready },
    )
    turns_ok zero None ord = record { inside = inside; range = tt; asked = tt; ready = ready }
    turns_ok zero (Some zero) ord = l
    turns_ok zero (Some (suc high)) ord = (
      record { inside = inside; range = tt; asked = tt; ready = ready },
      record { inside = inside; range = omega arith; asked = tt; ready = ready },
    )

    choose_ok : (yes' : ℕ) (no' : Option ℕ) (positive : Bool) → IsIn ps root yes' →
        NoIn ps root no' →
        IsStep ps root states classes
        (step.Choose (Any p 0) positive (work.Part yes') (option_map work.Part no'))
    choose_ok yes' None positive a b = (
      record { inside = inside; range = tt; asked = tt; ready = ready },
      record { inside = a.0; range = tt; asked = tt; ready = a.1 },
    )
    choose_ok yes' (Some q) positive a b = (
      record { inside = inside; range = tt; asked = tt; ready = ready },
      record { inside = a.0; range = tt; asked = tt; ready = a.1 },
      record { inside = b.0; range = tt; asked = tt; ready = b.1 },
    )

    decide_ok : (yes' : ℕ) (no' : Option ℕ) (positive : Bool) → IsIn ps root yes' →
        NoIn ps root no' → is_behind (tree_at (trees ps) p) ≡ true →
        IsStep ps root states classes
        (step.Decide (Behind p 0) positive (work.Part yes') (option_map work.Part no'))
    decide_ok yes' None positive a b behind = (
      record { inside = inside; range = tt; asked = behind; ready = ready },
      record { inside = a.0; range = tt; asked = tt; ready = a.1 },
    )
    decide_ok yes' (Some q) positive a b behind = (
      record { inside = inside; range = tt; asked = behind; ready = ready },
      record { inside = a.0; range = tt; asked = tt; ready = a.1 },
      record { inside = b.0; range = tt; asked = tt; ready = b.1 },
    )

    after_ok : (yes' : ℕ) (no' : Option ℕ) (kids : List ℕ) → IsIn ps root yes' → NoIn ps root no' →
        list.All (Under p) kids →
        is_test (tree.seq (row (map (tree_at (trees ps)) kids))) ≡ true →
        IsStep ps root states classes (ask_second (slice_get kids 1) yes' no')
    unfolding trees
    after_ok yes' no' [] a b below t = tt
    after_ok yes' no' (x ∷ []) a b below t = tt
    after_ok yes' no' (x ∷ y ∷ ks) a b below t = record {
      inside = (under_in y (below 1 0 (omega arith))).0;
      range = tt;
      ready = (under_in y (below 1 0 (omega arith))).1;
      asked = (
        a,
        b,
        test_after (tree_at (trees ps) x) (tree_at (trees ps) y)
            (row (map (tree_at (trees ps)) ks)) t,
      );
    }

    ask_ok : (yes' : ℕ) (no' : Option ℕ) (d : ℕ) (m : parts.Node) →
        nest (trees ps) m ≡ tree_at (trees ps) p → IsIn ps root yes' →
        NoIn ps root no' → list.All (Under p) (kids_of m) → is_test (nest (trees ps) m) ≡ true →
        IsStep ps root states classes (ask_step p yes' no' d m)
    ask_ok yes' no' d (part.Look true positive once branches) is a b below t =
        nested_ok d
        (step.Choose (Any p 0) positive (work.Part yes') (option_map work.Part no'))
        (choose_ok yes' no' positive a b)
    ask_ok yes' no' d (part.Look false positive once branches) is a b below t =
        nested_ok d
        (step.Decide (Behind p 0) positive (work.Part yes') (option_map work.Part no'))
        (decide_ok yes' no' positive a b (ap is_behind (sym is)))
    ask_ok yes' no' d (part.Seq kids) is a b below t = after_ok yes' no' kids a b below t
    ask_ok yes' no' d part.Empty is a b below t = tt
    ask_ok yes' no' d (part.One item) is a b below t = tt
    ask_ok yes' no' d part.Break is a b below t = tt
    ask_ok yes' no' d (part.Group number branches) is a b below t = tt
    ask_ok yes' no' d (part.Repeat body min max lazy) is a b below t = tt
    ask_ok yes' no' d (part.OneRepeat item min max lazy) is a b below t = tt
    ask_ok yes' no' d (part.Atomic branches) is a b below t = tt
    ask_ok yes' no' d (part.Cond test y n) is a b below t = tt
    ask_ok yes' no' d (part.Call n) is a b below t = tt
    ask_ok yes' no' d (part.Ref groups caseless) is a b below t = tt
    ask_ok yes' no' d (part.Anchor kind) is a b below t = tt
    ask_ok yes' no' d part.KeepOut is a b below t = tt
    ask_ok yes' no' d (part.VerbNode v) is a b below t = tt
    ask_ok yes' no' d (part.Callout number from to pos len) is a b below t = tt

    behind_ok : (backs : List Back) (from : ℕ) (o : Option ℕ) →
        slice_get (ids_of (node_of ps p)) from ≡ o →
        list.All (Under p) (ids_of (node_of ps p)) → is_behind (tree_at (trees ps) p) ≡ true →
        IsStep ps root states classes (behind_step backs p from next o)
    behind_ok backs from None e below behind = omega (arith, l)
    behind_ok backs from (Some k) e below behind = (
      kid_ok from k below e,
      record { inside = inside; range = tt; asked = behind; ready = ready },
    )

  -- the parts below one are ready as it is
  kids_under : (classes p : ℕ) → IsPart ps classes p → IsReady (tree_at (trees ps) p) →
      list.All (Under p) (kids_of (node_of ps p))
  kids_under classes p part ready = λ i o j. (
    part.below i o j,
    all_below IsMeasured (trees ps) (node_of ps p) part.tested
        (subst IsReady (sym part.is) ready) i o j,
  )

  pub step_ok : (classes : ℕ) (backs : List Back) (w : Work) (d next root states : ℕ) →
      IsPart ps classes (part_of w) → IsWork ps root w → next < states →
      IsStep ps root states classes (step_of ps backs w d next)
  step_ok classes backs (work.Part p) d next root states k ok l =
      part_ok root states classes p next ok.inside ok.ready l d (node_of ps p) k.is
      (kids_under classes p k ok.ready) k.classes_in k.ordered k.tested
  step_ok classes backs (All p from) d next root states k ok l =
      all_ok root states classes p next ok.inside ok.ready l from
      (slice_get (ids_of (node_of ps p)) from)
      refl
      (ids_below (Under p) (node_of ps p) (kids_under classes p k ok.ready))
  step_ok classes backs (Any p from) d next root states k ok l =
      any_ok root states classes p next ok.inside ok.ready l from
      (slice_get (ids_of (node_of ps p)) from)
      (from + 1 == length (ids_of (node_of ps p))) refl
      (ids_below (Under p) (node_of ps p) (kids_under classes p k ok.ready))
  step_ok classes backs (Turn p) d next root states k ok l =
      turn_ok root states classes p next ok.inside ok.ready l (node_of ps p)
      (kids_under classes p k ok.ready) k.classes_in
  step_ok classes backs (work.Turns p low high) d next root states k ok l =
      turns_ok root states classes p next ok.inside ok.ready l low high ok.range
  step_ok classes backs (Ask p yes' no') d next root states k ok l =
      ask_ok root states classes p next ok.inside ok.ready l yes' no' d (node_of ps p) k.is
      ok.asked.0 ok.asked.1 (kids_under classes p k ok.ready) (ap is_test k.is ∙ ok.asked.2)
  step_ok classes backs (Behind p from) d next root states k ok l =
      behind_ok root states classes p next ok.inside ok.ready l backs from
      (slice_get (ids_of (node_of ps p)) from) refl
      (ids_below (Under p) (node_of ps p) (kids_under classes p k ok.ready)) ok.asked
