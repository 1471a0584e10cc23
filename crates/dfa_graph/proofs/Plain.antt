-- The graph of a tree without atomic groups and lookarounds nests nothing.
use Rattle.std.proofs.Common.{◌≡◌, ◌∙◌, ℕ, zero, suc, ◌+◌, Bool, true, false, List, [], ◌∷◌, ◌++◌, map, length}
use Rattle.std.proofs.Common.{Option, Some, None, refl, sym, ap, subst, arith}
use Rattle.std.proofs.lemmas.Bool.{and_parts, false≢true, or_right}
use Rattle.std.specs.Prelude as list
use Rattle.std.specs.Prelude.{◌==◌, ◌||◌, slice_get, slice_set}
use Rattle.pat_tree.specs.Rules.{asserted_by, tests_of, is_test}
use Rattle.pat_tree.specs.declared.nodes.Placed as placed
use Rattle.pat_tree.specs.declared.nodes.Node as parts
use Rattle.pat_tree.specs.declared.nodes.Node.TheVariants as part
use Rattle.pat_tree.specs.declared.nodes.Cond.{Cond}
use Rattle.pat_tree.specs.declared.nodes.Cond.TheVariants as cond
use Rattle.pat_tree.specs.declared.nodes.Verb.{Verb}
use Rattle.pat_tree.specs.declared.nodes.Verb.TheVariants.{Accept, Fail, Commit, Prune, Skip, Then, Mark}
use Rattle.pat_tree.specs.Nested as tree
use Rattle.pat_tree.specs.Nested.{Nested, row, tree_at, nest, trees, cond_of, other_of}
use Rattle.pat_lengths.specs.declared.backs.Back.{Back}
use Rattle.dfa_paths.specs.declared.graph.Node.{Node}
use Rattle.dfa_paths.specs.declared.graph.Node.TheVariants.{Split, Dead, Match}
use Rattle.dfa_graph.specs.declared.build.Work.{Work}
use Rattle.dfa_graph.specs.declared.build.Work.TheVariants as work
use Rattle.dfa_graph.specs.declared.build.Work.TheVariants.{All, Any, Turn, Ask, Behind}
use Rattle.dfa_graph.specs.declared.build.Task.{Task}
use Rattle.dfa_graph.specs.declared.build.Step.{Step}
use Rattle.dfa_graph.specs.declared.build.Step.TheVariants as step
use Rattle.dfa_paths.specs.Graph.{nests, IsFlat}
use Rattle.dfa_paths.specs.Plain.{is_never, is_plain, all_plain, test_plain, other_plain}
use Rattle.dfa_paths.specs.Fragment.{most_nested}
use Rattle.dfa_graph.specs.Building.{part_of, IsRange, IsTurnRange, ids_of, part_step, second_step, cond_step}
use Rattle.dfa_graph.specs.Building.{verb_step, all_step, any_step, turn_step, turns_step, node_of, step_of, task_in}
use Rattle.dfa_graph.specs.Building.{states_after, tasks_after, tree_of, row_from, IsPart}
use Rattle.dfa_paths.proofs.Coming.{node_same}
use Rattle.dfa_graph.proofs.Tasks.{AllTasks, all_append, all_front, all_back}
use Rattle.dfa_graph.proofs.Costs.{rest_of, first_of}

-- a condition on a lookaround nests something
not_asserted : (t : Nested) (second : Bool) → is_test t ≡ true →
    test_plain (tree.test_of t) second ≡ true → ⊥
unfolding is_plain
not_asserted (tree.look ahead positive once ts) second e k = false≢true k
not_asserted (tree.seq (tree.more (tree.callout c)
    (tree.more (tree.look ahead positive once ts) tree.none))) second e k =
    false≢true k
not_asserted _ second e k = false≢true e

-- States.

flat_set : (ns : List Node) (at : ℕ) (n : Node) → nests n ≡ false → IsFlat ns →
    IsFlat (slice_set ns at n)
flat_set [] at n p h q m e = h q m e
flat_set (k ∷ ns) zero n p h zero m e = subst (λ x. nests x ≡ false) (node_same n m e) p
flat_set (k ∷ ns) zero n p h (suc q) m e = h (suc q) m e
flat_set (k ∷ ns) (suc at) n p h zero m e = h zero m e
flat_set (k ∷ ns) (suc at) n p h (suc q) m e =
    flat_set ns at n p (λ i x f. h (suc i) x f) q m e

flat_more : (ns ds : List Node) → IsFlat ns → IsFlat ds → IsFlat (ns ++ ds)
flat_more [] ds h k q m e = k q m e
flat_more (n ∷ ns) ds h k zero m e = h zero m e
flat_more (n ∷ ns) ds h k (suc q) m e =
    flat_more ns ds (λ i x f. h (suc i) x f) k q m e

dead_flat : IsFlat (Dead ∷ [])
dead_flat zero m e = subst (λ x. nests x ≡ false) (node_same Dead m e) refl
dead_flat (suc q) m e = cc

deads_flat : IsFlat (Dead ∷ Dead ∷ [])
deads_flat zero m e = subst (λ x. nests x ≡ false) (node_same Dead m e) refl
deads_flat (suc zero) m e = subst (λ x. nests x ≡ false) (node_same Dead m e) refl
deads_flat (suc (suc q)) m e = cc

first_flat : IsFlat (Dead ∷ Match ∷ [])
first_flat zero m e = subst (λ x. nests x ≡ false) (node_same Dead m e) refl
first_flat (suc zero) m e = subst (λ x. nests x ≡ false) (node_same Match m e) refl
first_flat (suc (suc q)) m e = cc

-- Works.

abbrev turn_plain : Nested → Bool
turn_plain (tree.repeat body low high lazily) = is_plain body
turn_plain _ = true

module _ (ps : List placed.Placed) where
  abbrev f : ℕ → Nested
  f = tree_at (trees ps)

  abbrev work_plain : Work → Bool
  work_plain (work.Part p) = is_plain (tree_of ps p)
  work_plain (All p from) = all_plain (row_from ps p from)
  work_plain (Any p from) = all_plain (row_from ps p from)
  work_plain (Turn p) = turn_plain (tree_of ps p)
  work_plain (work.Turns p low high) = is_never high || turn_plain (tree_of ps p)
  work_plain (Ask p yes' no') = false
  work_plain (Behind p from) = false

  -- a step that nests nothing
  abbrev Stays : Step → Type 0
  Stays step.Refuse = Unit {0}
  Stays (step.Write n) = nests n ≡ false
  Stays (step.Hand a) = work_plain a ≡ true
  Stays (step.Chain a b) = (work_plain a ≡ true) × (work_plain b ≡ true)
  Stays (step.Loop a) = work_plain a ≡ true
  Stays (step.Fork a b) = (work_plain a ≡ true) × (work_plain b ≡ true)
  Stays (step.Skip a b) = (work_plain a ≡ true) × (work_plain b ≡ true)
  Stays _ = ⊥

  second_stays : (next : ℕ) (no' : Option ℕ) → other_plain (other_of (trees ps) no') ≡ true →
      Stays (second_step next no')
  unfolding is_plain
  second_stays next None e = refl
  second_stays next (Some q) e = e

  cond_stays : (next yes' : ℕ) (test : Cond) (no' : Option ℕ) →
      list.All (λ k. is_test (f k) ≡ true) (tests_of test) →
      test_plain (cond_of (trees ps) test) (other_plain (other_of (trees ps) no')) ≡ true →
      Stays (cond_step next test yes' no')
  unfolding is_plain
  cond_stays next yes' cond.Never no' ok e = second_stays next no' e
  cond_stays next yes' cond.InCall no' ok e = second_stays next no' e
  cond_stays next yes' (cond.AnySet groups) no' ok e = tt
  cond_stays next yes' (cond.InCallOf groups) no' ok e = tt
  cond_stays next yes' (cond.Assert k) no' ok e =
      absurd (not_asserted (f k) _ (ok 0 0 (omega arith)) e)

  verb_stays : (v : Verb) → Stays (verb_step v)
  verb_stays (Fail name) = refl
  verb_stays (Accept name) = tt
  verb_stays (Commit name) = tt
  verb_stays (Prune name) = tt
  verb_stays (Skip name) = tt
  verb_stays (Then name) = tt
  verb_stays (Mark name) = tt

  row_stays : (p : ℕ) (m : parts.Node) → node_of ps p ≡ m →
      all_plain (row (map f (ids_of m))) ≡ true → all_plain (row_from ps p 0) ≡ true
  row_stays p m e h = ap (λ k. all_plain (row (map f (ids_of k)))) e ∙ h

  turns_are : (p : ℕ) (t : Nested) (high : Option ℕ) → t ≡ tree_of ps p →
      (is_never high || turn_plain t) ≡ true →
      (is_never high || turn_plain (tree_of ps p)) ≡ true
  turns_are p t high e h = ap (λ k. is_never high || turn_plain k) (sym e) ∙ h

  part_stays : (p d next : ℕ) (m : parts.Node) → node_of ps p ≡ m →
      nest (trees ps) m ≡ tree_of ps p →
      list.All (λ k. is_test (f k) ≡ true) (asserted_by m) →
      is_plain (nest (trees ps) m) ≡ true → Stays (part_step p d next m)
  unfolding is_plain
  part_stays p d next part.Empty e is ok h = refl
  part_stays p d next (part.One item) e is ok h = refl
  part_stays p d next part.Break e is ok h = refl
  part_stays p d next (part.Seq kids) e is ok h = row_stays p (part.Seq kids) e h
  part_stays p d next (part.Group number branches) e is ok h =
      row_stays p (part.Group number branches) e h
  part_stays p d next (part.Repeat body min max lazy) e is ok h =
      turns_are p (nest (trees ps) (part.Repeat body min max lazy)) max is h
  part_stays p d next (part.OneRepeat item min max lazy) e is ok h =
      turns_are p (nest (trees ps) (part.OneRepeat item min max lazy)) max is
      (or_right (is_never max) true refl)
  part_stays p d next (part.Atomic branches) e is ok h = absurd (false≢true h)
  part_stays p d next (part.Look ahead positive once branches) e is ok h = absurd (false≢true h)
  part_stays p d next (part.Cond test yes' no') e is ok h = cond_stays next yes' test no' ok h
  part_stays p d next (part.Call n) e is ok h = tt
  part_stays p d next (part.Ref groups caseless) e is ok h = tt
  part_stays p d next (part.Anchor kind) e is ok h = refl
  part_stays p d next part.KeepOut e is ok h = tt
  part_stays p d next (part.VerbNode v) e is ok h = verb_stays v
  part_stays p d next (part.Callout number from to pos len) e is ok h = refl

  first_plain : (p from k : ℕ) → slice_get (ids_of (node_of ps p)) from ≡ Some k →
      all_plain (row_from ps p from) ≡ true →
      (is_plain (f k) ≡ true) × (all_plain (rest_of ps p from) ≡ true)
  unfolding is_plain
  first_plain p from k e h =
      and_parts (is_plain (f k)) (all_plain (rest_of ps p from))
      (ap all_plain (sym (first_of ps p from k e)) ∙ h)

  all_stays : (p from next : ℕ) (o : Option ℕ) → slice_get (ids_of (node_of ps p)) from ≡ o →
      all_plain (row_from ps p from) ≡ true → Stays (all_step p from next o)
  all_stays p from next None e h = refl
  all_stays p from next (Some k) e h = first_plain p from k e h

  any_stays : (p from next : ℕ) (o : Option ℕ) (last : Bool) →
      slice_get (ids_of (node_of ps p)) from ≡ o →
      all_plain (row_from ps p from) ≡ true → Stays (any_step p from o last)
  any_stays p from next None last e h = refl
  any_stays p from next (Some k) true e h = (first_plain p from k e h).0
  any_stays p from next (Some k) false e h = first_plain p from k e h

  turn_stays : (next : ℕ) (m : parts.Node) → turn_plain (nest (trees ps) m) ≡ true →
      Stays (turn_step next m)
  turn_stays next (part.Repeat body min max lazy) h = h
  turn_stays next (part.OneRepeat item min max lazy) h = refl
  turn_stays next part.Empty h = tt
  turn_stays next (part.One item) h = tt
  turn_stays next part.Break h = tt
  turn_stays next (part.Seq kids) h = tt
  turn_stays next (part.Group number branches) h = tt
  turn_stays next (part.Atomic branches) h = tt
  turn_stays next (part.Look ahead positive once branches) h = tt
  turn_stays next (part.Cond test yes' no') h = tt
  turn_stays next (part.Call n) h = tt
  turn_stays next (part.Ref groups caseless) h = tt
  turn_stays next (part.Anchor kind) h = tt
  turn_stays next part.KeepOut h = tt
  turn_stays next (part.VerbNode v) h = tt
  turn_stays next (part.Callout number from to pos len) h = tt

  turns_stay : (p low next : ℕ) (high : Option ℕ) → IsRange low high →
      (is_never high || turn_plain (tree_of ps p)) ≡ true → Stays (turns_step p next low high)
  turns_stay p (suc low) next None ok h = (h, h)
  turns_stay p (suc low) next (Some zero) ok h = absurd (omega (arith, ok))
  turns_stay p (suc low) next (Some (suc high)) ok h =
      (h, or_right _ (turn_plain (tree_of ps p)) h)
  turns_stay p zero next None ok h = h
  turns_stay p zero next (Some zero) ok h = refl
  turns_stay p zero next (Some (suc high)) ok h =
      (h, or_right (is_never (Some high)) (turn_plain (tree_of ps p)) h)

  step_stays : (classes : ℕ) (backs : List Back) (w : Work) (d next : ℕ) →
      IsPart ps classes (part_of w) → IsTurnRange w →
      work_plain w ≡ true → Stays (step_of ps backs w d next)
  step_stays classes backs (work.Part p) d next k ok h =
      part_stays p d next (node_of ps p) refl k.is k.tested (ap is_plain k.is ∙ h)
  step_stays classes backs (All p from) d next k ok h =
      all_stays p from next (slice_get (ids_of (node_of ps p)) from) refl h
  step_stays classes backs (Any p from) d next k ok h =
      any_stays p from next (slice_get (ids_of (node_of ps p)) from)
      (from + 1 == length (ids_of (node_of ps p))) refl h
  step_stays classes backs (Turn p) d next k ok h =
      turn_stays next (node_of ps p) (ap turn_plain k.is ∙ h)
  step_stays classes backs (work.Turns p low high) d next k ok h = turns_stay p low next high ok h
  step_stays classes backs (Ask p yes' no') d next k ok h = absurd (false≢true h)
  step_stays classes backs (Behind p from) d next k ok h = absurd (false≢true h)

  states_stay : (s : Step) (t : Task) (nodes : List Node) → Stays s → IsFlat nodes →
      IsFlat (states_after s t nodes)
  states_stay step.Refuse t nodes k h = h
  states_stay (step.Write n) t nodes k h = flat_set nodes t.at n k h
  states_stay (step.Hand a) t nodes k h = h
  states_stay (step.Chain a b) t nodes k h = flat_more nodes (Dead ∷ []) h dead_flat
  states_stay (step.Loop a) t nodes k h =
      flat_set (nodes ++ Dead ∷ []) t.at (Split (length nodes) t.next) refl
      (flat_more nodes (Dead ∷ []) h dead_flat)
  states_stay (step.Fork a b) t nodes k h =
      flat_set (nodes ++ Dead ∷ Dead ∷ []) t.at (Split (length nodes) (length nodes + 1)) refl
      (flat_more nodes (Dead ∷ Dead ∷ []) h deads_flat)
  states_stay (step.Skip a b) t nodes k h =
      flat_set (nodes ++ Dead ∷ Dead ∷ []) t.at (Split (length nodes) t.next) refl
      (flat_more nodes (Dead ∷ Dead ∷ []) h deads_flat)
  states_stay (step.Keep a) t nodes k h = absurd k
  states_stay (step.Assert a positive) t nodes k h = absurd k
  states_stay (step.Choose a positive b c) t nodes k h = absurd k
  states_stay (step.Seek a positive) t nodes k h = absurd k
  states_stay (step.Decide a positive b c) t nodes k h = absurd k
  states_stay (step.Reach back a b) t nodes k h = absurd k

  -- The tasks that are left.

  abbrev pub AllPlain : List Task → Type 0
  AllPlain = AllTasks (λ t. work_plain t.work ≡ true)

  -- the states so far nest nothing, and what is left won't
  abbrev pub IsPlainBuild : List Node → List Task → Type 0
  IsPlainBuild nodes ts = IsFlat nodes × AllPlain ts

  tasks_stay : (s : Step) (t : Task) (new : ℕ) (rest : List Task) → Stays s → AllPlain rest →
      AllPlain (tasks_after s t new rest)
  unfolding AllTasks
  tasks_stay step.Refuse t new rest k h = h
  tasks_stay (step.Write n) t new rest k h = h
  tasks_stay (step.Hand a) t new rest k h = all_append _ rest _ h (k, tt)
  tasks_stay (step.Chain a b) t new rest k h = all_append _ rest _ h (k.0, (k.1, tt))
  tasks_stay (step.Loop a) t new rest k h = all_append _ rest _ h (k, tt)
  tasks_stay (step.Fork a b) t new rest k h = all_append _ rest _ h (k.0, (k.1, tt))
  tasks_stay (step.Skip a b) t new rest k h = all_append _ rest _ h (k.0, (k.1, tt))
  tasks_stay (step.Keep a) t new rest k h = absurd k
  tasks_stay (step.Assert a positive) t new rest k h = absurd k
  tasks_stay (step.Choose a positive b c) t new rest k h = absurd k
  tasks_stay (step.Seek a positive) t new rest k h = absurd k
  tasks_stay (step.Decide a positive b c) t new rest k h = absurd k
  tasks_stay (step.Reach back a b) t new rest k h = absurd k

  pub first_plain_build : (root : ℕ) (nodes : List Node) (ts : List Task) →
      nodes ≡ Dead ∷ Match ∷ [] → ts ≡ task_in most_nested (work.Part root) 0 1 ∷ [] →
      is_plain (tree_of ps root) ≡ true → IsPlainBuild nodes ts
  unfolding AllTasks
  first_plain_build root nodes ts en et plain =
      (subst IsFlat (sym en) first_flat, subst AllPlain (sym et) (plain, tt))

  -- as the code does a step
  pub plain_step : (classes : ℕ) (backs : List Back) (nodes nodes' : List Node)
      (ts rest ts' : List Task)
      (t : Task) (s : Step) →
      IsPlainBuild nodes ts → ts ≡ rest ++ t ∷ [] → IsTurnRange t.work →
      IsPart ps classes (part_of t.work) → s ≡ step_of ps backs t.work t.depth t.next →
      nodes' ≡ states_after s t nodes →
      ts' ≡ tasks_after s t (length nodes) rest → IsPlainBuild nodes' ts'
  unfolding AllTasks
  plain_step classes backs nodes nodes' ts rest ts' t s h pop range ok is en et =
      let all = subst AllPlain pop h.1 in
      let top = all_back _ rest (t ∷ []) all in
      let stays = subst Stays (sym is) (step_stays classes backs t.work t.depth t.next ok range
      top.0) in (
        subst IsFlat (sym en) (states_stay s t nodes stays h.0),
        subst AllPlain (sym et)
            (tasks_stay s t (length nodes) rest stays (all_front _ rest (t ∷ []) all)),
      )
