-- How many steps the building of a graph takes, and that none of them is refused for a tree that
-- has a graph.
use Rattle.std.proofs.Common.{◌≡◌, ◌∙◌, ℕ, zero, suc, ◌+◌, ◌-◌, ◌*◌, ◌≤◌, Bool, true, false, List, [], ◌∷◌, ◌++◌}
use Rattle.std.proofs.Common.{map, drop, length, Option, Some, None, refl, sym, ap, subst, arith}
use Rattle.std.proofs.Math.Nat.{suc-mul}
use Rattle.std.proofs.lemmas.Bool.{and_parts, false≢true, or_right}
use Rattle.std.specs.Prelude.{◌==◌, ◌&&◌, ◌||◌, slice_get, option_map}
use Rattle.pat_tree.specs.Rules.{is_test}
use Rattle.pat_tree.specs.declared.nodes.Placed as placed
use Rattle.pat_tree.specs.declared.nodes.Node as parts
use Rattle.pat_tree.specs.declared.nodes.Node.TheVariants as part
use Rattle.pat_tree.specs.declared.nodes.Cond.{Cond}
use Rattle.pat_tree.specs.declared.nodes.Cond.TheVariants as cond
use Rattle.pat_tree.specs.declared.nodes.Verb.{Verb}
use Rattle.pat_tree.specs.declared.nodes.Verb.TheVariants.{Accept, Fail, Commit, Prune, Skip, Then, Mark}
use Rattle.pat_tree.specs.Nested as tree
use Rattle.pat_tree.specs.Nested.{Nested, Row, test_of, row, tree_at, nest, trees, cond_of, other_of}
use Rattle.pat_check.specs.Size.{whole_size}
use Rattle.pat_lengths.specs.declared.backs.Back.{Back}
use Rattle.dfa_graph.specs.declared.build.Work.{Work}
use Rattle.dfa_graph.specs.declared.build.Work.TheVariants as work
use Rattle.dfa_graph.specs.declared.build.Work.TheVariants.{All, Any, Turn, Ask, Behind}
use Rattle.dfa_graph.specs.declared.build.Task.{Task}
use Rattle.dfa_graph.specs.declared.build.Step.{Step}
use Rattle.dfa_graph.specs.declared.build.Step.TheVariants as step
use Rattle.dfa_graph.specs.Building.{part_of, IsRange, ids_of, one_less, part_step, second_step, cond_step, ask_step}
use Rattle.dfa_graph.specs.Building.{ask_second, verb_step, all_step, any_step, turn_step, turns_step, behind_step}
use Rattle.dfa_graph.specs.Building.{so_at, else_at, node_of, step_of, task_in, tasks_after, is_refused, tree_of}
use Rattle.dfa_graph.specs.Building.{row_from, IsPart}
use Rattle.dfa_paths.specs.Fragment.{most_nested}
use Rattle.dfa_paths.specs.Plain.{is_never}
use Rattle.dfa_graph.specs.Served.{is_fail, has_fragment, has_graph, all_have, test_has, other_has}
use Rattle.dfa_graph.proofs.Tasks.{AllTasks, all_append, all_front, all_back, sum_of, sum_append}
use Rattle.dfa_graph.proofs.Steps.{drop_some, drop_none, less_depth, one_part, no_part, IsWork}
use Rattle.dfa_graph.proofs.TreeCosts.{turns_cost, cost, row_cost, test_cost, other_cost, turn_cost, small}
use Rattle.dfa_graph.proofs.TreeCosts.{cost_of_small}

abbrev turn_has : Nested → ℕ → Bool
turn_has (tree.repeat body low high lazily) d = has_fragment body d
turn_has (tree.one_repeat item low high lazily) d = true
turn_has _ d = false

-- where a callout comes first, all is as for the lookaround alone, but for one step
called_has : (x y : Nested) (r : Row) → is_test (tree.seq (tree.more x (tree.more y r))) ≡ true →
    (d : ℕ) (first second : Bool) →
    test_has (test_of (tree.seq (tree.more x (tree.more y r)))) d first second
    ≡ test_has (test_of y) d first second
unfolding has_fragment
called_has (tree.callout c) (tree.look ahead positive once ts) tree.none t d first second = refl
called_has _ _ _ t d first second = absurd (false≢true t)

called_cost : (x y : Nested) (r : Row) → is_test (tree.seq (tree.more x (tree.more y r))) ≡ true →
    test_cost (test_of (tree.seq (tree.more x (tree.more y r)))) ≡ 1 + test_cost (test_of y)
unfolding cost
called_cost (tree.callout c) (tree.look ahead positive once ts) tree.none t = refl
called_cost _ _ _ t = absurd (false≢true t)

one_less_cost : (n all test a b : ℕ) → all ≡ 1 + test → n ≡ all + a + b →
    1 + (test + a + b) ≤ n
one_less_cost n all test a b e k = omega (arith, e, k)

none_more : (x y a : ℕ) → 1 + x ≤ 1 + y → 1 + x + a ≤ 1 + y + a + 0
none_more x y a l = omega (arith, l)

some_more : (x y a b : ℕ) → 1 + x ≤ 1 + y → 1 + x + a + b ≤ 1 + y + a + b
some_more x y a b l = omega (arith, l)

module _ (ps : List placed.Placed) where
  abbrev f : ℕ → Nested
  f = tree_at (trees ps)

  abbrev pub work_cost : Work → ℕ
  work_cost (work.Part p) = cost (tree_of ps p)
  work_cost (All p from) = row_cost (row_from ps p from)
  work_cost (Any p from) = row_cost (row_from ps p from)
  work_cost (Turn p) = turn_cost (tree_of ps p)
  work_cost (work.Turns p low high) = turns_cost (turn_cost (tree_of ps p)) low high
  work_cost (Ask p yes' no') =
      test_cost (test_of (tree_of ps p)) + cost (tree_of ps yes')
      + other_cost (other_of (trees ps) no')
  work_cost (Behind p from) = row_cost (row_from ps p from)

  abbrev pub work_has : Work → ℕ → Bool
  work_has (work.Part p) d = has_fragment (tree_of ps p) d
  work_has (All p from) d = all_have (row_from ps p from) d
  work_has (Any p from) d = all_have (row_from ps p from) d
  work_has (Turn p) d = turn_has (tree_of ps p) d
  work_has (work.Turns p low high) d = is_never high || turn_has (tree_of ps p) d
  work_has (Ask p yes' no') d =
      test_has (test_of (tree_of ps p)) d (has_fragment (tree_of ps yes') d)
      (other_has (other_of (trees ps) no') d)
  work_has (Behind p from) d = all_have (row_from ps p from) (d - 1)

  -- a step that isn't refused, and leaves at most so much
  abbrev Leaves : ℕ → ℕ → Step → Type 0
  Leaves d n step.Refuse = ⊥
  Leaves d n (step.Write m) = 1 ≤ n
  Leaves d n (step.Hand a) = (work_has a d ≡ true) × (1 + work_cost a ≤ n)
  Leaves d n (step.Chain a b) =
      (work_has a d ≡ true) × (work_has b d ≡ true) × (1 + work_cost a + work_cost b ≤ n)
  Leaves d n (step.Loop a) = (work_has a d ≡ true) × (1 + work_cost a ≤ n)
  Leaves d n (step.Fork a b) =
      (work_has a d ≡ true) × (work_has b d ≡ true) × (1 + work_cost a + work_cost b ≤ n)
  Leaves d n (step.Skip a b) =
      (work_has a d ≡ true) × (work_has b d ≡ true) × (1 + work_cost a + work_cost b ≤ n)
  Leaves d n (step.Keep a) = (work_has a (d - 1) ≡ true) × (1 + work_cost a ≤ n)
  Leaves d n (step.Assert a positive) = (work_has a (d - 1) ≡ true) × (1 + work_cost a ≤ n)
  Leaves d n (step.Choose a positive b None) =
      (work_has a (d - 1) ≡ true) × (work_has b d ≡ true) × (1 + work_cost a + work_cost b ≤ n)
  Leaves d n (step.Choose a positive b (Some c)) =
      (work_has a (d - 1) ≡ true) × (work_has b d ≡ true) × (work_has c d ≡ true)
      × (1 + work_cost a + work_cost b + work_cost c ≤ n)
  Leaves d n (step.Seek a positive) = (work_has a d ≡ true) × (1 + work_cost a ≤ n)
  Leaves d n (step.Decide a positive b None) =
      (work_has a d ≡ true) × (work_has b d ≡ true) × (1 + work_cost a + work_cost b ≤ n)
  Leaves d n (step.Decide a positive b (Some c)) =
      (work_has a d ≡ true) × (work_has b d ≡ true) × (work_has c d ≡ true)
      × (1 + work_cost a + work_cost b + work_cost c ≤ n)
  Leaves d n (step.Reach back a b) =
      (work_has a (d - 1) ≡ true) × (work_has b d ≡ true) × (1 + work_cost a + work_cost b ≤ n)

  second_leaves : (d next a b : ℕ) (no' : Option ℕ) →
      other_has (other_of (trees ps) no') d ≡ true →
      Leaves d (1 + a + b + other_cost (other_of (trees ps) no')) (second_step next no')
  unfolding has_fragment cost
  second_leaves d next a b None e = omega arith
  second_leaves d next a b (Some q) e = (e, omega arith)

  -- a condition's costs, one step more
  asked_cost : (a b c n : ℕ) → n ≡ 1 + a + b + c → 1 + (a + b + c) ≤ n
  asked_cost a b c n e = omega (arith, e)

  cond_leaves : (d next yes' : ℕ) (test : Cond) (no' : Option ℕ) →
      test_has (cond_of (trees ps) test) d (has_fragment (f yes') d)
      (other_has (other_of (trees ps) no') d) ≡ true →
      Leaves d (1 + test_cost (cond_of (trees ps) test) + cost (f yes')
      + other_cost (other_of (trees ps) no')) (cond_step next test yes' no')
  unfolding has_fragment
  cond_leaves d next yes' cond.Never no' e = second_leaves d next _ _ no' e
  cond_leaves d next yes' cond.InCall no' e = second_leaves d next _ _ no' e
  cond_leaves d next yes' (cond.AnySet groups) no' e = absurd (false≢true e)
  cond_leaves d next yes' (cond.InCallOf groups) no' e = absurd (false≢true e)
  cond_leaves d next yes' (cond.Assert k) no' e = (e, asked_cost _ _ _ _ refl)

  verb_leaves : (d : ℕ) (v : Verb) → is_fail v ≡ true → Leaves d 1 (verb_step v)
  verb_leaves d (Fail name) e = omega arith
  verb_leaves d (Accept name) e = absurd (false≢true e)
  verb_leaves d (Commit name) e = absurd (false≢true e)
  verb_leaves d (Prune name) e = absurd (false≢true e)
  verb_leaves d (Skip name) e = absurd (false≢true e)
  verb_leaves d (Then name) e = absurd (false≢true e)
  verb_leaves d (Mark name) e = absurd (false≢true e)

  -- the row of a part
  row_leaves : (p d : ℕ) (m : parts.Node) → node_of ps p ≡ m →
      all_have (row (map f (ids_of m))) d ≡ true →
      (all_have (row_from ps p 0) d ≡ true) × (1 + row_cost (row_from ps p 0)
      ≤ 1 + row_cost (row (map f (ids_of m))))
  row_leaves p d m e h =
      let same : row_from ps p 0 ≡ row (map f (ids_of m)) = ap (λ k. row (map f (ids_of k))) e in
      (ap (λ r. all_have r d) same ∙ h, let c = ap row_cost same in omega (arith, c))

  -- one level deeper
  nested_leaves : (p d : ℕ) (m : parts.Node) → node_of ps p ≡ m →
      all_have (row (map f (ids_of m))) d ≡ true →
      (all_have (row_from ps p 0) (suc d - 1) ≡ true) × (1 + row_cost (row_from ps p 0)
      ≤ 1 + row_cost (row (map f (ids_of m))))
  nested_leaves p d m e h =
      let r = row_leaves p d m e h in
      (subst (λ k. all_have (row_from ps p 0) k ≡ true) (sym (less_depth d)) r.0, r.1)

  turns_leave : (p d : ℕ) (t : Nested) (low : ℕ) (high : Option ℕ) → t ≡ tree_of ps p →
      (is_never high || turn_has t d) ≡ true →
      ((is_never high || turn_has (tree_of ps p) d) ≡ true)
      × (1 + turns_cost (turn_cost (tree_of ps p))
      low high ≤ 1 + turns_cost (turn_cost t) low high)
  turns_leave p d t low high e h = (
    ap (λ k. is_never high || turn_has k d) (sym e) ∙ h,
    let c = ap (λ k. turns_cost (turn_cost k) low high) e in omega (arith, c),
  )

  part_leaves : (p d next : ℕ) (m : parts.Node) → node_of ps p ≡ m →
      nest (trees ps) m ≡ tree_of ps p →
      has_fragment (nest (trees ps) m) d ≡ true →
      Leaves d (cost (nest (trees ps) m)) (part_step p d next m)
  unfolding has_fragment cost
  part_leaves p d next part.Empty e is h = omega arith
  part_leaves p d next (part.One item) e is h = omega arith
  part_leaves p d next part.Break e is h = omega arith
  part_leaves p d next (part.Seq kids) e is h = row_leaves p d (part.Seq kids) e h
  part_leaves p d next (part.Group number branches) e is h =
      row_leaves p d (part.Group number branches) e h
  part_leaves p d next (part.Repeat body min max lazy) e is h =
      turns_leave p d (nest (trees ps) (part.Repeat body min max lazy)) min max is h
  part_leaves p d next (part.OneRepeat item min max lazy) e is h =
      turns_leave p d (nest (trees ps) (part.OneRepeat item min max lazy)) min max is
      (or_right (is_never max) true refl)
  part_leaves p zero next (part.Atomic branches) e is h = absurd (false≢true h)
  part_leaves p (suc d) next (part.Atomic branches) e is h =
      nested_leaves p d (part.Atomic branches) e h
  part_leaves p zero next (part.Look true positive once branches) e is h = absurd (false≢true h)
  part_leaves p (suc d) next (part.Look true positive once branches) e is h =
      nested_leaves p d (part.Look true positive once branches) e h
  part_leaves p zero next (part.Look false positive once branches) e is h = absurd (false≢true h)
  part_leaves p (suc d) next (part.Look false positive once branches) e is h =
      nested_leaves p d (part.Look false positive once branches) e h
  part_leaves p d next (part.Cond test yes' no') e is h = cond_leaves d next yes' test no' h
  part_leaves p d next (part.Call n) e is h = absurd (false≢true h)
  part_leaves p d next (part.Ref groups caseless) e is h = absurd (false≢true h)
  part_leaves p d next (part.Anchor kind) e is h = omega arith
  part_leaves p d next part.KeepOut e is h = absurd (false≢true h)
  part_leaves p d next (part.VerbNode v) e is h = verb_leaves d v h
  part_leaves p d next (part.Callout number from to pos len) e is h = omega arith

  one_step : 1 ≤ 1
  one_step = omega arith

  abbrev pub rest_of : ℕ → ℕ → Row
  rest_of p from = row (map f (drop (from + 1) (ids_of (node_of ps p))))

  pub first_of : (p from k : ℕ) → slice_get (ids_of (node_of ps p)) from ≡ Some k →
      row_from ps p from ≡ tree.more (f k) (rest_of p from)
  first_of p from k e = ap (λ xs. row (map f xs)) (drop_some (ids_of (node_of ps p)) from k e)

  none_of : (p from : ℕ) → slice_get (ids_of (node_of ps p)) from ≡ None →
      row_from ps p from ≡ tree.none
  none_of p from e = ap (λ xs. row (map f xs)) (drop_none (ids_of (node_of ps p)) from e)

  none_costs : (p from : ℕ) → slice_get (ids_of (node_of ps p)) from ≡ None →
      1 ≤ row_cost (row_from ps p from)
  unfolding cost
  none_costs p from e = subst (λ r. 1 ≤ row_cost r) (sym (none_of p from e)) one_step

  first_costs : (p from k : ℕ) → slice_get (ids_of (node_of ps p)) from ≡ Some k →
      row_cost (row_from ps p from) ≡ 1 + cost (f k) + row_cost (rest_of p from)
  unfolding cost
  first_costs p from k e = ap row_cost (first_of p from k e)

  first_has : (p d from k : ℕ) → slice_get (ids_of (node_of ps p)) from ≡ Some k →
      all_have (row_from ps p from) d ≡ true →
      (has_fragment (f k) d ≡ true) × (all_have (rest_of p from) d ≡ true)
  unfolding has_fragment
  first_has p d from k e h =
      and_parts (has_fragment (f k) d) (all_have (rest_of p from) d)
      (ap (λ r. all_have r d) (sym (first_of p from k e)) ∙ h)

  all_leave : (p d from next : ℕ) (o : Option ℕ) → slice_get (ids_of (node_of ps p)) from ≡ o →
      all_have (row_from ps p from) d ≡ true →
      Leaves d (row_cost (row_from ps p from)) (all_step p from next o)
  all_leave p d from next None e h = none_costs p from e
  all_leave p d from next (Some k) e h =
      let b = first_has p d from k e h in
      let c = first_costs p from k e in
      (b.0, b.1, omega (arith, c))

  any_leave : (p d from next : ℕ) (o : Option ℕ) (last : Bool) →
      slice_get (ids_of (node_of ps p)) from ≡ o →
      all_have (row_from ps p from) d ≡ true →
      Leaves d (row_cost (row_from ps p from)) (any_step p from o last)
  any_leave p d from next None last e h = none_costs p from e
  any_leave p d from next (Some k) true e h =
      let b = first_has p d from k e h in
      let c = first_costs p from k e in
      (b.0, omega (arith, c))
  any_leave p d from next (Some k) false e h =
      let b = first_has p d from k e h in
      let c = first_costs p from k e in
      (b.0, b.1, omega (arith, c))

  behind_leaves : (p d from next : ℕ) (backs : List Back) (o : Option ℕ) →
      slice_get (ids_of (node_of ps p)) from ≡ o →
      all_have (row_from ps p from) (d - 1) ≡ true →
      Leaves d (row_cost (row_from ps p from)) (behind_step backs p from next o)
  behind_leaves p d from next backs None e h = none_costs p from e
  behind_leaves p d from next backs (Some k) e h =
      let b = first_has p (d - 1) from k e h in
      let c = first_costs p from k e in
      (b.0, b.1, omega (arith, c))

  turn_leaves : (d next : ℕ) (m : parts.Node) → turn_has (nest (trees ps) m) d ≡ true →
      Leaves d (turn_cost (nest (trees ps) m)) (turn_step next m)
  turn_leaves d next (part.Repeat body min max lazy) h = (h, omega arith)
  turn_leaves d next (part.OneRepeat item min max lazy) h = omega arith
  turn_leaves d next part.Empty h = absurd (false≢true h)
  turn_leaves d next (part.One item) h = absurd (false≢true h)
  turn_leaves d next part.Break h = absurd (false≢true h)
  turn_leaves d next (part.Seq kids) h = absurd (false≢true h)
  turn_leaves d next (part.Group number branches) h = absurd (false≢true h)
  turn_leaves d next (part.Atomic branches) h = absurd (false≢true h)
  turn_leaves d next (part.Look ahead positive once branches) h = absurd (false≢true h)
  turn_leaves d next (part.Cond test yes' no') h = absurd (false≢true h)
  turn_leaves d next (part.Call n) h = absurd (false≢true h)
  turn_leaves d next (part.Ref groups caseless) h = absurd (false≢true h)
  turn_leaves d next (part.Anchor kind) h = absurd (false≢true h)
  turn_leaves d next part.KeepOut h = absurd (false≢true h)
  turn_leaves d next (part.VerbNode v) h = absurd (false≢true h)
  turn_leaves d next (part.Callout number from to pos len) h = absurd (false≢true h)

  turn_more : (x y c d : ℕ) → y ≡ x + (1 + c) → 1 + c + (x + d) ≤ y + d
  turn_more x y c d e = omega (arith, e)

  less_one : (high : ℕ) → suc high - 1 ≡ high
  less_one high = omega arith

  -- one turn less
  one_turn : (high c : ℕ) → suc high * (1 + c) ≡ (suc high - 1) * (1 + c) + (1 + c)
  one_turn high c =
      subst (λ k. suc high * (1 + c) ≡ k * (1 + c) + (1 + c)) (sym (less_one high))
      (suc-mul high (1 + c))

  loop_once : (c : ℕ) → 1 + c ≤ 0 * (1 + c) + (1 + c)
  loop_once c = omega arith

  no_turn : (c : ℕ) → 1 ≤ 0 * (1 + c) + 1
  no_turn c = omega arith

  turns_step_leaves : (p d low next : ℕ) (high : Option ℕ) → IsRange low high →
      (is_never high || turn_has (tree_of ps p) d) ≡ true →
      Leaves d (turns_cost (turn_cost (tree_of ps p)) low high) (turns_step p next low high)
  turns_step_leaves p d (suc low) next None ok h =
      let c = turn_cost (tree_of ps p) in
      (h, h, turn_more (low * (1 + c)) (suc low * (1 + c)) c (1 + c) (suc-mul low (1 + c)))
  turns_step_leaves p d (suc low) next (Some (suc high)) ok h =
      let c = turn_cost (tree_of ps p) in (
        h,
        or_right (is_never (one_less (Some (suc high)))) (turn_has (tree_of ps p) d) h,
        turn_more ((suc high - 1) * (1 + c)) (suc high * (1 + c)) c 1 (one_turn high c),
      )
  turns_step_leaves p d (suc low) next (Some zero) ok h = absurd (omega (arith, ok))
  turns_step_leaves p d zero next None ok h = (h, loop_once (turn_cost (tree_of ps p)))
  turns_step_leaves p d zero next (Some zero) ok h = no_turn (turn_cost (tree_of ps p))
  turns_step_leaves p d zero next (Some (suc high)) ok h =
      let c = turn_cost (tree_of ps p) in (
        h,
        or_right (is_never (Some high)) (turn_has (tree_of ps p) d) h,
        turn_more (high * (1 + c)) (suc high * (1 + c)) c 1 (suc-mul high (1 + c)),
      )

  -- a condition on a lookaround
  choose_leaves : (p d yes' : ℕ) (no' : Option ℕ) (positive : Bool) (m : parts.Node) →
      node_of ps p ≡ m →
      (all_have (row (map f (ids_of m))) d && (has_fragment (f yes') (suc d)
      && other_has (other_of (trees ps) no') (suc d))) ≡ true →
      Leaves (suc d) (1 + row_cost (row (map f (ids_of m))) + cost (f yes')
      + other_cost (other_of (trees ps) no'))
      (step.Choose (Any p 0) positive (work.Part yes') (option_map work.Part no'))
  unfolding has_fragment cost
  choose_leaves p d yes' None positive m e h =
      let last = other_has (other_of (trees ps) None) (suc d) in
      let x = and_parts (all_have (row (map f (ids_of m))) d) (has_fragment (f yes') (suc d) && last)
      h in
      let y = and_parts (has_fragment (f yes') (suc d)) last x.1 in
      let r = nested_leaves p d m e x.0 in
      let l = r.1 in
      (r.0, y.0, none_more _ _ _ l)
  choose_leaves p d yes' (Some q) positive m e h =
      let last = other_has (other_of (trees ps) (Some q)) (suc d) in
      let x = and_parts (all_have (row (map f (ids_of m))) d) (has_fragment (f yes') (suc d) && last)
      h in
      let y = and_parts (has_fragment (f yes') (suc d)) last x.1 in
      let r = nested_leaves p d m e x.0 in
      let l = r.1 in
      (r.0, y.0, y.1, some_more _ _ _ _ l)

  -- and on a lookbehind
  decide_leaves : (p d yes' : ℕ) (no' : Option ℕ) (positive : Bool) (m : parts.Node) →
      node_of ps p ≡ m →
      (all_have (row (map f (ids_of m))) d && (has_fragment (f yes') (suc d)
      && other_has (other_of (trees ps) no') (suc d))) ≡ true →
      Leaves (suc d) (1 + row_cost (row (map f (ids_of m))) + cost (f yes')
      + other_cost (other_of (trees ps) no'))
      (step.Decide (Behind p 0) positive (work.Part yes') (option_map work.Part no'))
  unfolding has_fragment cost
  decide_leaves p d yes' None positive m e h = choose_leaves p d yes' None positive m e h
  decide_leaves p d yes' (Some q) positive m e h = choose_leaves p d yes' (Some q) positive m e h

  after_leaves : (d yes' n : ℕ) (no' : Option ℕ) (kids : List ℕ) →
      is_test (tree.seq (row (map f kids))) ≡ true →
      test_has (test_of (tree.seq (row (map f kids)))) d (has_fragment (f yes') d)
      (other_has (other_of (trees ps) no') d) ≡ true →
      n ≡ test_cost (test_of (tree.seq (row (map f kids)))) + cost (f yes')
      + other_cost (other_of (trees ps) no') →
      Leaves d n (ask_second (slice_get kids 1) yes' no')
  after_leaves d yes' n no' [] t h e = absurd (no_part t)
  after_leaves d yes' n no' (a ∷ []) t h e = absurd (one_part (f a) t)
  after_leaves d yes' n no' (a ∷ b ∷ ks) t h e =
      let c = called_has (f a) (f b) (row (map f ks)) t d (has_fragment (f yes') d)
      (other_has (other_of (trees ps) no') d) in
      let k = called_cost (f a) (f b) (row (map f ks)) t in
      (sym c ∙ h, one_less_cost _ _ _ _ _ k e)

  ask_leaves : (p d yes' : ℕ) (no' : Option ℕ) (m : parts.Node) → node_of ps p ≡ m →
      is_test (nest (trees ps) m) ≡ true →
      test_has (test_of (nest (trees ps) m)) d (has_fragment (f yes') d)
      (other_has (other_of (trees ps) no') d) ≡ true →
      Leaves d (test_cost (test_of (nest (trees ps) m)) + cost (f yes')
      + other_cost (other_of (trees ps) no')) (ask_step p yes' no' d m)
  unfolding has_fragment cost
  ask_leaves p zero yes' no' (part.Look true positive once branches) e t h =
      absurd (false≢true h)
  ask_leaves p (suc d) yes' no' (part.Look true positive once branches) e t h =
      choose_leaves p d yes' no' positive (part.Look true positive once branches) e h
  ask_leaves p zero yes' no' (part.Look false positive once branches) e t h =
      absurd (false≢true h)
  ask_leaves p (suc d) yes' no' (part.Look false positive once branches) e t h =
      decide_leaves p d yes' no' positive (part.Look false positive once branches) e h
  ask_leaves p d yes' no' (part.Seq kids) e t h = after_leaves d yes' _ no' kids t h refl
  ask_leaves p d yes' no' part.Empty e t h = absurd (false≢true t)
  ask_leaves p d yes' no' (part.One item) e t h = absurd (false≢true t)
  ask_leaves p d yes' no' part.Break e t h = absurd (false≢true t)
  ask_leaves p d yes' no' (part.Group number branches) e t h = absurd (false≢true t)
  ask_leaves p d yes' no' (part.Repeat body min max lazy) e t h = absurd (false≢true t)
  ask_leaves p d yes' no' (part.OneRepeat item min max lazy) e t h = absurd (false≢true t)
  ask_leaves p d yes' no' (part.Atomic branches) e t h = absurd (false≢true t)
  ask_leaves p d yes' no' (part.Cond test y n) e t h = absurd (false≢true t)
  ask_leaves p d yes' no' (part.Call n) e t h = absurd (false≢true t)
  ask_leaves p d yes' no' (part.Ref groups caseless) e t h = absurd (false≢true t)
  ask_leaves p d yes' no' (part.Anchor kind) e t h = absurd (false≢true t)
  ask_leaves p d yes' no' part.KeepOut e t h = absurd (false≢true t)
  ask_leaves p d yes' no' (part.VerbNode v) e t h = absurd (false≢true t)
  ask_leaves p d yes' no' (part.Callout number from to pos len) e t h = absurd (false≢true t)

  pub step_leaves : (classes : ℕ) (backs : List Back) (w : Work) (d next root : ℕ) →
      IsPart ps classes (part_of w) → IsWork ps root w →
      work_has w d ≡ true → Leaves d (work_cost w) (step_of ps backs w d next)
  step_leaves classes backs (work.Part p) d next root k ok h =
      subst (λ t. Leaves d (cost t) (part_step p d next (node_of ps p))) k.is
      (part_leaves p d next (node_of ps p) refl k.is (ap (λ t. has_fragment t d) k.is ∙ h))
  step_leaves classes backs (All p from) d next root k ok h =
      all_leave p d from next (slice_get (ids_of (node_of ps p)) from) refl h
  step_leaves classes backs (Any p from) d next root k ok h =
      any_leave p d from next (slice_get (ids_of (node_of ps p)) from)
      (from + 1 == length (ids_of (node_of ps p))) refl h
  step_leaves classes backs (Turn p) d next root k ok h =
      subst (λ t. Leaves d (turn_cost t) (turn_step next (node_of ps p))) k.is
      (turn_leaves d next (node_of ps p) (ap (λ t. turn_has t d) k.is ∙ h))
  step_leaves classes backs (work.Turns p low high) d next root k ok h =
      turns_step_leaves p d low next high ok.range h
  step_leaves classes backs (Ask p yes' no') d next root k ok h =
      subst (λ t. Leaves d (test_cost (test_of t) + cost (f yes')
      + other_cost (other_of (trees ps) no')) (ask_step p yes' no' d (node_of ps p))) k.is
      (ask_leaves p d yes' no' (node_of ps p) refl (ap is_test k.is ∙ ok.asked.2)
      (ap (λ t. test_has (test_of t) d (has_fragment (f yes') d)
      (other_has (other_of (trees ps) no') d)) k.is ∙ h))
  step_leaves classes backs (Behind p from) d next root k ok h =
      behind_leaves p d from next backs (slice_get (ids_of (node_of ps p)) from) refl h

  -- The tasks that are left.

  abbrev pub tasks_cost : List Task → ℕ
  tasks_cost = sum_of work_cost

  abbrev pub AllHave : List Task → Type 0
  AllHave = AllTasks (λ t. work_has t.work t.depth ≡ true)

  -- all that is left can be done, in so many steps
  abbrev pub Can : ℕ → List Task → Type 0
  Can left ts = AllHave ts × (tasks_cost ts ≤ left)

  can_more : (left n : ℕ) (rest us : List Task) → AllHave rest → tasks_cost rest + n ≤ left →
      AllHave us → 1 + tasks_cost us ≤ n →
      Can (left - 1) (rest ++ us)
  can_more left n rest us h l k m =
      (all_append _ rest us h k, let e = sum_append work_cost rest us in omega (arith, e, l, m))

  one_task : (n a : ℕ) → 1 + a ≤ n → 1 + (a + 0) ≤ n
  one_task n a l = omega (arith, l)

  two_tasks : (n a b : ℕ) → 1 + a + b ≤ n → 1 + (a + (b + 0)) ≤ n
  two_tasks n a b l = omega (arith, l)

  three_tasks : (n a b c : ℕ) → 1 + a + b + c ≤ n → 1 + (b + (c + (a + 0))) ≤ n
  three_tasks n a b c l = omega (arith, l)

  two_turned : (n a b : ℕ) → 1 + a + b ≤ n → 1 + (b + (a + 0)) ≤ n
  two_turned n a b l = omega (arith, l)

  step_can : (left n new : ℕ) (t : Task) (s : Step) (rest : List Task) → Leaves t.depth n s →
      AllHave rest → tasks_cost rest + n ≤ left →
      Can (left - 1) (tasks_after s t new rest)
  unfolding AllTasks sum_of
  step_can left n new t step.Refuse rest k h l = absurd k
  step_can left n new t (step.Write m) rest k h l = (h, omega (arith, k, l))
  step_can left n new t (step.Hand a) rest k h l =
      can_more left n rest (task_in t.depth a t.at t.next ∷ []) h l (k.0, tt)
      (one_task n (work_cost a) k.1)
  step_can left n new t (step.Chain a b) rest k h l =
      can_more left n rest (task_in t.depth a t.at new ∷ task_in t.depth b new t.next ∷ []) h l
      (k.0, (k.1, tt))
      (two_tasks n (work_cost a) (work_cost b) k.2)
  step_can left n new t (step.Loop a) rest k h l =
      can_more left n rest (task_in t.depth a new t.at ∷ []) h l (k.0, tt)
      (one_task n (work_cost a) k.1)
  step_can left n new t (step.Fork a b) rest k h l =
      can_more left n rest
      (task_in t.depth a new t.next ∷ task_in t.depth b (new + 1) t.next ∷ []) h l
      (k.0, (k.1, tt))
      (two_tasks n (work_cost a) (work_cost b) k.2)
  step_can left n new t (step.Skip a b) rest k h l =
      can_more left n rest
      (task_in t.depth a new (new + 1) ∷ task_in t.depth b (new + 1) t.next ∷ []) h l
      (k.0, (k.1, tt))
      (two_tasks n (work_cost a) (work_cost b) k.2)
  step_can left n new t (step.Keep a) rest k h l =
      can_more left n rest (task_in (t.depth - 1) a new 1 ∷ []) h l (k.0, tt)
      (one_task n (work_cost a) k.1)
  step_can left n new t (step.Assert a positive) rest k h l =
      can_more left n rest (task_in (t.depth - 1) a new 1 ∷ []) h l (k.0, tt)
      (one_task n (work_cost a) k.1)
  step_can left n new t (step.Choose a positive b None) rest k h l =
      can_more left n rest
      (task_in t.depth b (new + 1) t.next ∷ task_in (t.depth - 1) a new 1 ∷ []) h l
      (k.1, (k.0, tt))
      (two_turned n (work_cost a) (work_cost b) k.2)
  step_can left n new t (step.Choose a positive b (Some c)) rest k h l =
      can_more left n rest
      (task_in t.depth b (new + 1) t.next ∷ task_in t.depth c (new + 2) t.next
      ∷ task_in (t.depth - 1) a new 1 ∷ []) h l
      (k.1, (k.2, (k.0, tt)))
      (three_tasks n (work_cost a) (work_cost b) (work_cost c) k.3)
  step_can left n new t (step.Seek a positive) rest k h l =
      can_more left n rest (task_in t.depth a t.at (new + 1) ∷ []) h l (k.0, tt)
      (one_task n (work_cost a) k.1)
  step_can left n new t (step.Decide a positive b None) rest k h l =
      can_more left n rest
      (task_in t.depth b (so_at positive new) t.next ∷ task_in t.depth a t.at (new + 1) ∷ []) h l
      (k.1, (k.0, tt))
      (two_turned n (work_cost a) (work_cost b) k.2)
  step_can left n new t (step.Decide a positive b (Some c)) rest k h l =
      can_more left n rest
      (task_in t.depth b (so_at positive new) t.next
      ∷ task_in t.depth c (else_at positive new) t.next
      ∷ task_in t.depth a t.at (new + 1) ∷ []) h l
      (k.1, (k.2, (k.0, tt)))
      (three_tasks n (work_cost a) (work_cost b) (work_cost c) k.3)
  step_can left n new t (step.Reach back a b) rest k h l =
      can_more left n rest
      (task_in t.depth b (new + 1) t.next ∷ task_in (t.depth - 1) a new 1 ∷ []) h l
      (k.1, (k.0, tt))
      (two_turned n (work_cost a) (work_cost b) k.2)

  leaves_some : (d n : ℕ) (s : Step) → Leaves d n s → (is_refused s ≡ false) × (1 ≤ n)
  leaves_some d n step.Refuse k = absurd k
  leaves_some d n (step.Write m) k = (refl, k)
  leaves_some d n (step.Hand a) k = (refl, let m = k.1 in omega (arith, m))
  leaves_some d n (step.Chain a b) k = (refl, let m = k.2 in omega (arith, m))
  leaves_some d n (step.Loop a) k = (refl, let m = k.1 in omega (arith, m))
  leaves_some d n (step.Fork a b) k = (refl, let m = k.2 in omega (arith, m))
  leaves_some d n (step.Skip a b) k = (refl, let m = k.2 in omega (arith, m))
  leaves_some d n (step.Keep a) k = (refl, let m = k.1 in omega (arith, m))
  leaves_some d n (step.Assert a positive) k = (refl, let m = k.1 in omega (arith, m))
  leaves_some d n (step.Choose a positive b None) k = (refl, let m = k.2 in omega (arith, m))
  leaves_some d n (step.Choose a positive b (Some c)) k =
      (refl, let m = k.3 in omega (arith, m))
  leaves_some d n (step.Seek a positive) k = (refl, let m = k.1 in omega (arith, m))
  leaves_some d n (step.Decide a positive b None) k = (refl, let m = k.2 in omega (arith, m))
  leaves_some d n (step.Decide a positive b (Some c)) k =
      (refl, let m = k.3 in omega (arith, m))
  leaves_some d n (step.Reach back a b) k = (refl, let m = k.2 in omega (arith, m))

  -- as the code does a step
  module _ (classes root left : ℕ) (backs : List Back) (ts rest : List Task) (t : Task)
      (can : Can left ts)
      (pop : ts ≡ rest ++ t ∷ []) (ok : IsWork ps root t.work) where
    here : Can left (rest ++ t ∷ [])
    here = subst (Can left) pop can

    top_has : work_has t.work t.depth ≡ true
    unfolding AllTasks
    top_has = let k = all_back _ rest (t ∷ []) here.0 in k.0

    top_cost : tasks_cost rest + work_cost t.work ≤ left
    unfolding sum_of
    top_cost =
        let e : tasks_cost (rest ++ t ∷ []) ≡ tasks_cost rest + (work_cost t.work + 0)
        = sum_append work_cost rest (t ∷ []) in
        let l = here.1 in omega (arith, e, l)

    pub can_step : (s : Step) → IsPart ps classes (part_of t.work) →
        s ≡ step_of ps backs t.work t.depth t.next → (new : ℕ) (ts' : List Task) →
        ts' ≡ tasks_after s t new rest →
        Can (left - 1) ts'
    can_step s part is new ts' e =
        subst (Can (left - 1)) (sym e)
        (step_can left (work_cost t.work) new t s rest
        (subst (Leaves t.depth (work_cost t.work)) (sym is)
        (step_leaves classes backs t.work t.depth t.next root part ok top_has))
        (all_front _ rest (t ∷ []) here.0) top_cost)

    pub not_refused : (s : Step) → IsPart ps classes (part_of t.work) →
        s ≡ step_of ps backs t.work t.depth t.next → is_refused s ≡ false
    not_refused s part is =
        ap is_refused is
        ∙ (leaves_some t.depth (work_cost t.work) (step_of ps backs t.work t.depth t.next)
        (step_leaves classes backs t.work t.depth t.next root part ok top_has)).0

  -- each part costs a step
  cost_some : (t : Nested) → 1 ≤ cost t
  unfolding cost
  cost_some (tree.seq ts) = omega arith
  cost_some (tree.group number ts) = omega arith
  cost_some (tree.repeat body low high lazily) = omega arith
  cost_some (tree.one_repeat item low high lazily) = omega arith
  cost_some (tree.condition test first second) = omega arith
  cost_some tree.empty = omega arith
  cost_some (tree.one item) = omega arith
  cost_some tree.line_break = omega arith
  cost_some (tree.atomic ts) = omega arith
  cost_some (tree.look ahead positive once ts) = omega arith
  cost_some (tree.call n) = omega arith
  cost_some (tree.ref ns caseless) = omega arith
  cost_some (tree.anchor kind) = omega arith
  cost_some tree.keep_out = omega arith
  cost_some (tree.verb v) = omega arith
  cost_some (tree.callout c) = omega arith

  row_some : (ts : Row) → 1 ≤ row_cost ts
  unfolding cost
  row_some tree.none = omega arith
  row_some (tree.more t ts) = omega arith

  turns_some : (c low : ℕ) (high : Option ℕ) → 1 ≤ turns_cost c low high
  turns_some c low None = omega arith
  turns_some c low (Some high) = omega arith

  work_some : (w : Work) → 1 ≤ work_cost w
  work_some (work.Part p) = cost_some (tree_of ps p)
  work_some (All p from) = row_some (row_from ps p from)
  work_some (Any p from) = row_some (row_from ps p from)
  work_some (Turn p) = omega arith
  work_some (work.Turns p low high) = turns_some (turn_cost (tree_of ps p)) low high
  work_some (Ask p yes' no') = let c = cost_some (tree_of ps yes') in omega (arith, c)
  work_some (Behind p from) = row_some (row_from ps p from)

  pub none_left : (left : ℕ) (ts rest : List Task) (t : Task) → Can left ts →
      ts ≡ rest ++ t ∷ [] → left ≡ 0 → ⊥
  unfolding sum_of
  none_left left ts rest t can pop zero_left =
      let k = subst (Can left) pop can in
      let e : tasks_cost (rest ++ t ∷ []) ≡ tasks_cost rest + (work_cost t.work + 0)
      = sum_append work_cost rest (t ∷ []) in
      let l = k.1 in
      let m = work_some t.work in
      omega (arith, e, l, m, zero_left)

  pub first_can : (root : ℕ) (ts : List Task) → ts ≡ task_in most_nested (work.Part root) 0 1 ∷ [] →
      whole_size (tree_of ps root) ≤ 65536 → has_graph (tree_of ps root) ≡ true → Can 349000 ts
  unfolding AllTasks sum_of
  first_can root ts e small has =
      subst (Can 349000) (sym e) (
        (has, tt),
        (let c = cost_of_small (tree_of ps root) small in
            let m : cost (tree_of ps root) + 0 ≤ 349000 = omega (arith, c) in m),
      )
