-- How many states of a graph take something: at most as many as its tree has nodes with the repeats
-- written out.
use Rattle.std.proofs.Common.{◌≡◌, ◌∙◌, ℕ, zero, suc, ◌+◌, ◌-◌, ◌*◌, ◌≤◌, Bool, true, false, List, [], ◌∷◌, ◌++◌}
use Rattle.std.proofs.Common.{map, length, Option, Some, None, refl, sym, ap, subst, arith}
use Rattle.std.proofs.lemmas.Nat.{mul-le}
use Rattle.std.proofs.lemmas.Bool.{false≢true}
use Rattle.std.specs.Prelude.{◌==◌, slice_get, slice_set, option_map}
use Rattle.pat_tree.specs.declared.nodes.Placed as placed
use Rattle.pat_tree.specs.declared.nodes.Node as parts
use Rattle.pat_tree.specs.declared.nodes.Node.TheVariants as part
use Rattle.pat_tree.specs.declared.nodes.Cond.{Cond}
use Rattle.pat_tree.specs.declared.nodes.Cond.TheVariants as cond
use Rattle.pat_tree.specs.declared.nodes.Verb.{Verb}
use Rattle.pat_tree.specs.declared.nodes.Verb.TheVariants.{Accept, Fail, Commit, Prune, Skip, Then, Mark}
use Rattle.pat_tree.specs.Nested as tree
use Rattle.pat_tree.specs.Nested.{Nested, Row, row, tree_at, nest, trees, cond_of, other_of, test_of}
use Rattle.pat_tree.specs.Rules.{is_test}
use Rattle.pat_check.specs.Size.{copies, whole_size, size_of_all, size_of_test, size_of_other}
use Rattle.pat_lengths.specs.declared.backs.Back.{Back}
use Rattle.dfa_paths.specs.declared.graph.Node.{Node}
use Rattle.dfa_paths.specs.declared.graph.Node.TheVariants.{Split, Goto, Look, Atomic, Dead, Match}
use Rattle.dfa_graph.specs.declared.build.Work.{Work}
use Rattle.dfa_graph.specs.declared.build.Work.TheVariants as work
use Rattle.dfa_graph.specs.declared.build.Work.TheVariants.{All, Any, Turn, Ask, Behind}
use Rattle.dfa_graph.specs.declared.build.Task.{Task}
use Rattle.dfa_graph.specs.declared.build.Step.{Step}
use Rattle.dfa_graph.specs.declared.build.Step.TheVariants as step
use Rattle.dfa_paths.specs.Graph.{takes, count_if, takers}
use Rattle.dfa_graph.specs.Building.{part_of, IsRange, ids_of, part_step, second_step, cond_step, ask_step}
use Rattle.dfa_graph.specs.Building.{ask_second, nested_step, look_node, verb_step, all_step, any_step, turn_step}
use Rattle.dfa_graph.specs.Building.{turns_step, behind_step, so_at, else_at, node_of, step_of, task_in}
use Rattle.dfa_graph.specs.Building.{states_after, tasks_after, tree_of, row_from, IsPart}
use Rattle.dfa_paths.specs.Fragment.{most_nested}
use Rattle.dfa_graph.proofs.Steps.{IsWork}
use Rattle.dfa_graph.proofs.Tasks.{sum_of, sum_append}
use Rattle.dfa_graph.proofs.Costs.{rest_of, first_of}

-- Numbers.

none_most : (n : ℕ) → 0 ≤ n
none_most n = omega arith

one_most : 1 + 0 ≤ 1
one_most = omega arith

same_most : (n : ℕ) → n ≤ n
same_most n = omega arith

first_most : (a b n : ℕ) → n ≡ a + b → a ≤ n
first_most a b n e = omega (arith, e)

both_most : (a b n : ℕ) → n ≡ a + b → a + b ≤ n
both_most a b n e = omega (arith, e)

last_most : (a b c : ℕ) → c ≤ 1 + a + b + c
last_most a b c = omega arith

with_top : (n m : ℕ) → n ≡ m → n ≤ 1 + m
with_top n m e = omega (arith, e)

each_once : (n m : ℕ) → n ≡ m * 1 → n ≤ 1 + m
each_once n m e = omega (arith, e)

loop_more : (low c : ℕ) → c + (low + 1) * c ≤ (suc low + 1) * c
loop_more low c = omega arith

turn_more : (high c : ℕ) → c + high * c ≤ suc high * c
turn_more high c = omega arith

turn_less : (high c : ℕ) → c + (suc high - 1) * c ≤ suc high * c
turn_less high c =
    let e : suc high - 1 ≡ high = omega arith in
    subst (λ k. c + k * c ≤ suc high * c) (sym e) (turn_more high c)

loop_once : (c : ℕ) → c ≤ (0 + 1) * c
loop_once c = omega arith

-- States.

set_first : (a b : Bool) (t : ℕ) → count_if a t ≤ count_if b t + count_if a 0
set_first true true t = let m : 1 + t ≤ (1 + t) + (1 + 0) = omega arith in m
set_first true false t = let m : 1 + t ≤ t + (1 + 0) = omega arith in m
set_first false true t = let m : t ≤ (1 + t) + 0 = omega arith in m
set_first false false t = let m : t ≤ t + 0 = omega arith in m

count_more : (b : Bool) (s t x : ℕ) → s ≤ t + x → count_if b s ≤ count_if b t + x
count_more true s t x l = let m : 1 + s ≤ (1 + t) + x = omega (arith, l) in m
count_more false s t x l = l

count_sum : (b : Bool) (s t x : ℕ) → s ≡ t + x → count_if b s ≡ count_if b t + x
count_sum true s t x e = let m : 1 + s ≡ (1 + t) + x = omega (arith, e) in m
count_sum false s t x e = e

takers_append : (ns ms : List Node) → takers (ns ++ ms) ≡ takers ns + takers ms
unfolding takers
takers_append [] ms = let m : takers ms ≡ 0 + takers ms = omega arith in m
takers_append (n ∷ ns) ms =
    count_sum (takes n) (takers (ns ++ ms)) (takers ns) (takers ms) (takers_append ns ms)

takers_set : (ns : List Node) (at : ℕ) (n : Node) →
    takers (slice_set ns at n) ≤ takers ns + count_if (takes n) 0
unfolding takers
takers_set [] at n = none_most (0 + count_if (takes n) 0)
takers_set (m ∷ ns) zero n = set_first (takes n) (takes m) (takers ns)
takers_set (m ∷ ns) (suc at) n =
    count_more (takes m) (takers (slice_set ns at n)) (takers ns) (count_if (takes n) 0)
    (takers_set ns at n)

none_first : takers (Dead ∷ Match ∷ []) ≡ 0
unfolding takers
none_first = refl

one_none : takers (Dead ∷ []) ≡ 0
unfolding takers
one_none = refl

two_none : takers (Dead ∷ Dead ∷ []) ≡ 0
unfolding takers
two_none = refl

three_none : takers (Dead ∷ Dead ∷ Dead ∷ []) ≡ 0
unfolding takers
three_none = refl

-- what a step writes
abbrev written : Step → ℕ
written (step.Write n) = count_if (takes n) 0
written _ = 0

-- a state that takes nothing is written
plain_states : (nodes more : List Node) (at : ℕ) (n : Node) → takers more ≡ 0 →
    takes n ≡ false → takers (slice_set (nodes ++ more) at n) ≤ takers nodes + 0
plain_states nodes more at n e plain =
    let s : takers (slice_set (nodes ++ more) at n) ≤ takers (nodes ++ more) + count_if (takes n) 0 = takers_set
    (nodes ++ more) at n in
    let t = takers_append nodes more in
    let z : count_if (takes n) 0 ≡ 0 = ap (λ b. count_if b 0) plain in
    omega (arith, s, t, e, z)

looks_plain : (entry a b : ℕ) (positive : Bool) → takes (look_node entry positive a b) ≡ false
looks_plain entry a b true = refl
looks_plain entry a b false = refl

states_hold : (s : Step) (t : Task) (nodes : List Node) →
    takers (states_after s t nodes) ≤ takers nodes + written s
states_hold step.Refuse t nodes = omega arith
states_hold (step.Write n) t nodes = takers_set nodes t.at n
states_hold (step.Hand a) t nodes = omega arith
states_hold (step.Chain a b) t nodes =
    let e = takers_append nodes (Dead ∷ []) in
    let z = one_none in
    let m : takers (nodes ++ Dead ∷ []) ≤ takers nodes + 0 = omega (arith, e, z) in m
states_hold (step.Loop a) t nodes =
    plain_states nodes (Dead ∷ []) t.at (Split (length nodes) t.next) one_none refl
states_hold (step.Fork a b) t nodes =
    plain_states nodes (Dead ∷ Dead ∷ []) t.at (Split (length nodes) (length nodes + 1)) two_none
    refl
states_hold (step.Skip a b) t nodes =
    plain_states nodes (Dead ∷ Dead ∷ []) t.at (Split (length nodes) t.next) two_none refl
states_hold (step.Keep a) t nodes =
    plain_states nodes (Dead ∷ []) t.at (Atomic (length nodes) t.next) one_none refl
states_hold (step.Assert a positive) t nodes =
    plain_states nodes (Dead ∷ Dead ∷ []) t.at
    (look_node (length nodes) positive t.next (length nodes + 1)) two_none
    (looks_plain _ _ _ positive)
states_hold (step.Choose a positive b None) t nodes =
    plain_states nodes (Dead ∷ Dead ∷ []) t.at
    (look_node (length nodes) positive (length nodes + 1) t.next) two_none
    (looks_plain _ _ _ positive)
states_hold (step.Choose a positive b (Some c)) t nodes =
    plain_states nodes (Dead ∷ Dead ∷ Dead ∷ []) t.at
    (look_node (length nodes) positive (length nodes + 1) (length nodes + 2)) three_none
    (looks_plain _ _ _ positive)
states_hold (step.Seek a positive) t nodes =
    plain_states nodes (Dead ∷ Dead ∷ []) (so_at positive (length nodes)) (Goto t.next) two_none
    refl
states_hold (step.Decide a positive b None) t nodes =
    plain_states nodes (Dead ∷ Dead ∷ []) (else_at positive (length nodes)) (Goto t.next) two_none
    refl
states_hold (step.Decide a positive b (Some c)) t nodes =
    let e = takers_append nodes (Dead ∷ Dead ∷ []) in
    let z = two_none in
    let m : takers (nodes ++ Dead ∷ Dead ∷ []) ≤ takers nodes + 0 = omega (arith, e, z) in m
states_hold (step.Reach back a b) t nodes =
    plain_states nodes (Dead ∷ Dead ∷ []) t.at (Look (Some back) (length nodes) t.next (length nodes + 1))
    two_none refl

-- Works.

abbrev turn_size : Nested → ℕ
turn_size (tree.repeat body low high lazily) = whole_size body
turn_size (tree.one_repeat item low high lazily) = 1
turn_size _ = 0

called_size : (x y : Nested) (r : Row) → is_test (tree.seq (tree.more x (tree.more y r))) ≡ true →
    size_of_test (test_of (tree.seq (tree.more x (tree.more y r)))) ≡ 2 + size_of_test (test_of y)
unfolding whole_size
called_size (tree.callout c) (tree.look ahead positive once ts) tree.none t = refl
called_size _ _ _ t = absurd (false≢true t)

two_less : (n all test a b : ℕ) → all ≡ 2 + test → n ≡ all + a + b → test + a + b ≤ n
two_less n all test a b e k = omega (arith, e, k)

but_one : (a b c : ℕ) → a + b + c ≤ 1 + a + b + c
but_one a b c = omega arith

none_more : (x y a : ℕ) → x ≤ 1 + y → x + a ≤ 1 + y + a + 0
none_more x y a l = omega (arith, l)

some_more : (x y a b : ℕ) → x ≤ 1 + y → x + a + b ≤ 1 + y + a + b
some_more x y a b l = omega (arith, l)

module _ (ps : List placed.Placed) where
  abbrev f : ℕ → Nested
  f = tree_at (trees ps)

  -- how many states that take something a work makes at most
  abbrev work_size : Work → ℕ
  work_size (work.Part p) = whole_size (tree_of ps p)
  work_size (All p from) = size_of_all (row_from ps p from)
  work_size (Any p from) = size_of_all (row_from ps p from)
  work_size (Turn p) = turn_size (tree_of ps p)
  work_size (work.Turns p low high) = copies low high * turn_size (tree_of ps p)
  work_size (Ask p yes' no') =
      size_of_test (test_of (tree_of ps p)) + whole_size (tree_of ps yes')
      + size_of_other (other_of (trees ps) no')
  work_size (Behind p from) = size_of_all (row_from ps p from)

  -- a step that makes at most so many
  abbrev Holds : ℕ → Step → Type 0
  Holds n step.Refuse = Unit {0}
  Holds n (step.Write m) = count_if (takes m) 0 ≤ n
  Holds n (step.Hand a) = work_size a ≤ n
  Holds n (step.Chain a b) = work_size a + work_size b ≤ n
  Holds n (step.Loop a) = work_size a ≤ n
  Holds n (step.Fork a b) = work_size a + work_size b ≤ n
  Holds n (step.Skip a b) = work_size a + work_size b ≤ n
  Holds n (step.Keep a) = work_size a ≤ n
  Holds n (step.Assert a positive) = work_size a ≤ n
  Holds n (step.Choose a positive b None) = work_size a + work_size b ≤ n
  Holds n (step.Choose a positive b (Some c)) = work_size a + work_size b + work_size c ≤ n
  Holds n (step.Seek a positive) = work_size a ≤ n
  Holds n (step.Decide a positive b None) = work_size a + work_size b ≤ n
  Holds n (step.Decide a positive b (Some c)) = work_size a + work_size b + work_size c ≤ n
  Holds n (step.Reach back a b) = work_size a + work_size b ≤ n

  second_holds : (next a b : ℕ) (no' : Option ℕ) →
      Holds (1 + a + b + size_of_other (other_of (trees ps) no')) (second_step next no')
  unfolding whole_size
  second_holds next a b None = none_most _
  second_holds next a b (Some q) = last_most a b (whole_size (tree_of ps q))

  cond_holds : (next yes' : ℕ) (test : Cond) (no' : Option ℕ) →
      Holds (1 + size_of_test (cond_of (trees ps) test) + whole_size (f yes')
      + size_of_other (other_of (trees ps) no')) (cond_step next test yes' no')
  cond_holds next yes' cond.Never no' = second_holds next _ _ no'
  cond_holds next yes' cond.InCall no' = second_holds next _ _ no'
  cond_holds next yes' (cond.AnySet groups) no' = tt
  cond_holds next yes' (cond.InCallOf groups) no' = tt
  cond_holds next yes' (cond.Assert k) no' = but_one _ _ _

  nested_holds : (n d : ℕ) (s : Step) → Holds n s → Holds n (nested_step d s)
  nested_holds n zero s h = tt
  nested_holds n (suc d) s h = h

  verb_holds : (v : Verb) → Holds 1 (verb_step v)
  verb_holds (Fail name) = none_most 1
  verb_holds (Accept name) = tt
  verb_holds (Commit name) = tt
  verb_holds (Prune name) = tt
  verb_holds (Skip name) = tt
  verb_holds (Then name) = tt
  verb_holds (Mark name) = tt

  row_holds : (p : ℕ) (m : parts.Node) → node_of ps p ≡ m →
      size_of_all (row_from ps p 0) ≤ 1 + size_of_all (row (map f (ids_of m)))
  row_holds p m e =
      let same : row_from ps p 0 ≡ row (map f (ids_of m)) = ap (λ k. row (map f (ids_of k))) e in
      with_top _ _ (ap size_of_all same)

  part_holds : (p d next : ℕ) (m : parts.Node) → node_of ps p ≡ m →
      nest (trees ps) m ≡ tree_of ps p →
      Holds (whole_size (nest (trees ps) m)) (part_step p d next m)
  unfolding whole_size
  part_holds p d next part.Empty e is = none_most 1
  part_holds p d next (part.One item) e is = one_most
  part_holds p d next part.Break e is = one_most
  part_holds p d next (part.Seq kids) e is = row_holds p (part.Seq kids) e
  part_holds p d next (part.Group number branches) e is =
      row_holds p (part.Group number branches) e
  part_holds p d next (part.Repeat body min max lazy) e is =
      with_top _ _ (ap (λ t. copies min max * turn_size t) (sym is))
  part_holds p d next (part.OneRepeat item min max lazy) e is =
      each_once _ _ (ap (λ t. copies min max * turn_size t) (sym is))
  part_holds p d next (part.Atomic branches) e is =
      nested_holds _ d (step.Keep (Any p 0)) (row_holds p (part.Atomic branches) e)
  part_holds p d next (part.Look true positive once branches) e is =
      nested_holds _ d (step.Assert (Any p 0) positive)
      (row_holds p (part.Look true positive once branches) e)
  part_holds p d next (part.Look false positive once branches) e is =
      nested_holds _ d (step.Seek (Behind p 0) positive)
      (row_holds p (part.Look false positive once branches) e)
  part_holds p d next (part.Cond test yes' no') e is = cond_holds next yes' test no'
  part_holds p d next (part.Call n) e is = tt
  part_holds p d next (part.Ref groups caseless) e is = tt
  part_holds p d next (part.Anchor kind) e is = none_most 1
  part_holds p d next part.KeepOut e is = tt
  part_holds p d next (part.VerbNode v) e is = verb_holds v
  part_holds p d next (part.Callout number from to pos len) e is = none_most 1

  first_sizes : (p from k : ℕ) → slice_get (ids_of (node_of ps p)) from ≡ Some k →
      size_of_all (row_from ps p from) ≡ whole_size (f k) + size_of_all (rest_of ps p from)
  unfolding whole_size
  first_sizes p from k e = ap size_of_all (first_of ps p from k e)

  all_holds : (p from next : ℕ) (o : Option ℕ) → slice_get (ids_of (node_of ps p)) from ≡ o →
      Holds (size_of_all (row_from ps p from)) (all_step p from next o)
  all_holds p from next None e = none_most _
  all_holds p from next (Some k) e = both_most _ _ _ (first_sizes p from k e)

  any_holds : (p from next : ℕ) (o : Option ℕ) (last : Bool) →
      slice_get (ids_of (node_of ps p)) from ≡ o →
      Holds (size_of_all (row_from ps p from)) (any_step p from o last)
  any_holds p from next None last e = none_most _
  any_holds p from next (Some k) true e =
      first_most _ (size_of_all (rest_of ps p from)) _ (first_sizes p from k e)
  any_holds p from next (Some k) false e = both_most _ _ _ (first_sizes p from k e)

  behind_holds : (p from next : ℕ) (backs : List Back) (o : Option ℕ) →
      slice_get (ids_of (node_of ps p)) from ≡ o →
      Holds (size_of_all (row_from ps p from)) (behind_step backs p from next o)
  behind_holds p from next backs None e = none_most _
  behind_holds p from next backs (Some k) e = both_most _ _ _ (first_sizes p from k e)

  turn_holds : (next : ℕ) (m : parts.Node) →
      Holds (turn_size (nest (trees ps) m)) (turn_step next m)
  turn_holds next (part.Repeat body min max lazy) = same_most _
  turn_holds next (part.OneRepeat item min max lazy) = one_most
  turn_holds next part.Empty = tt
  turn_holds next (part.One item) = tt
  turn_holds next part.Break = tt
  turn_holds next (part.Seq kids) = tt
  turn_holds next (part.Group number branches) = tt
  turn_holds next (part.Atomic branches) = tt
  turn_holds next (part.Look ahead positive once branches) = tt
  turn_holds next (part.Cond test yes' no') = tt
  turn_holds next (part.Call n) = tt
  turn_holds next (part.Ref groups caseless) = tt
  turn_holds next (part.Anchor kind) = tt
  turn_holds next part.KeepOut = tt
  turn_holds next (part.VerbNode v) = tt
  turn_holds next (part.Callout number from to pos len) = tt

  turns_hold : (p low next : ℕ) (high : Option ℕ) → IsRange low high →
      Holds (copies low high * turn_size (tree_of ps p)) (turns_step p next low high)
  turns_hold p (suc low) next None ok = loop_more low (turn_size (tree_of ps p))
  turns_hold p (suc low) next (Some (suc high)) ok = turn_less high (turn_size (tree_of ps p))
  turns_hold p (suc low) next (Some zero) ok = absurd (omega (arith, ok))
  turns_hold p zero next None ok = loop_once (turn_size (tree_of ps p))
  turns_hold p zero next (Some zero) ok = none_most _
  turns_hold p zero next (Some (suc high)) ok = turn_more high (turn_size (tree_of ps p))

  -- a condition on a lookahead, and on a lookbehind
  decided_holds : (p yes' : ℕ) (no' : Option ℕ) (positive : Bool) (m : parts.Node) →
      node_of ps p ≡ m →
      let n = 1 + size_of_all (row (map f (ids_of m))) + whole_size (f yes')
      + size_of_other (other_of (trees ps) no') in
      Holds n (step.Choose (Any p 0) positive (work.Part yes') (option_map work.Part no'))
      × Holds n (step.Decide (Behind p 0) positive (work.Part yes') (option_map work.Part no'))
  unfolding whole_size
  decided_holds p yes' None positive m e =
      let l = none_more _ _ _ (row_holds p m e) in (l, l)
  decided_holds p yes' (Some q) positive m e =
      let l = some_more _ _ _ _ (row_holds p m e) in (l, l)

  after_holds : (yes' n : ℕ) (no' : Option ℕ) (kids : List ℕ) →
      is_test (tree.seq (row (map f kids))) ≡ true →
      n ≡ size_of_test (test_of (tree.seq (row (map f kids)))) + whole_size (f yes')
      + size_of_other (other_of (trees ps) no') →
      Holds n (ask_second (slice_get kids 1) yes' no')
  after_holds yes' n no' [] t e = tt
  after_holds yes' n no' (a ∷ []) t e = tt
  after_holds yes' n no' (a ∷ b ∷ ks) t e =
      two_less _ _ _ _ _ (called_size (f a) (f b) (row (map f ks)) t) e

  ask_holds : (p d yes' : ℕ) (no' : Option ℕ) (m : parts.Node) → node_of ps p ≡ m →
      is_test (nest (trees ps) m) ≡ true →
      Holds (size_of_test (test_of (nest (trees ps) m)) + whole_size (f yes')
      + size_of_other (other_of (trees ps) no')) (ask_step p yes' no' d m)
  unfolding whole_size
  ask_holds p d yes' no' (part.Look true positive once branches) e t =
      nested_holds _ d (step.Choose (Any p 0) positive (work.Part yes') (option_map work.Part no'))
      (decided_holds p yes' no' positive (part.Look true positive once branches) e).0
  ask_holds p d yes' no' (part.Look false positive once branches) e t =
      nested_holds _ d
      (step.Decide (Behind p 0) positive (work.Part yes') (option_map work.Part no'))
      (decided_holds p yes' no' positive (part.Look false positive once branches) e).1
  ask_holds p d yes' no' (part.Seq kids) e t = after_holds yes' _ no' kids t refl
  ask_holds p d yes' no' part.Empty e t = tt
  ask_holds p d yes' no' (part.One item) e t = tt
  ask_holds p d yes' no' part.Break e t = tt
  ask_holds p d yes' no' (part.Group number branches) e t = tt
  ask_holds p d yes' no' (part.Repeat body min max lazy) e t = tt
  ask_holds p d yes' no' (part.OneRepeat item min max lazy) e t = tt
  ask_holds p d yes' no' (part.Atomic branches) e t = tt
  ask_holds p d yes' no' (part.Cond test y n) e t = tt
  ask_holds p d yes' no' (part.Call n) e t = tt
  ask_holds p d yes' no' (part.Ref groups caseless) e t = tt
  ask_holds p d yes' no' (part.Anchor kind) e t = tt
  ask_holds p d yes' no' part.KeepOut e t = tt
  ask_holds p d yes' no' (part.VerbNode v) e t = tt
  ask_holds p d yes' no' (part.Callout number from to pos len) e t = tt

  step_holds : (classes : ℕ) (backs : List Back) (w : Work) (d next root : ℕ) →
      IsPart ps classes (part_of w) → IsWork ps root w →
      Holds (work_size w) (step_of ps backs w d next)
  step_holds classes backs (work.Part p) d next root k ok =
      subst (λ t. Holds (whole_size t) (part_step p d next (node_of ps p))) k.is
      (part_holds p d next (node_of ps p) refl k.is)
  step_holds classes backs (All p from) d next root k ok =
      all_holds p from next (slice_get (ids_of (node_of ps p)) from) refl
  step_holds classes backs (Any p from) d next root k ok =
      any_holds p from next (slice_get (ids_of (node_of ps p)) from)
      (from + 1 == length (ids_of (node_of ps p))) refl
  step_holds classes backs (Turn p) d next root k ok =
      subst (λ t. Holds (turn_size t) (turn_step next (node_of ps p))) k.is
      (turn_holds next (node_of ps p))
  step_holds classes backs (work.Turns p low high) d next root k ok =
      turns_hold p low next high ok.range
  step_holds classes backs (Ask p yes' no') d next root k ok =
      subst (λ t. Holds (size_of_test (test_of t) + whole_size (f yes')
      + size_of_other (other_of (trees ps) no')) (ask_step p yes' no' d (node_of ps p))) k.is
      (ask_holds p d yes' no' (node_of ps p) refl (ap is_test k.is ∙ ok.asked.2))
  step_holds classes backs (Behind p from) d next root k ok =
      behind_holds p from next backs (slice_get (ids_of (node_of ps p)) from) refl

  -- The tasks that are left.

  abbrev pub tasks_size : List Task → ℕ
  tasks_size = sum_of work_size

  one_size : (rest : List Task) (d : ℕ) (a : Work) (at next : ℕ) →
      tasks_size (rest ++ task_in d a at next ∷ []) ≡ tasks_size rest + (work_size a + 0)
  unfolding sum_of
  one_size rest d a at next = sum_append work_size rest (task_in d a at next ∷ [])

  two_sizes : (rest : List Task) (d d' : ℕ) (a b : Work) (at next at' next' : ℕ) →
      tasks_size (rest ++ task_in d a at next ∷ task_in d' b at' next' ∷ [])
      ≡ tasks_size rest + (work_size a + (work_size b + 0))
  unfolding sum_of
  two_sizes rest d d' a b at next at' next' =
      sum_append work_size rest (task_in d a at next ∷ task_in d' b at' next' ∷ [])

  three_sizes : (rest : List Task) (d d' d'' : ℕ) (a b c : Work)
      (at next at' next' at'' next'' : ℕ) →
      tasks_size (rest ++ task_in d a at next ∷ task_in d' b at' next'
      ∷ task_in d'' c at'' next'' ∷ [])
      ≡ tasks_size rest + (work_size a + (work_size b + (work_size c + 0)))
  unfolding sum_of
  three_sizes rest d d' d'' a b c at next at' next' at'' next'' =
      sum_append work_size rest (task_in d a at next ∷ task_in d' b at' next'
      ∷ task_in d'' c at'' next'' ∷ [])

  -- what is made, and what the tasks still make, is at most so much
  abbrev pub IsBounded : ℕ → List Node → List Task → Type 0
  IsBounded n nodes ts = takers nodes + tasks_size ts ≤ n

  sum_one : (n a r x : ℕ) → x ≡ r + (a + 0) → a ≤ n → 0 + x ≤ r + n
  sum_one n a r x e h = omega (arith, e, h)

  sum_two : (n a b r x : ℕ) → x ≡ r + (a + (b + 0)) → a + b ≤ n → 0 + x ≤ r + n
  sum_two n a b r x e h = omega (arith, e, h)

  sum_turned : (n a b r x : ℕ) → x ≡ r + (b + (a + 0)) → a + b ≤ n → 0 + x ≤ r + n
  sum_turned n a b r x e h = omega (arith, e, h)

  sum_three : (n a b c r x : ℕ) → x ≡ r + (b + (c + (a + 0))) → a + b + c ≤ n → 0 + x ≤ r + n
  sum_three n a b c r x e h = omega (arith, e, h)

  tasks_hold : (n new : ℕ) (t : Task) (s : Step) (rest : List Task) → Holds n s →
      written s + tasks_size (tasks_after s t new rest) ≤ tasks_size rest + n
  tasks_hold n new t step.Refuse rest h = omega arith
  tasks_hold n new t (step.Write m) rest h = omega (arith, h)
  tasks_hold n new t (step.Hand a) rest h =
      sum_one n _ _ _ (one_size rest t.depth a t.at t.next) h
  tasks_hold n new t (step.Chain a b) rest h =
      sum_two n _ _ _ _ (two_sizes rest t.depth t.depth a b t.at new new t.next) h
  tasks_hold n new t (step.Loop a) rest h =
      sum_one n _ _ _ (one_size rest t.depth a new t.at) h
  tasks_hold n new t (step.Fork a b) rest h =
      sum_two n _ _ _ _ (two_sizes rest t.depth t.depth a b new t.next (new + 1) t.next) h
  tasks_hold n new t (step.Skip a b) rest h =
      sum_two n _ _ _ _ (two_sizes rest t.depth t.depth a b new (new + 1) (new + 1) t.next) h
  tasks_hold n new t (step.Keep a) rest h =
      sum_one n _ _ _ (one_size rest (t.depth - 1) a new 1) h
  tasks_hold n new t (step.Assert a positive) rest h =
      sum_one n _ _ _ (one_size rest (t.depth - 1) a new 1) h
  tasks_hold n new t (step.Choose a positive b None) rest h =
      sum_turned n (work_size a) (work_size b) _ _
      (two_sizes rest t.depth (t.depth - 1) b a (new + 1) t.next new 1) h
  tasks_hold n new t (step.Choose a positive b (Some c)) rest h =
      sum_three n (work_size a) (work_size b) (work_size c) _ _
      (three_sizes rest t.depth t.depth (t.depth - 1) b c a (new + 1) t.next (new + 2) t.next new 1)
      h
  tasks_hold n new t (step.Seek a positive) rest h =
      sum_one n _ _ _ (one_size rest t.depth a t.at (new + 1)) h
  tasks_hold n new t (step.Decide a positive b None) rest h =
      sum_turned n (work_size a) (work_size b) _ _
      (two_sizes rest t.depth t.depth b a (so_at positive new) t.next t.at (new + 1)) h
  tasks_hold n new t (step.Decide a positive b (Some c)) rest h =
      sum_three n (work_size a) (work_size b) (work_size c) _ _
      (three_sizes rest t.depth t.depth t.depth b c a (so_at positive new) t.next
      (else_at positive new) t.next t.at (new + 1)) h
  tasks_hold n new t (step.Reach back a b) rest h =
      sum_turned n (work_size a) (work_size b) _ _
      (two_sizes rest t.depth (t.depth - 1) b a (new + 1) t.next new 1) h

  pub first_bounded : (root : ℕ) (nodes : List Node) (ts : List Task) →
      nodes ≡ Dead ∷ Match ∷ [] → ts ≡ task_in most_nested (work.Part root) 0 1 ∷ [] →
      IsBounded (whole_size (tree_of ps root)) nodes ts
  unfolding sum_of
  first_bounded root nodes ts en et =
      let n = ap takers en ∙ none_first in
      let e : tasks_size ts ≡ whole_size (tree_of ps root) + 0 = ap tasks_size et in
      omega (arith, n, e)

  -- as the code does a step
  pub bounded_step : (classes root n : ℕ) (backs : List Back) (nodes nodes' : List Node)
      (ts rest ts' : List Task)
      (t : Task) (s : Step) →
      IsBounded n nodes ts → ts ≡ rest ++ t ∷ [] → IsWork ps root t.work →
      IsPart ps classes (part_of t.work) → s ≡ step_of ps backs t.work t.depth t.next →
      nodes' ≡ states_after s t nodes →
      ts' ≡ tasks_after s t (length nodes) rest → IsBounded n nodes' ts'
  unfolding sum_of
  bounded_step classes root n backs nodes nodes' ts rest ts' t s h pop ok part is en et =
      let holds = subst (Holds (work_size t.work)) (sym is)
      (step_holds classes backs t.work t.depth t.next root part ok) in
      let left = tasks_hold (work_size t.work) (length nodes) t s rest holds in
      let made = states_hold s t nodes in
      let size : tasks_size ts ≡ tasks_size rest + (work_size t.work + 0) = ap tasks_size pop
      ∙ sum_append work_size rest (t ∷ []) in
      let en' = ap takers en in
      let et' = ap tasks_size et in
      omega (arith, h, left, made, size, en', et')

  pub all_bounded : (n : ℕ) (nodes : List Node) (ts : List Task) → IsBounded n nodes ts → ts ≡ [] →
      takers nodes ≤ n
  unfolding sum_of
  all_bounded n nodes ts h e =
      let z : tasks_size ts ≡ 0 = ap tasks_size e in omega (arith, h, z)

-- a bound by the states that take something is one by the nodes of the tree
pub by_size : (takers' size' k old tests : ℕ) → takers' ≤ size' → tests ≤ old + takers' * k →
    tests ≤ old + size' * k
by_size takers' size' k old tests l t =
    let m = mul-le takers' k size' k l (same_most k) in omega (arith, t, m)
