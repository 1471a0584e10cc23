-- A node's tree is made of its children's trees.
use Rattle.std.proofs.Common.{◌≡◌, ℕ, zero, suc, ◌+◌, ◌<◌, List, [], ◌∷◌, ◌++◌, length, refl, sym, ap, ◌∙◌}
use Rattle.std.proofs.Common.{append_assoc, append-nil, length-append, arith, get_or, All, subst}
use Rattle.std.proofs.lemmas.List.Elements.{All-head, All-tail}
use Rattle.std.proofs.Math.Seq.{get_or-append_seam}
use Rattle.std.proofs.Common.{Option, Some, None}
use Rattle.pat_tree.specs.declared.nodes.Placed.{Placed}
use Rattle.pat_tree.specs.declared.nodes.Cond.{Cond}
use Rattle.pat_tree.specs.declared.nodes.Cond.TheVariants.{AnySet, InCall, InCallOf, Never, Assert}
use Rattle.pat_tree.specs.declared.nodes.Node.{Node}
use Rattle.pat_tree.specs.declared.nodes.Node.TheVariants as node
use Rattle.pat_tree.specs.Nested.{Nested, row, seq, group, atomic, look, repeat, condition, other, test_of, empty}
use Rattle.pat_tree.specs.Nested.{tree_at, cond_of, other_of, nest, trees_after, trees}
use Rattle.pat_tree.specs.Rules.{number_in, tests_of, kids_of}
use Rattle.pat_tree.specs.Growing.{AreBelow}
use Rattle.pat_tree.proofs.Growing.{tree_at_longer, trees_at_longer}

pub below_push : (n : ℕ) (ps : List Placed) (p : Placed) → AreBelow n ps
    → All (λ k. k < n + length ps) (kids_of p.node) → AreBelow n (ps ++ p ∷ [])
below_push n [] p s h = let e : n + 0 ≡ n = omega arith in (subst (λ m. All (λ k. k < m) (kids_of p.node)) e h, tt)
below_push n (q ∷ ps) p s h =
    let e : n + suc (length ps) ≡ (n + 1) + length ps = omega arith in
    (s.0, below_push (n + 1) ps p s.1 (subst (λ m. All (λ k. k < m) (kids_of p.node)) e h))

module _ (ts more : List Nested) where
  Below : List ℕ → Type 0
  Below ks = All (λ k. k < length ts) ks

  other_longer : (k : Option ℕ) → Below (number_in k) → other_of (ts ++ more) k ≡ other_of ts k
  unfolding Below
  other_longer None h = refl
  other_longer (Some k) h = ap other (tree_at_longer ts more k (All-head (λ x. x < length ts) k [] h))

  -- a condition's children: those of its test and then its branches
  test_longer : (test : Cond) (rest : List ℕ) → Below (tests_of test ++ rest)
      → cond_of (ts ++ more) test ≡ cond_of ts test
  unfolding Below
  test_longer (AnySet groups) rest h = refl
  test_longer InCall rest h = refl
  test_longer (InCallOf groups) rest h = refl
  test_longer Never rest h = refl
  test_longer (Assert k) rest h = ap test_of (tree_at_longer ts more k (All-head (λ x. x < length ts) k rest h))

  branches_below : (test : Cond) (rest : List ℕ) → Below (tests_of test ++ rest) → Below rest
  unfolding Below
  branches_below (AnySet groups) rest h = h
  branches_below InCall rest h = h
  branches_below (InCallOf groups) rest h = h
  branches_below Never rest h = h
  branches_below (Assert k) rest h = All-tail (λ x. x < length ts) k rest h

  condition_longer : (test : Cond) (first : ℕ) (second : Option ℕ) → Below (tests_of test ++ first ∷ number_in second) →
      condition (cond_of (ts ++ more) test) (tree_at (ts ++ more) first) (other_of (ts ++ more) second) ≡ condition
      (cond_of ts test) (tree_at ts first) (other_of ts second)
  unfolding Below
  condition_longer test first second h =
      let b = branches_below test (first ∷ number_in second) h in
      let one = tree_at_longer ts more first (All-head (λ x. x < length ts) first (number_in second) b) in
      let two = other_longer second (All-tail (λ x. x < length ts) first (number_in second) b) in
      rw (test_longer test (first ∷ number_in second) h, one, two) refl

nest_longer : (ts more : List Nested) (t : Node) → All (λ k. k < length ts) (kids_of t)
    → nest (ts ++ more) t ≡ nest ts t
unfolding Below
nest_longer ts more node.Empty h = refl
nest_longer ts more (node.One item) h = refl
nest_longer ts more node.Break h = refl
nest_longer ts more (node.Seq kids) h = ap (λ l. seq (row l)) (trees_at_longer ts more kids h)
nest_longer ts more (node.Group number branches) h = ap (λ l. group number (row l)) (trees_at_longer ts more branches h)
nest_longer ts more (node.Repeat body low high lazy) h =
    ap (λ t. repeat t low high lazy) (tree_at_longer ts more body (All-head (λ k. k < length ts) body [] h))
nest_longer ts more (node.OneRepeat item low high lazy) h = refl
nest_longer ts more (node.Atomic branches) h = ap (λ l. atomic (row l)) (trees_at_longer ts more branches h)
nest_longer ts more (node.Look ahead positive once branches) h =
    ap (λ l. look ahead positive once (row l)) (trees_at_longer ts more branches h)
nest_longer ts more (node.Cond test first second) h = condition_longer ts more test first second h
nest_longer ts more (node.Call n) h = refl
nest_longer ts more (node.Ref groups caseless) h = refl
nest_longer ts more (node.Anchor kind) h = refl
nest_longer ts more node.KeepOut h = refl
nest_longer ts more (node.VerbNode v) h = refl
nest_longer ts more (node.Callout number from to at len) h = refl

-- the trees of later nodes come behind
record Extends (before after : List Nested) : Type 0 where
  more : List Nested
  is : after ≡ before ++ more

after_extends : (before : List Nested) (ps : List Placed) → Extends before (trees_after before ps)
unfolding trees_after
after_extends before [] = record { more = []; is = sym (append-nil before) }
after_extends before (p ∷ ps) =
    let e = after_extends (before ++ nest before p.node ∷ []) ps in
    record { more = nest before p.node ∷ e.more; is = e.is ∙ append_assoc before (nest before p.node ∷ []) e.more }

reached : (before : List Nested) (ps : List Placed) (i : ℕ) (p : Placed) → AreBelow (length before) ps → i < length ps
    → p ≡ get_or ps i p →
    (nest (trees_after before ps) p.node ≡ tree_at (trees_after before ps) (length before + i)) × All
    (λ k. k < length before + i) (kids_of p.node)
unfolding trees_after
reached before [] i p s h e = absurd (omega (arith, h))
reached before (q ∷ ps) zero p s h e =
    let x = after_extends (before ++ nest before q.node ∷ []) ps in
    let here : length before + 0 ≡ length before = omega arith in
    let all : trees_after (before ++ nest before q.node ∷ []) ps ≡ before ++ (nest before q.node ∷ x.more) = x.is
    ∙ append_assoc before (nest before q.node ∷ []) x.more in (
      rw (all, here, e) (nest_longer before (nest before q.node ∷ x.more) q.node s.0
          ∙ sym (get_or-append_seam before (nest before q.node) x.more empty)),
      rw (here, e) s.0,
    )
reached before (q ∷ ps) (suc i) p s h e =
    let more = before ++ nest before q.node ∷ [] in
    let n : length before + 1 ≡ length more = omega (arith, length-append before (nest before q.node ∷ [])) in
    let r = reached more ps i p (subst (λ m. AreBelow m ps) n s.1) (omega (arith, h)) e in
    let place : length more + i ≡ length before + suc i = omega (arith, n) in
    (rw (← place) r.0, rw (← place) r.1)

pub reached_node : (ps : List Placed) (i : ℕ) (p : Placed) → AreBelow 0 ps → i < length ps → p ≡ get_or ps i p →
    (nest (trees ps) p.node ≡ tree_at (trees ps) i) × All (λ k. k < i) (kids_of p.node)
unfolding trees
reached_node ps i p s h e =
    let r = reached [] ps i p s h e in
    let place : 0 + i ≡ i = omega arith in
    (rw place at r.0, rw place at r.1)
