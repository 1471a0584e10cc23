-- A tree whose atomic groups and lookarounds stand at most so deep in each other as the forms of a graph may has a graph
-- where all of it is supported.
use Rattle.std.proofs.Common.{◌≡◌, ℕ, zero, suc, ◌≤◌, Bool, true, false, ◌&&◌, ◌||◌, List, []}
use Rattle.std.proofs.Common.{◌∷◌, ◌++◌, map, Option, Some, None, refl, ap, ◌∙◌, arith}
use Rattle.std.specs.List.{AllByRecursion}
use Rattle.pat_tree.specs.declared.nodes.Node.{Node}
use Rattle.pat_tree.specs.declared.nodes.Node.TheVariants as node
use Rattle.pat_tree.specs.declared.nodes.Cond.{Cond}
use Rattle.pat_tree.specs.declared.nodes.Cond.TheVariants.{AnySet, InCall, InCallOf, Never, Assert}
use Rattle.pat_tree.specs.declared.nodes.Placed.{Placed}
use Rattle.pat_tree.specs.declared.nodes.Verb.{Verb}
use Rattle.pat_tree.specs.declared.nodes.Verb.TheVariants.{Fail}
use Rattle.pat_tree.specs.Nested.{Nested, Row, look, seq, callout, none, more, row, tree_at}
use Rattle.pat_tree.specs.Nested.{other_of, cond_of, test_of, nest, trees_after, trees}
use Rattle.pat_lengths.specs.Nodes.{nodes, nodes_in, nodes_of_test, nodes_of_other, all_nodes}
use Rattle.pat_check.specs.Support.{node_support, test_support, or_later, support_of_all, dfa_support}
use Rattle.pat_check.specs.declared.support.DfaSupport.{DfaSupport}
use Rattle.pat_check.specs.declared.support.DfaSupport.TheVariants.{Yes, Item, Cond as OnGroup}
use Rattle.pat_grammar.specs.Nesting.{nesting, nesting_of_row, nesting_of_test, nesting_of_other}
use Rattle.dfa_graph.specs.Served.{has_fragment, all_have, test_has, other_has}

-- What is supported.

both_yes : (a b : DfaSupport) → or_later a b ≡ Yes → (a ≡ Yes) × (b ≡ Yes)
both_yes Yes b h = (refl, h)
both_yes Item b h = absurd cc
both_yes OnGroup b h = absurd cc

parts_yes : (xs ys : List Nested) → support_of_all (xs ++ ys) ≡ Yes
    → (support_of_all xs ≡ Yes) × (support_of_all ys ≡ Yes)
parts_yes [] ys h = (refl, h)
parts_yes (x ∷ xs) ys h =
    let first = both_yes (node_support x) (support_of_all (xs ++ ys)) h in
    let rest = parts_yes xs ys first.1 in
    (ap (λ s. or_later s (support_of_all xs)) first.0 ∙ rest.0, rest.1)

alone_yes : (xs : List Nested) → support_of_all xs ≡ Yes → support_of_all (xs ++ []) ≡ Yes
alone_yes [] h = refl
alone_yes (x ∷ xs) h =
    let here = both_yes (node_support x) (support_of_all xs) h in
    ap (λ s. or_later s (support_of_all (xs ++ []))) here.0 ∙ alone_yes xs here.1

both_true : (a b : Bool) → a ≡ true → b ≡ true → (a && b) ≡ true
both_true true b h k = k
both_true false b h k = h

first_true : (a b : Bool) → (a && b) ≡ true → a ≡ true
first_true true b h = refl
first_true false b h = h

either_true : (a b : Bool) → b ≡ true → (a || b) ≡ true
either_true true b h = refl
either_true false b h = h

-- A tree has a graph in which so many levels may be nested as it nests.

abbrev Has : Nested → Type 0
Has t = (d : ℕ) → nesting t ≤ d → dfa_support t ≡ Yes → has_fragment t d ≡ true

module _ (before : List Nested) (each : AllByRecursion Has before) where
  one_has : (ts : List Nested) → AllByRecursion Has ts → (k : ℕ) → Has (tree_at ts k)
  unfolding has_fragment
  one_has [] h k = λ d n s. refl
  one_has (t ∷ ts) h zero = h.0
  one_has (t ∷ ts) h (suc k) = one_has ts h.1 k

  rows_have : (ks : List ℕ) (d : ℕ) → nesting_of_row (row (map (tree_at before) ks)) ≤ d
      → support_of_all (nodes_in true (row (map (tree_at before) ks))) ≡ Yes
      → all_have (row (map (tree_at before) ks)) d ≡ true
  unfolding nesting_of_row nodes_in all_have
  rows_have [] d n s = refl
  rows_have (k ∷ ks) d n s =
      let t = tree_at before k in
      let ts = row (map (tree_at before) ks) in
      let yes = parts_yes (all_nodes t) (nodes_in true ts) s in
      both_true (has_fragment t d) (all_have ts d) (one_has before each k d (omega arith) yes.0)
      (rows_have ks d (omega arith) yes.1)

  -- a lookaround that is a test
  asked_has : (ahead positive once : Bool) (ts : Row) → Has (look ahead positive once ts) → (d : ℕ)
      → suc (nesting_of_row ts) ≤ d
      → support_of_all (all_nodes (look ahead positive once ts)) ≡ Yes → (first second : Bool) → first ≡ true
      → second ≡ true → test_has (test_of (look ahead positive once ts)) d first second ≡ true
  unfolding nesting has_fragment test_has
  asked_has ahead positive once ts h zero n s first second f g = absurd (omega arith)
  asked_has ahead positive once ts h (suc d) n s first second f g =
      both_true (all_have ts d) (first && second) (h (suc d) n s) (both_true first second f g)

  test_has_all : (t : Nested) → Has t → (d : ℕ) → nesting_of_test (test_of t) ≤ d
      → support_of_all (nodes_of_test true (test_of t)) ≡ Yes → (first second : Bool) → first ≡ true
      → second ≡ true → test_has (test_of t) d first second ≡ true
  unfolding nesting nesting_of_row nesting_of_test nodes nodes_in nodes_of_test has_fragment all_have test_has
  test_has_all (look ahead positive once ts) h d n s first second f g =
      asked_has ahead positive once ts h d n s first second f g
  test_has_all (seq (more (callout c) (more (look ahead positive once ts) none))) h d n s first second f g =
      asked_has ahead positive once ts
      (λ e least yes. first_true (has_fragment (look ahead positive once ts) e) true
      (h e (omega arith) (alone_yes (all_nodes (look ahead positive once ts)) yes)))
      d n s first second f g
  test_has_all _ h d n s first second f g = g

  cond_has : (c : Cond) (d : ℕ) → nesting_of_test (cond_of before c) ≤ d → test_support (cond_of before c) ≡ Yes
      → support_of_all (nodes_of_test true (cond_of before c)) ≡ Yes → (first second : Bool) → first ≡ true
      → second ≡ true → test_has (cond_of before c) d first second ≡ true
  unfolding test_has
  cond_has (AnySet ns) d n t s first second f g = absurd cc
  cond_has InCall d n t s first second f g = g
  cond_has (InCallOf ns) d n t s first second f g = absurd cc
  cond_has Never d n t s first second f g = g
  cond_has (Assert k) d n t s first second f g =
      test_has_all (tree_at before k) (one_has before each k) d n s first second f g

  other_has_all : (o : Option ℕ) (d : ℕ) → nesting_of_other (other_of before o) ≤ d
      → support_of_all (nodes_of_other true (other_of before o)) ≡ Yes → other_has (other_of before o) d ≡ true
  unfolding nesting_of_other nodes_of_other other_has
  other_has_all None d n s = refl
  other_has_all (Some k) d n s = one_has before each k d n s

  verb_has : (v : Verb) → Has (nest before (node.VerbNode v))
  unfolding nodes has_fragment
  verb_has (Fail name) d n s = refl
  verb_has _ d n s = absurd cc

  node_has : (n : Node) → Has (nest before n)
  unfolding nesting nodes has_fragment
  node_has node.Empty d n s = refl
  node_has (node.One item) d n s = refl
  node_has node.Break d n s = refl
  node_has (node.Seq kids) d n s = rows_have kids d n s
  node_has (node.Group number branches) d n s = rows_have branches d n s
  node_has (node.Repeat body low high lazily) d n s = either_true _ _ (one_has before each body d n s)
  node_has (node.OneRepeat item low high lazily) d n s = refl
  node_has (node.Atomic branches) zero n s = absurd (omega arith)
  node_has (node.Atomic branches) (suc d) n s = rows_have branches d (omega arith) s
  node_has (node.Look ahead positive once branches) zero n s = absurd (omega arith)
  node_has (node.Look ahead positive once branches) (suc d) n s =
      rows_have branches d (omega arith)
      (both_yes (node_support (look ahead positive once (row (map (tree_at before) branches)))) _ s).1
  node_has (node.Cond test first second) d n s =
      let t = cond_of before test in
      let u = tree_at before first in
      let o = other_of before second in
      let here = both_yes (test_support t) _ s in
      let all = parts_yes (nodes_of_test true t ++ all_nodes u) (nodes_of_other true o) here.1 in
      let front = parts_yes (nodes_of_test true t) (all_nodes u) all.0 in
      cond_has test d (omega arith) here.0 front.0 (has_fragment u d) (other_has o d)
      (one_has before each first d (omega arith) front.1) (other_has_all second d (omega arith) all.1)
  node_has (node.Call k) d n s = absurd cc
  node_has (node.Ref groups caseless) d n s = absurd cc
  node_has (node.Anchor kind) d n s = refl
  node_has node.KeepOut d n s = absurd cc
  node_has (node.VerbNode v) d n s = verb_has v d n s
  node_has (node.Callout number from to at len) d n s = refl

all_push : (ts : List Nested) (t : Nested) → AllByRecursion Has ts → Has t → AllByRecursion Has (ts ++ t ∷ [])
all_push [] t h k = (k, tt)
all_push (u ∷ ts) t h k = (h.0, all_push ts t h.1 k)

all_after : (before : List Nested) (ps : List Placed) → AllByRecursion Has before
    → AllByRecursion Has (trees_after before ps)
unfolding trees_after
all_after before [] h = h
all_after before (p ∷ ps) h =
    all_after (before ++ nest before p.node ∷ []) ps
    (all_push before (nest before p.node) h (node_has before h p.node))

every_tree : (ps : List Placed) → AllByRecursion Has (trees ps)
unfolding trees
every_tree ps = all_after [] ps tt

pub shallow_has : (ps : List Placed) (root : ℕ) → Has (tree_at (trees ps) root)
shallow_has ps root = one_has [] tt (trees ps) (every_tree ps) root
