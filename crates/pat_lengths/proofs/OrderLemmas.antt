-- The nodes of a tree in the order of its parts' numbers.
use Rattle.std.proofs.Common.{◌≡◌, ◌∙◌, ℕ, zero, suc, ◌<◌, ◌≤◌, Bool, true, false, ◌||◌, List, [], ◌∷◌, ◌++◌, map}
use Rattle.std.proofs.Common.{flat_map, Option, Some, None, All, length, get_or, refl, sym, ap, arith, append_assoc}
use Rattle.std.proofs.Common.{append-nil}
use Rattle.std.specs.List.{list_any}
use Rattle.std.proofs.lemmas.Grind.{flat_map-append}
use Rattle.std.proofs.lemmas.List.{get_or_default, map-append}
use Rattle.std.proofs.lemmas.List.Elements.{All-head, All-tail}
use Rattle.std.proofs.lemmas.List.Folds.{list_any-append}
use Rattle.pat_tree.specs.declared.nodes.Cond.{Cond}
use Rattle.pat_tree.specs.declared.nodes.Cond.TheVariants.{AnySet, InCall, InCallOf, Never, Assert}
use Rattle.pat_tree.specs.declared.nodes.Node.{Node}
use Rattle.pat_tree.specs.declared.nodes.Node.TheVariants as node
use Rattle.pat_tree.specs.declared.nodes.Placed.{Placed}
use Rattle.pat_tree.specs.Nested as tree
use Rattle.pat_tree.specs.Nested.{Nested, Row, Callout, tree_at, trees, row, nest, test_of, cond_of, other_of}
use Rattle.pat_tree.specs.Parts.{TreeParts}
use Rattle.pat_tree.specs.Rules.{kids_of, tests_of, number_in, asserted_by, is_test}
use Rattle.pat_tree.specs.Sound.{TreeRules}
use Rattle.pat_tree.proofs.Reached.{reached_node}
use Rattle.node_flow.specs.Order.{order}
use Rattle.node_flow.proofs.TreeLaws.{parts_come_first}
use Rattle.pat_lengths.specs.Nodes.{kept, nodes, nodes_in, nodes_of_test, nodes_of_other, all_nodes}

-- What stands as a test is a lookaround, or a callout and a lookaround after it.
pub by_test : (P : Nested → Type 0) → ((ahead positive once : Bool) (ts : Row) → P (tree.look ahead positive once ts)) →
    ((c : Callout) (ahead positive once : Bool) (ts : Row)
    → P (tree.seq (tree.more (tree.callout c) (tree.more (tree.look ahead positive once ts) tree.none)))) →
    (t : Nested) → is_test t ≡ true → P t
by_test P f g (tree.look ahead positive once ts) h = f ahead positive once ts
by_test P f g (tree.seq (tree.more (tree.callout c) (tree.more (tree.look ahead positive once ts) tree.none))) h =
    g c ahead positive once ts
by_test P f g t h = absurd cc

-- the nodes of these trees, in turn
abbrev pub nodes_at : Bool → List Nested → ℕ → List Nested
nodes_at inside trees k = nodes inside (tree_at trees k)

row_nodes : (inside : Bool) (trees : List Nested) (ks : List ℕ)
    → nodes_in inside (row (map (tree_at trees) ks)) ≡ flat_map (nodes_at inside trees) ks
unfolding nodes
row_nodes inside trees [] = refl
row_nodes inside trees (k ∷ ks) = ap (λ zs. nodes_at inside trees k ++ zs) (row_nodes inside trees ks)

tested_nodes : (inside : Bool) (t : Nested) → is_test t ≡ true → nodes_of_test inside (test_of t) ≡ nodes inside t
unfolding nodes
tested_nodes inside t h =
    by_test (λ t. nodes_of_test inside (test_of t) ≡ nodes inside t) (λ ahead positive once ts. refl)
    (λ c ahead positive once ts.
    let look = tree.look ahead positive once ts in
    ap (λ zs. tree.seq (tree.more (tree.callout c) (tree.more look tree.none)) ∷ tree.callout c ∷ look ∷ zs)
    (sym (append-nil (kept inside (nodes_in inside ts)))))
    t h

test_nodes : (inside : Bool) (trees : List Nested) (test : Cond)
    → All (λ k. is_test (tree_at trees k) ≡ true) (tests_of test) →
    nodes_of_test inside (cond_of trees test) ≡ flat_map (nodes_at inside trees) (tests_of test)
unfolding nodes
test_nodes inside trees (AnySet groups) h = refl
test_nodes inside trees InCall h = refl
test_nodes inside trees (InCallOf groups) h = refl
test_nodes inside trees Never h = refl
test_nodes inside trees (Assert k) h = tested_nodes inside (tree_at trees k)
    (All-head (λ k. is_test (tree_at trees k) ≡ true) k [] h) ∙ sym (append-nil _)

second_nodes : (inside : Bool) (trees : List Nested) (second : Option ℕ)
    → nodes_of_other inside (other_of trees second) ≡ flat_map (nodes_at inside trees) (number_in second)
unfolding nodes
second_nodes inside trees None = refl
second_nodes inside trees (Some k) = sym (append-nil _)

-- a lookaround is gone into where those inside are asked for
abbrev pub IsOpen : Bool → Node → Type 0
IsOpen false (node.Look ahead positive once branches) = ⊥
IsOpen _ _ = Unit {0}

-- a node, and then those under its children
pub node_first : (inside : Bool) (trees : List Nested) (n : Node) → IsOpen inside n
    → All (λ k. is_test (tree_at trees k) ≡ true) (asserted_by n) →
    nodes inside (nest trees n) ≡ nest trees n ∷ flat_map (nodes_at inside trees) (kids_of n)
unfolding nodes
node_first inside trees node.Empty o h = refl
node_first inside trees (node.One item) o h = refl
node_first inside trees node.Break o h = refl
node_first inside trees (node.Seq kids) o h = ap (λ zs. nest trees (node.Seq kids) ∷ zs) (row_nodes inside trees kids)
node_first inside trees (node.Group number branches) o h =
    ap (λ zs. nest trees (node.Group number branches) ∷ zs) (row_nodes inside trees branches)
node_first inside trees (node.Repeat body min max lazy) o h =
    ap (λ zs. nest trees (node.Repeat body min max lazy) ∷ zs) (sym (append-nil _))
node_first inside trees (node.OneRepeat item min max lazy) o h = refl
node_first inside trees (node.Atomic branches) o h =
    ap (λ zs. nest trees (node.Atomic branches) ∷ zs) (row_nodes inside trees branches)
node_first true trees (node.Look ahead positive once branches) o h =
    ap (λ zs. nest trees (node.Look ahead positive once branches) ∷ zs) (row_nodes true trees branches)
node_first false trees (node.Look ahead positive once branches) o h = absurd o
node_first inside trees (node.Cond test first second) o h =
    let f = nodes_at inside trees in
    let a = nodes_of_test inside (cond_of trees test) in
    let b = f first in
    let c = nodes_of_other inside (other_of trees second) in
    ap (λ zs. nest trees (node.Cond test first second) ∷ zs)
    (append_assoc a b c
    ∙ ap (λ zs. zs ++ (b ++ c)) (test_nodes inside trees test h)
    ∙ ap (λ zs. flat_map f (tests_of test) ++ (b ++ zs)) (second_nodes inside trees second)
    ∙ sym (flat_map-append f (tests_of test) (first ∷ number_in second)))
node_first inside trees (node.Call n) o h = refl
node_first inside trees (node.Ref groups caseless) o h = refl
node_first inside trees (node.Anchor kind) o h = refl
node_first inside trees node.KeepOut o h = refl
node_first inside trees (node.VerbNode v) o h = refl
node_first inside trees (node.Callout number from to at len) o h = refl

-- The numbers in order stand for the nodes in order.

map_flat : (f : ℕ → Nested) (g : ℕ → List ℕ) (h : ℕ → List Nested) (ks : List ℕ) → All (λ k. map f (g k) ≡ h k) ks
    → map f (flat_map g ks) ≡ flat_map h ks
map_flat f g h [] e = refl
map_flat f g h (k ∷ ks) e =
    map-append f (g k) (flat_map g ks)
    ∙ ap (λ zs. zs ++ map f (flat_map g ks)) (All-head (λ k. map f (g k) ≡ h k) k ks e)
    ∙ ap (λ zs. h k ++ zs) (map_flat f g h ks (All-tail (λ k. map f (g k) ≡ h k) k ks e))

in_order : (t : TreeParts) → TreeRules t → (fuel q : ℕ) → q < fuel → q ≤ t.root
    → map (tree_at (trees t.nodes)) (order t.nodes q) ≡ all_nodes (tree_at (trees t.nodes) q)
in_order t rules zero q l m = absurd (omega (arith, l))
in_order t rules (suc fuel) q l m =
    let ts = trees t.nodes in
    let d : Placed = record { node = node.Empty; at = 0 } in
    let p = get_or t.nodes q d in
    let inside : q < length t.nodes = omega (arith, m, rules.root) in
    let r = reached_node t.nodes q p rules.nodes.below inside (get_or_default t.nodes q d p inside) in
    let kids : All (λ k. map (tree_at ts) (order t.nodes k) ≡ nodes_at true ts k) (kids_of p.node) = λ i e j.
    let k = get_or (kids_of p.node) i e in
    let below : k < q = r.1 i e j in
    in_order t rules fuel k (omega (arith, below, l)) (omega (arith, below, m)) in
    ap (map (tree_at ts)) (parts_come_first t rules q m d)
    ∙ ap (λ zs. tree_at ts q ∷ zs) (map_flat (tree_at ts) (order t.nodes) (nodes_at true ts) (kids_of p.node) kids)
    ∙ ap (λ u. u ∷ flat_map (nodes_at true ts) (kids_of p.node)) (sym r.0)
    ∙ sym (node_first true ts p.node tt (rules.nodes.each q d inside).test)
    ∙ ap all_nodes r.0

pub whole_in_order : (t : TreeParts) → TreeRules t → map (tree_at (trees t.nodes)) (order t.nodes t.root) ≡ all_nodes
    (tree_at (trees t.nodes) t.root)
whole_in_order t rules = in_order t rules (suc t.root) t.root (omega arith) (omega arith)

-- What some node holds, by the children.

pub any_flat : {X Y : Type 0} (p : Y → Bool) (f : X → List Y) (ks : List X)
    → list_any p (flat_map f ks) ≡ list_any (λ k. list_any p (f k)) ks
any_flat p f [] = refl
any_flat p f (k ∷ ks) = list_any-append p (f k) (flat_map f ks) ∙ ap (λ b. list_any p (f k) || b) (any_flat p f ks)

pub same_any : (p q : ℕ → Bool) (ks : List ℕ) → All (λ k. p k ≡ q k) ks → list_any p ks ≡ list_any q ks
same_any p q [] h = refl
same_any p q (k ∷ ks) h = rw (All-head (λ k. p k ≡ q k) k ks h, same_any p q ks (All-tail (λ k. p k ≡ q k) k ks h)) refl
