-- Whether a node can match an empty text, and which groups it leads to, by its children.
use Rattle.std.proofs.Common.{◌≡◌, ◌∙◌, ℕ, zero, suc, ◌||◌, ◌&&◌, ◌==◌, Bool, true, false, List, [], ◌∷◌, ◌++◌, map}
use Rattle.std.proofs.Common.{flat_map, Option, Some, None, All, refl, sym, ap, arith, append-nil}
use Rattle.std.specs.List.{list_any, list_all}
use Rattle.std.proofs.lemmas.Bool.{eq-eqb, le-leb}
use Rattle.std.proofs.lemmas.List.Elements.{All-head, All-tail}
use Rattle.pat_tree.specs.declared.nodes.Cond.{Cond}
use Rattle.pat_tree.specs.declared.nodes.Cond.TheVariants.{AnySet, InCall, InCallOf, Never, Assert}
use Rattle.pat_tree.specs.declared.nodes.Node.{Node}
use Rattle.pat_tree.specs.declared.nodes.Node.TheVariants as node
use Rattle.pat_tree.specs.Nested.{Nested, tree_at, row, nest, test_of, other_of}
use Rattle.pat_tree.specs.Rules.{kids_of, tests_of, number_in, asserted_by, is_test, AtMost}
use Rattle.pat_lengths.specs.Nodes.{nodes, all_nodes, named_by, named_in, is_accept}
use Rattle.pat_lengths.specs.Passing.{is_at_most, passes, all_pass, some_passes, other_passes, test_passes}
use Rattle.pat_lengths.specs.Passing.{second_passes, condition_passes}
use Rattle.pat_lengths.proofs.OrderLemmas.{by_test, nodes_at, IsOpen, node_first, any_flat, same_any}
use Rattle.pat_lengths.proofs.OtherNodes.{IfOther, by_other}

at_most_is : (low : ℕ) (high : Option ℕ) → AtMost low high → is_at_most low high ≡ true
at_most_is low None h = refl
at_most_is low (Some high) h = le-leb low high h

suc_not : (n : ℕ) → (suc n == 0) ≡ false
suc_not n = grind arith

not_zero : (n : ℕ) → (n ≡ 0 → ⊥) → (n == 0) ≡ false
not_zero zero h = absurd (h refl)
not_zero (suc n) h = suc_not n

pub repeat_zero : (low : ℕ) (high : Option ℕ) (b : Bool) → AtMost low high → low ≡ 0
    → (low == 0) ≡ (is_at_most low high && (low == 0 || b))
repeat_zero low high b h e = rw (at_most_is low high h, eq-eqb low 0 e) refl

pub repeat_some : (low : ℕ) (high : Option ℕ) (a b : Bool) → AtMost low high → (low ≡ 0 → ⊥) → a ≡ b
    → a ≡ (is_at_most low high && (low == 0 || b))
repeat_some low high a b h e same = rw (at_most_is low high h, not_zero low e) same

pub item_zero : (low : ℕ) (high : Option ℕ) → AtMost low high → (low == 0) ≡ (is_at_most low high && low == 0)
item_zero low high h = rw (at_most_is low high h) refl

module _ (any : Bool) (can : ℕ → Bool) where
  pub parts_pass : (trees : List Nested) (f : ℕ → Bool) (ks : List ℕ)
      → All (λ k. f k ≡ passes any can (tree_at trees k)) ks →
      list_all f ks ≡ all_pass any can (row (map (tree_at trees) ks))
  unfolding passes
  parts_pass trees f [] h = refl
  parts_pass trees f (k ∷ ks) h = rw (
    All-head (λ k. f k ≡ passes any can (tree_at trees k)) k ks h,
    parts_pass trees f ks (All-tail (λ k. f k ≡ passes any can (tree_at trees k)) k ks h),
  ) refl

  pub branches_pass : (trees : List Nested) (f : ℕ → Bool) (ks : List ℕ)
      → All (λ k. f k ≡ passes any can (tree_at trees k)) ks →
      list_any f ks ≡ some_passes any can (row (map (tree_at trees) ks))
  unfolding passes
  branches_pass trees f [] h = refl
  branches_pass trees f (k ∷ ks) h = rw (
    All-head (λ k. f k ≡ passes any can (tree_at trees k)) k ks h,
    branches_pass trees f ks (All-tail (λ k. f k ≡ passes any can (tree_at trees k)) k ks h),
  ) refl

  abbrev of : List Nested → ℕ → Bool
  of trees k = passes any can (tree_at trees k)

  second_pass : (trees : List Nested) (second : Option ℕ)
      → second_passes (of trees) second ≡ other_passes any can (other_of trees second)
  unfolding passes
  second_pass trees None = refl
  second_pass trees (Some k) = refl

  tested_passes : (x : Bool) (t : Nested) → is_test t ≡ true → test_passes any can (test_of t) x ≡ x
  unfolding passes
  tested_passes x t h = by_test (λ t. test_passes any can (test_of t) x ≡ x) (λ ahead positive once ts. refl)
      (λ c ahead positive once ts. refl) t h

  pub condition_pass : (trees : List Nested) (test : Cond) (first : ℕ) (second : Option ℕ)
      → All (λ k. is_test (tree_at trees k) ≡ true) (tests_of test) →
      condition_passes (of trees) test first second ≡ passes any can (nest trees (node.Cond test first second))
  unfolding passes
  condition_pass trees (AnySet groups) first second h = ap (λ b. of trees first || b) (second_pass trees second)
  condition_pass trees InCall first second h = ap (λ b. of trees first || b) (second_pass trees second)
  condition_pass trees (InCallOf groups) first second h = ap (λ b. of trees first || b) (second_pass trees second)
  condition_pass trees Never first second h = refl
  condition_pass trees (Assert k) first second h =
      ap (λ b. of trees first || b) (second_pass trees second)
      ∙ sym (tested_passes _ (tree_at trees k) (All-head (λ k. is_test (tree_at trees k) ≡ true) k [] h))

  same_second : (trees : List Nested) (f : ℕ → Bool) (second : Option ℕ)
      → All (λ k. f k ≡ of trees k) (number_in second) → second_passes f second ≡ second_passes (of trees) second
  same_second trees f None h = refl
  same_second trees f (Some k) h = All-head (λ k. f k ≡ of trees k) k [] h

  pub same_condition : (trees : List Nested) (f : ℕ → Bool) (test : Cond) (first : ℕ) (second : Option ℕ)
      → All (λ k. f k ≡ passes any can (tree_at trees k)) (first ∷ number_in second) →
      condition_passes f test first second ≡ condition_passes (λ k. passes any can (tree_at trees k)) test first second
  same_condition trees f test first second h =
      let one = All-head (λ k. f k ≡ of trees k) first (number_in second) h in
      let two = same_second trees f second (All-tail (λ k. f k ≡ of trees k) first (number_in second) h) in
      by_kind test one two
    where
      by_kind : (test : Cond) → f first ≡ passes any can (tree_at trees first)
          → second_passes f second ≡ second_passes (λ k. passes any can (tree_at trees k)) second →
          condition_passes f test first second ≡ condition_passes (λ k. passes any can (tree_at trees k)) test first
          second
      by_kind Never one two = refl
      by_kind (AnySet groups) one two = rw (one, two) refl
      by_kind InCall one two = rw (one, two) refl
      by_kind (InCallOf groups) one two = rw (one, two) refl
      by_kind (Assert k) one two = rw (one, two) refl

  pub other_passes_too : (trees : List Nested) (n : Node) → IfOther n (true ≡ passes any can (nest trees n))
  unfolding passes
  other_passes_too trees =
      by_other (λ n. true ≡ passes any can (nest trees n)) refl (λ ahead positive once branches. refl) (λ kind. refl)
      refl (λ v. refl)
      (λ number from to at len. refl)

-- what some node of a tree has: itself, or one under its children
pub any_first : (q : Nested → Bool) (inside : Bool) (trees : List Nested) (n : Node) → IsOpen inside n
    → All (λ k. is_test (tree_at trees k) ≡ true) (asserted_by n) →
    list_any q (nodes inside (nest trees n)) ≡ (q (nest trees n) || list_any
    (λ k. list_any q (nodes_at inside trees k)) (kids_of n))
any_first q inside trees n o tests =
    ap (list_any q) (node_first inside trees n o tests)
    ∙ ap (λ b. q (nest trees n) || b) (any_flat q (nodes_at inside trees) (kids_of n))

-- a test of the groups that some node of a tree names
abbrev pub names_some : (ℕ → Bool) → Nested → Bool
names_some p t = list_any p (named_by t)

pub named_flat : (p : ℕ → Bool) (ts : List Nested) → list_any p (flat_map named_by ts) ≡ list_any (names_some p) ts
named_flat p ts = any_flat p named_by ts

-- of a node that names none itself
pub named_first : (p : ℕ → Bool) (trees : List Nested) (f : ℕ → Bool) (n : Node) → named_by (nest trees n) ≡ []
    → All (λ k. is_test (tree_at trees k) ≡ true) (asserted_by n) →
    All (λ k. f k ≡ list_any p (named_in (tree_at trees k))) (kids_of n)
    → list_any f (kids_of n) ≡ list_any p (named_in (nest trees n))
named_first p trees f n none tests kept =
    same_any f (λ k. list_any (names_some p) (nodes_at true trees k)) (kids_of n)
    (λ i d l. kept i d l ∙ named_flat p (all_nodes _))
    ∙ ap (λ ns. list_any p ns || list_any (λ k. list_any (names_some p) (nodes_at true trees k)) (kids_of n)) (sym none)
    ∙ sym (any_first (names_some p) true trees n tt tests)
    ∙ sym (named_flat p (all_nodes (nest trees n)))

pub no_names : (trees : List Nested) (n : Node) → ((x : ℕ) → n ≡ node.Call x → ⊥)
    → ((x : List ℕ) (y : Bool) → n ≡ node.Ref x y → ⊥) → named_by (nest trees n) ≡ []
no_names trees (node.Call n) a b = absurd (a n refl)
no_names trees (node.Ref groups caseless) a b = absurd (b groups caseless refl)
no_names trees _ a b = refl

pub is_open : (n : Node) → ((x y z : Bool) (w : List ℕ) → n ≡ node.Look x y z w → ⊥) → IsOpen false n
is_open (node.Look ahead positive once branches) a = a ahead positive once branches refl
is_open _ a = tt

pub no_accept : (trees : List Nested) (n : Node) → ((x : _) → n ≡ node.VerbNode x → ⊥)
    → is_accept (nest trees n) ≡ false
no_accept trees (node.VerbNode v) a = absurd (a v refl)
no_accept trees _ a = refl

pub or_false : (b : Bool) → (b || false) ≡ b
or_false true = refl
or_false false = refl

pub named_alone : (p : ℕ → Bool) (ns : List ℕ) → list_any p ns ≡ list_any p (ns ++ [])
named_alone p ns = ap (list_any p) (sym (append-nil ns))
