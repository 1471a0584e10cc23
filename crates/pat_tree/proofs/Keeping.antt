-- The rules stand as a draft grows.
use Rattle.std.specs.Ordering.{ord_max, nat_cmp}
use Rattle.std.specs.List.Sorted.{IsStrictlySortedBy}
use Rattle.std.proofs.lemmas.Bool.Decides.{nat_tests}
use Rattle.std.specs.List.{list_all, IsDistinct}
use Rattle.std.proofs.Common.{Bool, true, false, ◌≡◌, ℕ, zero, suc, ◌+◌, ◌<◌, ◌≤◌, List, [], ◌∷◌, ◌++◌, length, max}
use Rattle.std.proofs.Common.{Option, Some, None, refl, sym, ap, ◌∙◌, append_assoc, append-nil, arith, get_or, All}
use Rattle.std.proofs.Common.{subst, if◌then◌else◌, drop, drop-cons}
use Rattle.std.proofs.lemmas.List.Sums.{AllPass-from_list_all}
use Rattle.std.proofs.lemmas.List.Elements.{All-head, All-nil, All-cons, All-weaker, All-push}
use Rattle.pat_tree.specs.declared.options.Options.{Options}
use Rattle.pat_tree.specs.declared.nodes.Placed.{Placed}
use Rattle.pat_tree.specs.declared.nodes.Cond.TheVariants.{Assert}
use Rattle.pat_tree.specs.declared.nodes.Node.{Node}
use Rattle.pat_tree.specs.declared.nodes.Node.TheVariants as node
use Rattle.pat_tree.specs.Rules.{number_in, kids_of, asserted_by, classes_of, verb_names_of, numbers_of}
use Rattle.pat_tree.specs.Refs.{refs, named_by, bad_ref, least_of}
use Rattle.pat_tree.specs.Growing.{Grows, loose, is_fresh}
use Rattle.pat_tree.specs.Sound.{DraftRules, NodeRules, Sound, children, group_numbers, greatest}
use Rattle.pat_tree.proofs.Growing.{grows_longer, tree_on, makes_push}
use Rattle.pat_tree.proofs.Reached.{below_push}
use Rattle.pat_tree.proofs.Taken.{still_distinct}
use Rattle.pat_tree.proofs.Named.{bad_at}

sound_none : (c v : ℕ) → Sound c v []
unfolding children IsDistinct
sound_none c v = record { below = tt; once = tt; each = All-nil (λ p. NodeRules c v [] p.node) }

pub rules_none : (options : Options) → DraftRules (record {
  options = options;
  nodes = [];
  classes = [];
  names = [];
  verb_names = [];
})
unfolding IsStrictlySortedBy
rules_none options = record {
  nodes = sound_none 0 0;
  ordered = tt;
  node_count = omega arith;
  class_count = omega arith;
  verb_name_count = omega arith;
}

-- the node of an assertion is a child
asserted_below : (n : ℕ) (t : Node) → All (λ k. k < n) (kids_of t) → All (λ k. k < n) (asserted_by t)
asserted_below n (node.Cond (Assert k) first second) h =
    All-cons (λ x. x < n) k [] (All-head (λ x. x < n) k (first ∷ number_in second) h) (All-nil (λ x. x < n))
asserted_below n _ h = λ i d m. absurd (omega (arith, m))

-- a node keeps its rules as classes, verb names and nodes are added
pub rules_on : {c d v w : ℕ} {a b : List Placed} {t : Node} → c ≤ d → v ≤ w → Grows a b → NodeRules c v a t
    → NodeRules d w b t
rules_on {c} {d} {v} {w} {a} {b} {t} more_classes more_names g r = record {
  kids = All-weaker (λ k. k < length a) (λ k. k < length b) (λ k h. omega (arith, h, grows_longer g)) (kids_of t)
      r.kids;
  classes = All-weaker (λ n. n < c) (λ n. n < d) (λ n h. omega (arith, h, more_classes)) (classes_of t) r.classes;
  verb_names = All-weaker (λ n. n < v) (λ n. n < w) (λ n h. omega (arith, h, more_names)) (verb_names_of t)
      r.verb_names;
  numbered = r.numbered;
  named = r.named;
  ordered = r.ordered;
  define = r.define;
  test = λ i k h. rw (tree_on g (get_or (asserted_by t) i k) (asserted_below (length a) t r.kids i k h)) (r.test i k h);
}

children_push : (ps : List Placed) (p : Placed) → children (ps ++ p ∷ []) ≡ children ps ++ kids_of p.node
unfolding children
children_push [] p = append-nil (kids_of p.node)
children_push (q ∷ ps) p = ap (λ ks. kids_of q.node ++ ks) (children_push ps p)
    ∙ sym (append_assoc (kids_of q.node) (children ps) (kids_of p.node))

pub sound_push : (c v : ℕ) (ps : List Placed) (p : Placed) → Sound c v ps → NodeRules c v ps p.node
    → is_fresh (loose ps) (kids_of p.node) ≡ true → Sound c v (ps ++ p ∷ [])
sound_push c v ps p s r fresh =
    let grown = (makes_push ps p).grows in
    let same : length ps ≡ 0 + length ps = omega arith in record {
      below = below_push 0 ps p s.below (subst (λ m. All (λ k. k < m) (kids_of p.node)) same r.kids);
      once = rw (children_push ps p) (still_distinct ps (kids_of p.node) s.below s.once fresh);
      each = All-push (λ q. NodeRules c v (ps ++ p ∷ []) q.node) ps p
          (All-weaker (λ q. NodeRules c v ps q.node) (λ q. NodeRules c v (ps ++ p ∷ []) q.node)
          (λ q. rules_on (omega arith) (omega arith) grown) ps s.each)
          (rules_on (omega arith) (omega arith) grown r);
    }

each_true : (test : ℕ → Bool) (ns : List ℕ) → list_all test ns ≡ true → All (λ n. test n ≡ true) ns
each_true test ns h = AllPass-from_list_all test ns h

only_then : {A : Type 0} (t : Bool) (a : Option A) (b : A) → (if t then a else Some b) ≡ None → (t ≡ true) × (a ≡ None)
only_then true a b h = (refl, h)
only_then false a b h = absurd cc

-- where no place is bad, each group that is named stands
pub refs_stand : (stands : ℕ → Bool) (ps : List Placed) (i : ℕ) (p : Placed) → i < length ps → p ≡ get_or ps i p
    → bad_ref stands (refs ps) ≡ None → All (λ n. stands n ≡ true) (named_by p.node)
unfolding refs
refs_stand stands [] i p h is none = absurd (omega (arith, h))
refs_stand stands (q ∷ ps) i p h is none =
    let both = only_then (list_all stands (named_by q.node)) (bad_ref stands (refs ps))
    (least_of q.at (bad_ref stands (refs ps))) (sym (bad_at stands q.at (named_by q.node) (refs ps)) ∙ none) in
    elim i as (λ j. j < suc (length ps) → p ≡ get_or (q ∷ ps) j p → All (λ n. stands n ≡ true) (named_by p.node)) [
      | zero ↦ λ m e. rw e (each_true stands (named_by q.node) both.0)
      | suc j ↦ λ m e. refs_stand stands ps j p (omega (arith, m)) e both.1
    ] h is

pub greatest-append : (xs ys : List ℕ) → greatest (xs ++ ys) ≡ max (greatest xs) (greatest ys)
greatest-append [] ys = omega arith
greatest-append (x ∷ xs) ys = omega (arith, greatest-append xs ys)

all_le : (ns : List ℕ) → All (λ n. n ≤ greatest ns) ns
all_le [] = All-nil (λ n. n ≤ 0)
all_le (n ∷ ns) = All-cons (λ m. m ≤ max n (greatest ns)) n ns (omega arith)
    (All-weaker (λ m. m ≤ greatest ns) (λ m. m ≤ max n (greatest ns)) (λ m h. omega (arith, h)) ns (all_le ns))

-- the greatest number is at least that of each group
pub le_greatest : (ps : List Placed) (i : ℕ) (p : Placed) → i < length ps → p ≡ get_or ps i p
    → All (λ n. n ≤ greatest (group_numbers ps)) (numbers_of p.node)
unfolding group_numbers
le_greatest [] i p h is = absurd (omega (arith, h))
le_greatest (q ∷ ps) i p h is =
    let most = greatest-append (numbers_of q.node) (group_numbers ps) in
    elim i as (λ j. j < suc (length ps) → p ≡ get_or (q ∷ ps) j p
    → All (λ n. n ≤ greatest (numbers_of q.node ++ group_numbers ps)) (numbers_of p.node)) [
      | zero ↦ λ m e. rw e (All-weaker (λ n. n ≤ greatest (numbers_of q.node))
          (λ n. n ≤ greatest (numbers_of q.node ++ group_numbers ps)) (λ n k. omega (arith, k, most))
          (numbers_of q.node) (all_le (numbers_of q.node)))
      | suc j ↦ λ m e. All-weaker (λ n. n ≤ greatest (group_numbers ps))
          (λ n. n ≤ greatest (numbers_of q.node ++ group_numbers ps)) (λ n k. omega (arith, k, most))
          (numbers_of p.node) (le_greatest ps j p (omega (arith, m)) e)
    ] h is

pub numbers_drop : (ps : List Placed) (j : ℕ) (p : Placed) → j < length ps → p ≡ get_or ps j p
    → greatest (group_numbers (drop j ps)) ≡ max (greatest (numbers_of p.node))
    (greatest (group_numbers (drop (j + 1) ps)))
unfolding group_numbers
numbers_drop ps j p h e =
    let one : suc j ≡ j + 1 = omega arith in
    ap (λ qs. greatest (group_numbers qs)) (drop-cons ps j p h)
    ∙ ap (λ q. greatest (numbers_of q.node ++ group_numbers (drop (suc j) ps))) (sym e)
    ∙ greatest-append (numbers_of p.node) (group_numbers (drop (suc j) ps))
    ∙ ap (λ k. max (greatest (numbers_of p.node)) (greatest (group_numbers (drop k ps)))) one

pub max_is : (a b : ℕ) → ord_max nat_cmp a b ≡ max a b
max_is a b = grind (arith, nat_tests)
