-- Drafts of tests grow by a node.
use Rattle.std.proofs.Common.{◌≡◌, ℕ, ◌+◌, ◌<◌, List, [], ◌∷◌, ◌++◌, All, length, length-append, true, ap, arith}
use Rattle.std.proofs.lemmas.List.Elements.{All-nil, All-cons, All-tail, All-append, All-weaker}
use Rattle.pat_tree.specs.declared.nodes.ClassSpec.{ClassSpec}
use Rattle.pat_tree.specs.declared.nodes.Placed.{Placed}
use Rattle.pat_tree.specs.Rules.{kids_of}
use Rattle.pat_tree.specs.Growing.{loose, loose_after, is_fresh}
use Rattle.pat_tree.specs.Parts.{DraftParts, with_node, with_class}
use Rattle.pat_tree.proofs.Loose.{replaces_push, last_fresh}
use Rattle.node_flow.proofs.Waiting.{all_front}
use Rattle.check_tests.specs.Drafts.{IsDraft}

all_back : (P : ℕ → Type 0) (xs ys : List ℕ) → All P (xs ++ ys) → All P ys
all_back P [] ys a = a
all_back P (x ∷ xs) ys a = all_back P xs ys (All-tail P x (xs ++ ys) a)

-- the last that wait are numbers of nodes
pub last_below : (d : DraftParts) (front ks : List ℕ) → IsDraft d (front ++ ks) → All (λ k. k < length d.nodes) ks
last_below d front ks h = all_back (λ k. k < length d.nodes) front ks h.below

-- and no node has taken them
pub last_free : (d : DraftParts) (front ks : List ℕ) → IsDraft d (front ++ ks) → is_fresh (loose d.nodes) ks ≡ true
last_free d front ks h = last_fresh d.nodes front ks h.free

-- a node that takes the last that wait
pub draft_more : (d : DraftParts) (front : List ℕ) (p : Placed) → IsDraft d (front ++ kids_of p.node)
    → IsDraft (with_node d p) (front ++ length d.nodes ∷ [])
draft_more d front p h = record {
  free = replaces_push d.nodes p front h.free;
  below = rw (length-append d.nodes (p ∷ []))
      (All-append (λ k. k < length d.nodes + 1) front (length d.nodes ∷ [])
      (All-weaker (λ k. k < length d.nodes) (λ k. k < length d.nodes + 1) (λ k l. omega (arith, l)) front
      (all_front (λ k. k < length d.nodes) front (kids_of p.node) h.below))
      (All-cons (λ k. k < length d.nodes + 1) (length d.nodes) [] (omega arith)
      (All-nil (λ k. k < length d.nodes + 1))));
  classes = h.classes;
  names = h.names;
}

-- a draft begins with one class and no node
pub draft_begun : (d : DraftParts) (class : ClassSpec) → d.nodes ≡ [] → d.classes ≡ [] → d.names ≡ []
    → IsDraft (with_class d class) []
unfolding loose loose_after
draft_begun d class nodes classes names = record {
  free = ap loose nodes;
  below = All-nil (λ k. k < length d.nodes);
  classes = ap (λ cs. length (cs ++ class ∷ [])) classes;
  names = names;
}
