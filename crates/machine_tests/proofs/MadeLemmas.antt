-- Drafts of plain patterns grow by a node.
use Rattle.std.proofs.Common.{◌≡◌, ℕ, true, false, ◌+◌, ◌<◌, List, [], ◌∷◌, ◌++◌, All, length, length-append, ap, arith}
use Rattle.std.proofs.lemmas.List.Elements.{All-nil, All-cons, All-tail, All-append, All-weaker}
use Rattle.pat_tree.specs.declared.nodes.Placed.{Placed}
use Rattle.pat_tree.specs.Rules.{kids_of}
use Rattle.pat_tree.specs.Growing.{loose, loose_after, is_fresh}
use Rattle.pat_tree.specs.Parts.{DraftParts, with_node}
use Rattle.pat_tree.proofs.Loose.{replaces_push, last_fresh}
use Rattle.node_flow.proofs.Waiting.{all_front}
use Rattle.machine_tests.specs.Made.{IsMade}

all_back : (P : ℕ → Type 0) (xs ys : List ℕ) → All P (xs ++ ys) → All P ys
all_back P [] ys a = a
all_back P (x ∷ xs) ys a = all_back P xs ys (All-tail P x (xs ++ ys) a)

pub made_last : (d : DraftParts) (front ks : List ℕ) → IsMade d (front ++ ks) → All (λ k. k < length d.nodes) ks
made_last d front ks h = all_back (λ k. k < length d.nodes) front ks h.below

pub made_more : (d : DraftParts) (front : List ℕ) (p : Placed) → IsMade d (front ++ kids_of p.node)
    → IsMade (with_node d p) (front ++ length d.nodes ∷ [])
made_more d front p h = record {
  free = replaces_push d.nodes p front h.free;
  below = rw (length-append d.nodes (p ∷ []))
      (All-append (λ k. k < length d.nodes + 1) front (length d.nodes ∷ [])
      (All-weaker (λ k. k < length d.nodes) (λ k. k < length d.nodes + 1) (λ k l. omega (arith, l)) front
      (all_front (λ k. k < length d.nodes) front (kids_of p.node) h.below))
      (All-cons (λ k. k < length d.nodes + 1) (length d.nodes) [] (omega arith)
      (All-nil (λ k. k < length d.nodes + 1))));
  bytes = h.bytes;
  classes = h.classes;
  names = h.names;
}

pub made_fresh : (d : DraftParts) (front ks : List ℕ) → IsMade d (front ++ ks) → is_fresh (loose d.nodes) ks ≡ true
made_fresh d front ks h = last_fresh d.nodes front ks h.free

-- a draft begins with nothing
pub made_none : (d : DraftParts) → d.nodes ≡ [] → d.options.utf ≡ false → d.classes ≡ [] → d.names ≡ [] → IsMade d []
unfolding loose loose_after
made_none d nodes bytes classes names = record {
  free = ap loose nodes;
  below = All-nil (λ k. k < length d.nodes);
  bytes = bytes;
  classes = classes;
  names = names;
}
