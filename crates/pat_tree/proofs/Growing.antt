-- A draft that grows keeps the trees that it has.
use Rattle.std.proofs.Common.{◌≡◌, ℕ, suc, ◌+◌, ◌<◌, ◌≤◌, List, [], ◌∷◌, ◌++◌, length, map, refl, sym, ap, ◌∙◌}
use Rattle.std.proofs.Common.{append_assoc, append-nil, length-append, arith, get_or, All, drop, drop-cons}
use Rattle.std.proofs.lemmas.List.{get_or_append_left, map-append}
use Rattle.std.proofs.Math.Seq.{get_or-append_seam}
use Rattle.std.proofs.lemmas.List.Elements.{All-head, All-tail, All-weaker, All-push, All-nil}
use Rattle.pat_tree.specs.declared.nodes.Placed.{Placed}
use Rattle.pat_tree.specs.Nested.{Nested, empty, tree_at, nest, trees_after, trees}
use Rattle.pat_tree.specs.Refs.{refs_of, refs}
use Rattle.pat_tree.specs.Growing.{Stand, Grows, Makes}

after_push : (before : List Nested) (ps : List Placed) (p : Placed) →
    trees_after before (ps ++ p ∷ []) ≡ trees_after before ps ++ nest (trees_after before ps) p.node ∷ []
unfolding trees_after
after_push before [] p = refl
after_push before (q ∷ ps) p = after_push (before ++ nest before q.node ∷ []) ps p

pub trees_push : (ps : List Placed) (p : Placed) → trees (ps ++ p ∷ []) ≡ trees ps ++ nest (trees ps) p.node ∷ []
unfolding trees
trees_push ps p = after_push [] ps p

length_after : (before : List Nested) (ps : List Placed) → length (trees_after before ps) ≡ length before + length ps
unfolding trees_after
length_after before [] = omega arith
length_after before (q ∷ ps) = omega (
  arith,
  length_after (before ++ nest before q.node ∷ []) ps,
  length-append before (nest before q.node ∷ []),
)

pub length_trees : (ps : List Placed) → length (trees ps) ≡ length ps
unfolding trees
length_trees ps = omega (arith, length_after [] ps)

pub refs_push : (ps : List Placed) (p : Placed) → refs (ps ++ p ∷ []) ≡ refs ps ++ refs_of p
unfolding refs
refs_push [] p = append-nil (refs_of p)
refs_push (q ∷ ps) p = ap (λ rs. refs_of q ++ rs) (refs_push ps p)
    ∙ sym (append_assoc (refs_of q) (refs ps) (refs_of p))

-- numbers below the length name the same trees in a longer list
pub tree_at_longer : (ts more : List Nested) (k : ℕ) → k < length ts → tree_at (ts ++ more) k ≡ tree_at ts k
tree_at_longer ts more k h = get_or_append_left ts more empty k h

pub trees_at_longer : (ts more : List Nested) (ks : List ℕ) → All (λ k. k < length ts) ks
    → map (tree_at (ts ++ more)) ks ≡ map (tree_at ts) ks
trees_at_longer ts more [] h = refl
trees_at_longer ts more (k ∷ ks) h = ap (λ t. t ∷ map (tree_at (ts ++ more)) ks)
    (tree_at_longer ts more k (All-head (λ x. x < length ts) k ks h))
    ∙ ap (λ us. tree_at ts k ∷ us) (trees_at_longer ts more ks (All-tail (λ x. x < length ts) k ks h))

-- the new tree stands at the end
pub tree_at_end : (ts : List Nested) (t : Nested) → tree_at (ts ++ t ∷ []) (length ts) ≡ t
tree_at_end ts t = get_or-append_seam ts t [] empty

pub grows_longer : {a b : List Placed} → Grows a b → length a ≤ length b
grows_longer {a} {b} g = omega (
  arith,
  ap length g.trees_are,
  length-append (trees a) g.more,
  length_trees a,
  length_trees b,
)

pub grows_not : (a : List Placed) → Grows a a
grows_not a = record { more = []; trees_are = sym (append-nil (trees a)) }

pub grows_then : {a b c : List Placed} → Grows a b → Grows b c → Grows a c
grows_then {a} {b} {c} m n = record {
  more = m.more ++ n.more;
  trees_are = n.trees_are ∙ ap (λ ts. ts ++ n.more) m.trees_are ∙ append_assoc (trees a) m.more n.more;
}

pub makes_push : (ps : List Placed) (p : Placed) → Makes ps (ps ++ p ∷ []) (length ps) (nest (trees ps) p.node)
makes_push ps p = record {
  grows = record { more = nest (trees ps) p.node ∷ []; trees_are = trees_push ps p };
  below = omega (arith, length-append ps (p ∷ []));
  is = rw (trees_push, ← length_trees ps) (tree_at_end (trees ps) (nest (trees ps) p.node));
}

-- a number that names a tree already
pub makes_none : (ps : List Placed) (id : ℕ) (t : Nested) → id < length ps → tree_at (trees ps) id ≡ t
    → Makes ps ps id t
makes_none ps id t h e = record { grows = grows_not ps; below = h; is = e }

-- first one node, then another
pub makes_then : {a b c : List Placed} {j : ℕ} {u : Nested} → Grows a b → Makes b c j u → Makes a c j u
makes_then g n = record { grows = grows_then g n.grows; below = n.below; is = n.is }

-- what stands for trees in a draft stands for them as the draft grows
pub stand_on : {a b : List Placed} {ids : List ℕ} {found : List Nested} → Grows a b → Stand a ids found
    → Stand b ids found
stand_on {a} {b} {ids} {found} g s =
    let within : All (λ k. k < length (trees a)) ids = rw (length_trees a) s.below in record {
      below = All-weaker (λ k. k < length a) (λ k. k < length b) (λ k h. omega (arith, grows_longer g)) ids s.below;
      trees_are = rw g.trees_are (trees_at_longer (trees a) g.more ids within ∙ s.trees_are);
    }

pub stand_none : (ps : List Placed) → Stand ps [] []
stand_none ps = record { below = All-nil (λ k. k < length ps); trees_are = refl }

pub stand_push : {ps : List Placed} {ids : List ℕ} {found : List Nested} → (id : ℕ) (t : Nested) → Stand ps ids found
    → id < length ps → tree_at (trees ps) id ≡ t → Stand ps (ids ++ id ∷ []) (found ++ t ∷ [])
stand_push {ps} {ids} {found} id t s h e = record {
  below = All-push (λ k. k < length ps) ids id s.below h;
  trees_are = map-append (tree_at (trees ps)) ids (id ∷ []) ∙ ap (λ us. us ++ tree_at (trees ps) id ∷ []) s.trees_are
      ∙ ap (λ u. found ++ u ∷ []) e;
}

-- the list with the number that a new node has
pub stand_made : {a b : List Placed} {i : ℕ} {t : Nested} {ids : List ℕ} {found : List Nested} → Makes a b i t
    → Stand a ids found → Stand b (ids ++ i ∷ []) (found ++ t ∷ [])
stand_made {a} {b} {i} {t} m s = stand_push i t (stand_on m.grows s) m.below m.is

pub tree_on : {a b : List Placed} → Grows a b → (k : ℕ) → k < length a → tree_at (trees b) k ≡ tree_at (trees a) k
tree_on {a} {b} g k h = let within : k < length (trees a) = omega (arith, length_trees a) in
    rw g.trees_are (tree_at_longer (trees a) g.more k within)

pub refs_drop : (ps : List Placed) (j : ℕ) (p : Placed) → j < length ps → p ≡ get_or ps j p
    → refs (drop j ps) ≡ refs_of p ++ refs (drop (j + 1) ps)
unfolding refs
refs_drop ps j p h e = ap refs (drop-cons ps j p h) ∙ ap (λ q. refs_of q ++ refs (drop (suc j) ps)) (sym e)
    ∙ (let one : suc j ≡ j + 1 = omega arith in ap (λ k. refs_of p ++ refs (drop k ps)) one)
