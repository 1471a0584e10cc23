-- How the table of followers is built, from the root down.
use Rattle.std.specs.List.{IsDistinct}
use Rattle.std.proofs.Common.{◌≡◌, ℕ, suc, ◌+◌, ◌<◌, ◌≤◌, true, false, nat_eq, List, ◌∷◌, take, drop, replicate}
use Rattle.std.proofs.Common.{length, get_or, All, Option, None, ◌⊎◌, inl, inr, refl, sym, ap, ◌∙◌, subst, arith}
use Rattle.std.proofs.Common.{drop-cons}
use Rattle.std.proofs.Math.ListN.{get_or-eq_default}
use Rattle.std.proofs.lemmas.List.{get_or-take, length-take, drop_all, get_or-replicate, length-replicate}
use Rattle.pat_tree.specs.declared.nodes.Node.{Node}
use Rattle.pat_tree.specs.declared.nodes.Node.TheVariants.{Empty, Break}
use Rattle.pat_tree.specs.declared.nodes.Placed.{Placed}
use Rattle.pat_tree.specs.Rules.{kids_of}
use Rattle.pat_tree.specs.Refs.{is_in}
use Rattle.pat_tree.specs.Growing.{AreBelow}
use Rattle.pat_tree.specs.Sound.{children}
use Rattle.node_flow.specs.Followers.{rest_among, first_of, next_by}
use Rattle.node_flow.proofs.Members.{Once, apart, in_at, in_or_not}
use Rattle.node_flow.proofs.Children.{once_among, once_from, not_among}

-- a node that stands whatever stands past the end has a place
pub within : (ps : List Placed) (id : ℕ) (n : Node) → ((other : Placed) → n ≡ (get_or ps id other).node)
    → id < length ps
within ps id n here =
    let cases : (id < length ps) ⊎ (length ps ≤ id) = grind arith in
    elim cases [
      | inl less ↦ less
      | inr past ↦
          (let one : Placed = record { node = Empty; at = 0 } in
          let two : Placed = record { node = Break; at = 0 } in
          let a : n ≡ Empty = here one ∙ ap (λ p. p.node) (get_or-eq_default ps one past) in
          let b : n ≡ Break = here two ∙ ap (λ p. p.node) (get_or-eq_default ps two past) in
          cc)
    ]

-- the nodes up to the root from one of them on: this one, and then the others
pub node_before : (ps : List Placed) (id root : ℕ) (n : Node) → id ≤ root
    → ((other : Placed) → n ≡ (get_or ps id other).node) →
    (p : Placed) × (p.node ≡ n) × (drop id (take (root + 1) ps) ≡ p ∷ drop (id + 1) (take (root + 1) ps))
node_before ps id root n below here =
    let d : Placed = record { node = Empty; at = 0 } in
    let w = within ps id n here in
    let l : id < length (take (root + 1) ps) = simp length-take (omega arith) in
    let p = get_or (take (root + 1) ps) id d in
    let is : p ≡ get_or ps id d = get_or-take (root + 1) ps id d (omega arith) in (
      p,
      ap (λ q. q.node) is ∙ sym (here d),
      drop-cons (take (root + 1) ps) id d l
          ∙ (let e : suc id ≡ id + 1 = omega arith in ap (λ i. p ∷ drop i (take (root + 1) ps)) e),
    )

pub none_in : (n k : ℕ) → get_or {A = Option ℕ} (replicate n None) k None ≡ None
none_in n k =
    let cases : (k < n) ⊎ (n ≤ k) = grind arith in
    elim cases [
      | inl less ↦ get_or-replicate n k None None less
      | inr past ↦ get_or-eq_default (replicate n None) None (simp length-replicate past)
    ]

-- before any node is seen nothing is told
pub start : (ps : List Placed) (root : ℕ) (told : List (Option ℕ)) (n k : ℕ) → n ≡ root + 1 → told ≡ replicate n None →
    get_or told k None ≡ first_of (rest_among n (drop n (take (root + 1) ps)) k)
unfolding rest_among
start ps root told n k is filled =
    let short : length (take (root + 1) ps) ≤ n = simp length-take (omega (arith, is)) in
    rw (drop_all n (take (root + 1) ps) short) (ap (λ xs. get_or xs k None) filled ∙ none_in n k)

pub start_below : (ps : List Placed) (root n : ℕ) → n ≡ root + 1 → AreBelow n (drop n (take (root + 1) ps))
start_below ps root n is =
    let short : length (take (root + 1) ps) ≤ n = simp length-take (omega (arith, is)) in
    subst (AreBelow n) (sym (drop_all n (take (root + 1) ps) short)) tt

-- its children have smaller numbers
pub more_below : (ps : List Placed) (root id : ℕ) (n : Node) → id ≤ root
    → ((other : Placed) → n ≡ (get_or ps id other).node) → All (λ k. k < id) (kids_of n) →
    AreBelow (id + 1) (drop (id + 1) (take (root + 1) ps)) → AreBelow id (drop id (take (root + 1) ps))
more_below ps root id n small here kids later =
    let at = node_before ps id root n small here in
    subst (AreBelow id) (sym at.2) (subst (λ m. All (λ k. k < id) (kids_of m)) (sym at.1) kids, later)

-- a node that is seen tells that the root stands, and that each child has one parent
pub now_known : (ps : List Placed) (root id : ℕ) (n : Node) → ((other : Placed) → n ≡ (get_or ps id other).node)
    → IsDistinct nat_eq (children ps) →
    ((id + 1 ≡ root + 1) ⊎ ((root < length ps) × IsDistinct nat_eq (children ps)))
    → (root < length ps) × IsDistinct nat_eq (children ps)
now_known ps root id n here distinct before =
    let w = within ps id n here in
    elim before [ inl first ↦ (omega (arith, w, first), distinct) | inr both ↦ both ]

-- Where a node is seen, and these are told of by the later ones.
module _ (ps : List Placed) (root id : ℕ) (n : Node) (told : List (Option ℕ)) (below : id ≤ root)
    (here : (other : Placed) → n ≡ (get_or ps id other).node)
    (before : (k : ℕ) → k ≤ root → get_or told k None ≡ first_of
    (rest_among (id + 1) (drop (id + 1) (take (root + 1) ps)) k)) where
  -- its children are told nothing yet
  pub untold : IsDistinct nat_eq (children ps) → All (λ k. k < id) (kids_of n)
      → All (λ k. get_or told k None ≡ None) (kids_of n)
  unfolding children
  untold distinct small =
      let at = node_before ps id root n below here in
      let p = at.0 in
      let later = drop (id + 1) (take (root + 1) ps) in
      let all : Once (children (p ∷ later)) = subst (λ qs. Once (children qs)) at.2
      (once_from id (take (root + 1) ps) (once_among (root + 1) ps distinct)) in
      λ i d l.
      let k = get_or (kids_of n) i d in
      let less : k < id = small i d l in
      let member : is_in k (kids_of p.node) ≡ true = subst (λ m. is_in k (kids_of m) ≡ true) (sym at.1)
      (in_at (kids_of n) i d l) in
      before k (omega (arith, less, below))
      ∙ ap first_of (not_among (id + 1) later k (apart (kids_of p.node) (children later) k all member))

  -- and then what follows is told by this node too
  pub seen : (new : List (Option ℕ))
      → ((rest : List ℕ) → first_of rest ≡ get_or told id None → (k : ℕ) → get_or new k None ≡ next_by told n rest k)
      →
      (k : ℕ) → k ≤ root → get_or new k None ≡ first_of (rest_among id (drop id (take (root + 1) ps)) k)
  unfolding rest_among
  seen new linked k small =
      let at = node_before ps id root n below here in
      let p = at.0 in
      let later = drop (id + 1) (take (root + 1) ps) in
      let after = rest_among (id + 1) later id in
      let step : get_or new k None ≡ next_by told n after k = linked after (sym (before id below)) k in
      rw at.2 (elim (in_or_not k (kids_of n)) [
        | inl member ↦ (let there : is_in k (kids_of p.node) ≡ true = subst (λ m. is_in k (kids_of m) ≡ true)
            (sym at.1) member in
            step ∙ rw (member, there, at.1) refl)
        | inr other ↦ (let there : is_in k (kids_of p.node) ≡ false = subst (λ m. is_in k (kids_of m) ≡ false)
            (sym at.1) other in
            step ∙ rw (other, there) (before k small))
      ])
