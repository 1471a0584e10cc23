-- What parts are told by nodes of which each child stands once, and how the table of it is built from the root down.
use Rattle.std.specs.List.{IsDistinct}
use Rattle.std.proofs.Common.{◌≡◌, ℕ, zero, suc, ◌+◌, ◌<◌, ◌≤◌, true, false, nat_eq, List, [], ◌∷◌, take, drop}
use Rattle.std.proofs.Common.{replicate, length, get_or, All, Option, None, inl, inr, refl, sym, ap, ◌∙◌}
use Rattle.std.proofs.Common.{subst, arith}
use Rattle.std.proofs.lemmas.List.{drop_all, get_or-take, get_or_default, length-take, length-take-le}
use Rattle.pat_tree.specs.declared.nodes.Node.{Node}
use Rattle.pat_tree.specs.declared.nodes.Placed.{Placed}
use Rattle.pat_tree.specs.Rules.{kids_of}
use Rattle.pat_tree.specs.Refs.{is_in}
use Rattle.pat_tree.specs.Growing.{AreBelow}
use Rattle.pat_tree.specs.Parts.{TreeParts}
use Rattle.pat_tree.specs.Sound.{TreeRules, children}
use Rattle.node_flow.specs.Around.{HangsTogether, told_among, told_of, told_by}
use Rattle.node_flow.proofs.Among.{no_child, member_later, small_out}
use Rattle.node_flow.proofs.Building.{node_before, none_in}
use Rattle.node_flow.proofs.Children.{once_among, once_from}
use Rattle.node_flow.proofs.Members.{Once, apart, apart_back, once_back, neither, in_or_not, in_at}
use Rattle.node_flow.proofs.TreeLaws.{Standing, below_take}

module _ (child : Node → Option ℕ → ℕ → Option ℕ) where
  -- what no node has as a child is told nothing
  not_told : (n : ℕ) (ps : List Placed) (k : ℕ) → is_in k (children ps) ≡ false → told_among child n ps k ≡ None
  unfolding told_among children
  not_told n [] k h = refl
  not_told n (p ∷ ps) k h =
      let apart = neither (kids_of p.node) (children ps) k h in
      rw apart.0 (not_told (n + 1) ps k apart.1)

  -- a child of the node at a place is told what this node says
  told_here : (n : ℕ) (ps : List Placed) (j k : ℕ) (p : Placed) → AreBelow n ps → Once (children ps) → j < length ps
      → p ≡ get_or ps j p → is_in k (kids_of p.node) ≡ true →
      told_among child n ps k ≡ child p.node (told_among child n ps (n + j)) k
  unfolding told_among children
  told_here n [] j k p below once l e member = absurd (omega (arith, l))
  told_here n (q ∷ ps) zero k p below once l e member =
      let place : n + 0 ≡ n = omega arith in
      let here : is_in k (kids_of q.node) ≡ true = subst (λ x. is_in k (kids_of x.node) ≡ true) e member in
      let own : is_in n (kids_of q.node) ≡ false = small_out n n (kids_of q.node) (omega arith) below.0 in
      rw (place, e, here, own) refl
  told_here n (q ∷ ps) (suc j) k p below once l e member =
      let place : (n + 1) + j ≡ n + suc j = omega arith in
      let later : is_in k (children ps) ≡ true = member_later ps j k p (omega (arith, l)) e member in
      let out : is_in k (kids_of q.node) ≡ false = apart_back (kids_of q.node) (children ps) k once later in
      let own : is_in (n + suc j) (kids_of q.node) ≡ false =
      small_out n (n + suc j) (kids_of q.node) (omega arith) below.0 in
      let ih = told_here (n + 1) ps j k p below.1 (once_back (kids_of q.node) (children ps) once) (omega (arith, l)) e
      member in
      rw (out, own)
      (subst (λ m. told_among child (n + 1) ps k ≡ child p.node (told_among child (n + 1) ps m) k) place ih)

  -- The laws of every finished tree.

  module _ (nodes : List Placed) (root : ℕ) (s : Standing nodes root) where
    abbrev ps : List Placed
    ps = take (root + 1) nodes

    count : length ps ≡ root + 1
    count = length-take-le (root + 1) nodes (omega (arith, s.short))

    whole_told : told_of child nodes root root ≡ None
    unfolding told_of
    whole_told = not_told 0 ps root (no_child 0 ps root s.below (omega (arith, count)))

    kids_told : (q : ℕ) → q ≤ root → (other : Placed) →
        All (λ k. told_of child nodes root k ≡ child (get_or nodes q other).node (told_of child nodes root q) k)
        (kids_of (get_or nodes q other).node)
    unfolding told_of
    kids_told q l other =
        let p = get_or nodes q other in
        let place : 0 + q ≡ q = omega arith in
        let short : q < length ps = omega (arith, l, count) in
        let is : p ≡ get_or ps q p = get_or_default nodes q other p (omega (arith, l, s.short))
        ∙ sym (get_or-take (root + 1) nodes q p (omega (arith, l))) in
        λ i d m.
        let k = get_or (kids_of p.node) i d in
        told_here 0 ps q k p s.below (once_among (root + 1) nodes s.once) short is (in_at (kids_of p.node) i d m)
        ∙ ap (λ j. child p.node (told_among child 0 ps j) k) place

    pub hangs_together : HangsTogether child nodes root
    hangs_together = record { whole = whole_told; each = kids_told }

  pub hang_together : (t : TreeParts) → TreeRules t → HangsTogether child t.nodes t.root
  hang_together t h = hangs_together t.nodes t.root
      (record { short = h.root; below = below_take 0 (t.root + 1) t.nodes h.nodes.below; once = h.nodes.once })

  -- The table.

  -- before any node is seen nothing is told
  pub none_told : (ps : List Placed) (root : ℕ) (told : List (Option ℕ)) (n k : ℕ) → n ≡ root + 1
      → told ≡ replicate n None →
      get_or told k None ≡ told_among child n (drop n (take (root + 1) ps)) k
  unfolding told_among
  none_told ps root told n k is filled =
      let short : length (take (root + 1) ps) ≤ n = simp length-take (omega (arith, is)) in
      rw (drop_all n (take (root + 1) ps) short) (ap (λ xs. get_or xs k None) filled ∙ none_in n k)

  -- Where a node is seen, and these are told by the later ones.
  module _ (ps : List Placed) (root id : ℕ) (n : Node) (told : List (Option ℕ)) (below : id ≤ root)
      (here : (other : Placed) → n ≡ (get_or ps id other).node)
      (before : (k : ℕ) → k ≤ root → get_or told k None ≡ told_among child (id + 1) (drop (id + 1) (take (root + 1) ps))
      k) where
    -- its children are told nothing yet
    pub children_untold : IsDistinct nat_eq (children ps) → All (λ k. k < id) (kids_of n)
        → All (λ k. get_or told k None ≡ None) (kids_of n)
    unfolding children
    children_untold distinct small =
        let at = node_before ps id root n below here in
        let p = at.0 in
        let later = drop (id + 1) (take (root + 1) ps) in
        let all : Once (children (p ∷ later)) = subst (λ qs. Once (children qs)) at.2
        (once_from id (take (root + 1) ps) (once_among (root + 1) ps distinct)) in
        λ i d l.
        let k = get_or (kids_of n) i d in
        let less : k < id = small i d l in
        let member : is_in k (kids_of p.node) ≡ true = subst (λ m. is_in k (kids_of m) ≡ true) (sym at.1)
        (in_at (kids_of n) i d l) in
        before k (omega (arith, less, below)) ∙ not_told (id + 1) later k
        (apart (kids_of p.node) (children later) k all member)

    -- and then they are told by this node too
    pub children_told : (new : List (Option ℕ))
        → ((k : ℕ) → get_or new k None ≡ told_by child told n (get_or told id None) k) → (k : ℕ) → k ≤ root
        → get_or new k None ≡ told_among child id (drop id (take (root + 1) ps)) k
    unfolding told_among
    children_told new enclosed k small =
        let at = node_before ps id root n below here in
        let p = at.0 in
        let later = drop (id + 1) (take (root + 1) ps) in
        let outer = told_among child (id + 1) later id in
        let step : get_or new k None ≡ told_by child told n outer k = enclosed k
        ∙ ap (λ o. told_by child told n o k) (before id below) in
        rw at.2 (elim (in_or_not k (kids_of n)) [
          | inl member ↦ (let there : is_in k (kids_of p.node) ≡ true = subst (λ m. is_in k (kids_of m) ≡ true)
              (sym at.1) member in
              step ∙ rw (member, there, at.1) refl)
          | inr other ↦ (let there : is_in k (kids_of p.node) ≡ false = subst (λ m. is_in k (kids_of m) ≡ false)
              (sym at.1) other in
              step ∙ rw (other, there) (before k small))
        ])
