-- Where a child stands among the children of the nodes.
use Rattle.std.specs.List.{IsDistinct}
use Rattle.std.proofs.Common.{◌≡◌, ℕ, ◌+◌, false, nat_eq, List, [], ◌∷◌, ◌++◌, take, drop, refl, sym, ap, ◌∙◌, subst}
use Rattle.std.proofs.Common.{append_assoc}
use Rattle.std.proofs.lemmas.List.{take-append-drop}
use Rattle.pat_tree.specs.declared.nodes.Placed.{Placed}
use Rattle.pat_tree.specs.Rules.{kids_of}
use Rattle.pat_tree.specs.Refs.{is_in}
use Rattle.pat_tree.specs.Sound.{children}
use Rattle.node_flow.specs.Followers.{rest_among}
use Rattle.node_flow.proofs.Members.{Once, once, once_front, once_back, neither}

pub children_append : (ps qs : List Placed) → children (ps ++ qs) ≡ children ps ++ children qs
unfolding children
children_append [] qs = refl
children_append (p ∷ ps) qs = ap (λ ks. kids_of p.node ++ ks) (children_append ps qs)
    ∙ sym (append_assoc (kids_of p.node) (children ps) (children qs))

-- of the first nodes
pub once_among : (n : ℕ) (ps : List Placed) → IsDistinct nat_eq (children ps) → Once (children (take n ps))
once_among n ps distinct =
    once_front (children (take n ps)) (children (drop n ps))
    (subst Once (ap children (sym (take-append-drop n ps)) ∙ children_append (take n ps) (drop n ps))
    (once (children ps) distinct))

-- and of the last
pub once_from : (n : ℕ) (ps : List Placed) → Once (children ps) → Once (children (drop n ps))
once_from n ps h = once_back (children (take n ps)) (children (drop n ps))
    (subst Once (ap children (sym (take-append-drop n ps)) ∙ children_append (take n ps) (drop n ps)) h)

-- what no node has as a child is followed by nothing
pub not_among : (n : ℕ) (ps : List Placed) (k : ℕ) → is_in k (children ps) ≡ false → rest_among n ps k ≡ []
unfolding rest_among children
not_among n [] k h = refl
not_among n (p ∷ ps) k h =
    let apart = neither (kids_of p.node) (children ps) k h in
    rw apart.0 (not_among (n + 1) ps k apart.1)
