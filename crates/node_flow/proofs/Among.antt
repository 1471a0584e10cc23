-- What follows parts, told by nodes of which each child stands once.
use Rattle.std.proofs.Common.{◌≡◌, ℕ, zero, suc, ◌+◌, ◌<◌, ◌≤◌, true, false, if◌then◌else◌, List, [], ◌∷◌, ◌++◌}
use Rattle.std.proofs.Common.{length, get_or, All, Some, None, inl, inr, refl, sym, ◌∙◌, subst, arith}
use Rattle.std.proofs.Math.Bool.{or-true}
use Rattle.std.proofs.lemmas.List.Elements.{All-nil, All-head, All-weaker}
use Rattle.pat_tree.specs.declared.nodes.Node.{Node}
use Rattle.pat_tree.specs.declared.nodes.Node.TheVariants as node
use Rattle.pat_tree.specs.declared.nodes.Placed.{Placed}
use Rattle.pat_tree.specs.Rules.{number_in, kids_of}
use Rattle.pat_tree.specs.Refs.{is_in}
use Rattle.pat_tree.specs.Growing.{AreBelow}
use Rattle.pat_tree.specs.Sound.{children}
use Rattle.node_flow.specs.Followers.{later_than, after_child, rest_among}
use Rattle.node_flow.proofs.Members.{Once, once_front, once_back, apart_back, in_or_not, in_at, in_append, of_member}
use Rattle.node_flow.proofs.Later.{after_all, later_chain}

-- followers are parts that the nodes or their children are numbered up to
pub inside : (n : ℕ) (ps : List Placed) (k : ℕ) → AreBelow n ps → All (λ p. p < n + length ps) (rest_among n ps k)
unfolding rest_among
inside n [] k below = All-nil (λ p. p < n + 0)
inside n (q ∷ ps) k below =
    let place : (n + 1) + length ps ≡ n + suc (length ps) = omega arith in
    let later : (j : ℕ) → All (λ p. p < n + suc (length ps)) (rest_among (n + 1) ps j) =
    λ j. subst (λ m. All (λ p. p < m) (rest_among (n + 1) ps j)) place (inside (n + 1) ps j below.1) in
    let kids : All (λ p. p < n + suc (length ps)) (kids_of q.node) =
    All-weaker (λ p. p < n) (λ p. p < n + suc (length ps)) (λ p l. omega (arith, l)) (kids_of q.node) below.0 in
    elim (in_or_not k (kids_of q.node)) [
      | inl member ↦ rw member (after_all (λ p. p < n + suc (length ps)) q.node (rest_among (n + 1) ps n) k kids
          (later n))
      | inr other ↦ rw other (later k)
    ]

-- and are children
pub are_children : (n : ℕ) (ps : List Placed) (k : ℕ) → All (λ p. is_in p (children ps) ≡ true) (rest_among n ps k)
unfolding rest_among children
are_children n [] k = All-nil (λ p. is_in p [] ≡ true)
are_children n (q ∷ ps) k =
    let P : ℕ → Type 0 = λ p. is_in p (kids_of q.node ++ children ps) ≡ true in
    let later : (j : ℕ) → All P (rest_among (n + 1) ps j) =
    λ j. All-weaker (λ p. is_in p (children ps) ≡ true) P (λ p h. in_append p (kids_of q.node) (children ps)
    ∙ rw (h, or-true) refl) (rest_among (n + 1) ps j) (are_children (n + 1) ps j) in
    let kids : All P (kids_of q.node) = λ i d l. in_append (get_or (kids_of q.node) i d) (kids_of q.node)
    (children ps) ∙ rw (in_at (kids_of q.node) i d l) refl in
    elim (in_or_not k (kids_of q.node)) [
      | inl member ↦ rw member (after_all P q.node (rest_among (n + 1) ps n) k kids (later n))
      | inr other ↦ rw other (later k)
    ]

-- Where p follows the child k of a node, and then others.
module _ (after others : List ℕ) (p : ℕ) (tail : List ℕ) where
  -- what follows p, by this node or else by later ones
  abbrev pub By : Node → Type 0
  By n = (if is_in p (kids_of n) then after_child n after p else others) ≡ tail

  in_sequence : (kids later : List ℕ) → later_than p kids ≡ later → is_in p kids ≡ true → later ++ after ≡ tail
      → By (node.Seq kids)
  in_sequence kids later is member e = rw (member, is) e

  pub of_child : (n : Node) (k : ℕ) → Once (kids_of n) → (after ≡ p ∷ tail → By n) → after_child n after k ≡ p ∷ tail
      → By n
  of_child node.Empty k once passed e = absurd cc
  of_child (node.One item) k once passed e = absurd cc
  of_child node.Break k once passed e = absurd cc
  of_child (node.Seq kids) k once passed e =
      let cases : (later : List ℕ) → later_than k kids ≡ later → later ++ after ≡ p ∷ tail → By (node.Seq kids) =
      λ later. elim later as (λ l. later_than k kids ≡ l → l ++ after ≡ p ∷ tail → By (node.Seq kids)) [
        | [] ↦ λ is f. passed f
        | x ∷ xs ↦ λ is f. (let same : x ≡ p = cc in
            let rest : xs ++ after ≡ tail = cc in
            let chain = later_chain k x kids xs once is in
            in_sequence kids xs (subst (λ y. later_than y kids ≡ xs) same chain.1)
            (subst (λ y. is_in y kids ≡ true) same chain.0) rest)
      ] in
      cases (later_than k kids) refl e
  of_child (node.Group None branches) k once passed e = passed e
  of_child (node.Group (Some n) branches) k once passed e = absurd cc
  of_child (node.Repeat body min max lazy) k once passed e = absurd cc
  of_child (node.OneRepeat item min max lazy) k once passed e = absurd cc
  of_child (node.Atomic branches) k once passed e = absurd cc
  of_child (node.Look ahead positive once' branches) k once passed e = absurd cc
  of_child (node.Cond test yes' no') k once passed e =
      elim (in_or_not k (yes' ∷ number_in no')) [
        | inl member ↦ passed (rw member at e)
        | inr other ↦ (let none : [] ≡ p ∷ tail = rw other at e in absurd cc)
      ]
  of_child (node.Call n) k once passed e = absurd cc
  of_child (node.Ref groups caseless) k once passed e = absurd cc
  of_child (node.Anchor kind) k once passed e = absurd cc
  of_child node.KeepOut k once passed e = absurd cc
  of_child (node.VerbNode v) k once passed e = absurd cc
  of_child (node.Callout number from to at len) k once passed e = absurd cc

-- the first part that follows is followed by the others
pub chained : (n : ℕ) (ps : List Placed) (k p : ℕ) (tail : List ℕ) → Once (children ps) → rest_among n ps k ≡ p ∷ tail
    → rest_among n ps p ≡ tail
unfolding rest_among children
chained n [] k p tail once e = absurd cc
chained n (q ∷ ps) k p tail once e =
    let kids = kids_of q.node in
    let after = rest_among (n + 1) ps n in
    let by_later : (j : ℕ) → rest_among (n + 1) ps j ≡ p ∷ tail
    → (if is_in p kids then after_child q.node after p else rest_among (n + 1) ps p) ≡ tail =
    λ j f. (let member : is_in p (children ps) ≡ true =
    All-head (λ x. is_in x (children ps) ≡ true) p tail
    (subst (All (λ x. is_in x (children ps) ≡ true)) f (are_children (n + 1) ps j)) in
    let out : is_in p kids ≡ false = apart_back kids (children ps) p once member in
    rw out (chained (n + 1) ps j p tail (once_back kids (children ps) once) f)) in
    elim (in_or_not k kids) [
      | inl member ↦ of_child after (rest_among (n + 1) ps p) p tail q.node k (once_front kids (children ps) once)
          (by_later n) (rw member at e)
      | inr other ↦ by_later k (rw other at e)
    ]

pub small_out : (n k : ℕ) (ks : List ℕ) → n ≤ k → All (λ x. x < n) ks → is_in k ks ≡ false
small_out n k ks l h =
    elim (in_or_not k ks) [
      | inl member ↦ (let less : k < n = of_member (λ x. x < n) ks k h member in absurd (omega (arith, l, less)))
      | inr other ↦ other
    ]

-- no node has a part as a child that has a number as great as its own
pub no_child : (n : ℕ) (ps : List Placed) (k : ℕ) → AreBelow n ps → n + length ps ≤ k + 1
    → is_in k (children ps) ≡ false
unfolding children
no_child n [] k below l = refl
no_child n (q ∷ ps) k below l =
    let rest = no_child (n + 1) ps k below.1 (omega (arith, l)) in
    let first = small_out n k (kids_of q.node) (omega (arith, l)) below.0 in
    in_append k (kids_of q.node) (children ps) ∙ rw (first, rest) refl

pub member_later : (ps : List Placed) (j k : ℕ) (p : Placed) → j < length ps → p ≡ get_or ps j p
    → is_in k (kids_of p.node) ≡ true → is_in k (children ps) ≡ true
unfolding children
member_later [] j k p l e member = absurd (omega (arith, l))
member_later (q ∷ ps) zero k p l e member = in_append k (kids_of q.node) (children ps)
    ∙ (let here : is_in k (kids_of q.node) ≡ true = subst (λ x. is_in k (kids_of x.node) ≡ true) e member in
    rw here refl)
member_later (q ∷ ps) (suc j) k p l e member = in_append k (kids_of q.node) (children ps)
    ∙ rw (member_later ps j k p (omega (arith, l)) e member, or-true) refl

-- what follows a child of the node at a place is what this node says
pub followed : (n : ℕ) (ps : List Placed) (j k : ℕ) (p : Placed) → AreBelow n ps → Once (children ps) → j < length ps
    → p ≡ get_or ps j p → is_in k (kids_of p.node) ≡ true →
    rest_among n ps k ≡ after_child p.node (rest_among n ps (n + j)) k
unfolding rest_among children
followed n [] j k p below once l e member = absurd (omega (arith, l))
followed n (q ∷ ps) zero k p below once l e member =
    let place : n + 0 ≡ n = omega arith in
    let here : is_in k (kids_of q.node) ≡ true = subst (λ x. is_in k (kids_of x.node) ≡ true) e member in
    let own : is_in n (kids_of q.node) ≡ false = small_out n n (kids_of q.node) (omega arith) below.0 in
    rw (place, e, here, own) refl
followed n (q ∷ ps) (suc j) k p below once l e member =
    let place : (n + 1) + j ≡ n + suc j = omega arith in
    let later : is_in k (children ps) ≡ true = member_later ps j k p (omega (arith, l)) e member in
    let out : is_in k (kids_of q.node) ≡ false = apart_back (kids_of q.node) (children ps) k once later in
    let own : is_in (n + suc j) (kids_of q.node) ≡ false =
    small_out n (n + suc j) (kids_of q.node) (omega arith) below.0 in
    let ih = followed (n + 1) ps j k p below.1 (once_back (kids_of q.node) (children ps) once) (omega (arith, l)) e
    member in
    rw (out, own) (subst (λ m. rest_among (n + 1) ps k ≡ after_child p.node (rest_among (n + 1) ps m) k) place ih)

-- each child stands once among those of its node
pub once_at : (ps : List Placed) (j : ℕ) (p : Placed) → Once (children ps) → j < length ps → p ≡ get_or ps j p
    → Once (kids_of p.node)
unfolding children
once_at [] j p once l e = absurd (omega (arith, l))
once_at (q ∷ ps) zero p once l e = subst (λ x. Once (kids_of x.node)) (sym e)
    (once_front (kids_of q.node) (children ps) once)
once_at (q ∷ ps) (suc j) p once l e = once_at ps j p (once_back (kids_of q.node) (children ps) once)
    (omega (arith, l)) e
