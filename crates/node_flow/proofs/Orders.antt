-- What each node's list of parts is.
use Rattle.std.proofs.Common.{◌≡◌, ℕ, zero, suc, ◌+◌, ◌<◌, ◌≤◌, List, [], ◌∷◌, ◌++◌, take, length, get_or, All}
use Rattle.std.proofs.Common.{flat_map, inl, inr, ◌⊎◌, refl, sym, ap, ◌∙◌, arith, append_assoc, append-nil}
use Rattle.std.proofs.Common.{length-append}
use Rattle.std.proofs.Math.Seq.{get_or-append_seam, take-append_seam}
use Rattle.std.proofs.lemmas.List.{get_or-take, get_or_past, length-take}
use Rattle.std.proofs.lemmas.List.Elements.{All-head, All-tail}
use Rattle.pat_tree.specs.declared.nodes.Placed.{Placed}
use Rattle.pat_tree.specs.Rules.{kids_of}
use Rattle.node_flow.specs.Order.{list_of, orders_after, order}

-- the lists of later nodes come behind
record Extends (before after : List (List ℕ)) : Type 0 where
  more : List (List ℕ)
  is : after ≡ before ++ more

extends : (before : List (List ℕ)) (ps : List Placed) → Extends before (orders_after before ps)
unfolding orders_after
extends before [] = record { more = []; is = sym (append-nil before) }
extends before (p ∷ ps) =
    let own = length before ∷ flat_map (list_of before) (kids_of p.node) in
    let e = extends (before ++ own ∷ []) ps in
    record { more = own ∷ e.more; is = e.is ∙ append_assoc before (own ∷ []) e.more }

listed_after : (before : List (List ℕ)) (ps : List Placed) (i : ℕ) (p : Placed) → i < length ps → p ≡ get_or ps i p →
    list_of (orders_after before ps) (length before + i) ≡ (length before + i) ∷ flat_map
    (list_of (take (length before + i) (orders_after before ps))) (kids_of p.node)
unfolding orders_after
listed_after before [] i p l e = absurd (omega (arith, l))
listed_after before (q ∷ ps) zero p l e =
    let own = length before ∷ flat_map (list_of before) (kids_of q.node) in
    let x = extends (before ++ own ∷ []) ps in
    let all : orders_after (before ++ own ∷ []) ps ≡ before ++ own ∷ x.more = x.is
    ∙ append_assoc before (own ∷ []) x.more in
    let here : length before + 0 ≡ length before = omega arith in
    rw (here, all, e, take-append_seam before (own ∷ x.more)) (get_or-append_seam before own x.more [])
listed_after before (q ∷ ps) (suc i) p l e =
    let own = length before ∷ flat_map (list_of before) (kids_of q.node) in
    let place : length (before ++ own ∷ []) + i ≡ length before + suc i =
    omega (arith, length-append before (own ∷ [])) in
    rw (← place) (listed_after (before ++ own ∷ []) ps i p (omega (arith, l)) e)

-- itself, and what those of its children have that are earlier
pub listed : (ps : List Placed) (k : ℕ) (p : Placed) → k < length ps → p ≡ get_or ps k p
    → order ps k ≡ k ∷ flat_map (list_of (take k (orders_after [] ps))) (kids_of p.node)
unfolding order
listed ps k p l e =
    let place : 0 + k ≡ k = omega arith in
    rw place at (listed_after [] ps k p l e)

-- those are the children's own lists
earlier : (ps : List Placed) (n k : ℕ) → k < n → list_of (take n (orders_after [] ps)) k ≡ order ps k
unfolding order
earlier ps n k l = get_or-take n (orders_after [] ps) k [] l

pub not_earlier : (ps : List Placed) (n k : ℕ) → n ≤ k → list_of (take n (orders_after [] ps)) k ≡ []
not_earlier ps n k l = get_or_past (take n (orders_after [] ps)) k [] (simp length-take (omega (arith, l)))

pub is_earlier : (ps : List Placed) (n k : ℕ) → ((k < n) × (list_of (take n (orders_after [] ps)) k ≡ order ps k)) ⊎
    (list_of (take n (orders_after [] ps)) k ≡ [])
is_earlier ps n k =
    let cases : (k < n) ⊎ (n ≤ k) = grind arith in
    elim cases [ inl less ↦ inl (less, earlier ps n k less) | inr past ↦ inr (not_earlier ps n k past) ]

all_earlier : (ps : List Placed) (n : ℕ) (ks : List ℕ) → All (λ k. k < n) ks
    → flat_map (list_of (take n (orders_after [] ps))) ks ≡ flat_map (order ps) ks
all_earlier ps n [] h = refl
all_earlier ps n (k ∷ ks) h =
    ap (λ xs. xs ++ flat_map (list_of (take n (orders_after [] ps))) ks) (earlier ps n k (All-head (λ x. x < n) k ks h))
    ∙ ap (λ xs. order ps k ++ xs) (all_earlier ps n ks (All-tail (λ x. x < n) k ks h))

-- a part comes before those under it, and these stand child by child
pub first : (ps : List Placed) (k : ℕ) (p : Placed) → k < length ps → p ≡ get_or ps k p
    → All (λ x. x < k) (kids_of p.node) → order ps k ≡ k ∷ flat_map (order ps) (kids_of p.node)
first ps k p l e below = listed ps k p l e ∙ ap (λ xs. k ∷ xs) (all_earlier ps k (kids_of p.node) below)

length_after : (before : List (List ℕ)) (ps : List Placed) → length (orders_after before ps) ≡ length before + length ps
unfolding orders_after
length_after before [] = omega arith
length_after before (p ∷ ps) =
    let own = length before ∷ flat_map (list_of before) (kids_of p.node) in
    omega (arith, length_after (before ++ own ∷ []) ps, length-append before (own ∷ []))

-- past the last node there is none
pub past : (ps : List Placed) (k : ℕ) → length ps ≤ k → order ps k ≡ []
unfolding order
past ps k l = get_or_past (orders_after [] ps) k [] (omega (arith, l, length_after [] ps))
