-- No part stands at two places of the order: two lists with a common part have a common way up from it.
use Rattle.std.specs.List.{IsDistinct}
use Rattle.std.proofs.Common.{◌≡◌, ◌≢◌, ℕ, zero, suc, ◌+◌, ◌<◌, ◌≤◌, Bool, true, false, ◌||◌, ◌==◌, nat_eq, List, []}
use Rattle.std.proofs.Common.{◌∷◌, ◌++◌, flat_map, take, length, get_or, inl, inr, ◌⊎◌, refl, sym, ap, ◌∙◌, subst}
use Rattle.std.proofs.Common.{arith, All, append_assoc, append-nil}
use Rattle.std.proofs.Math.Bool.{or-true}
use Rattle.std.proofs.lemmas.Bool.Decides.{nat_tests}
use Rattle.std.proofs.lemmas.List.{get_or_default}
use Rattle.pat_tree.specs.declared.nodes.Node.TheVariants.{Empty}
use Rattle.pat_tree.specs.declared.nodes.Placed.{Placed}
use Rattle.pat_tree.specs.Rules.{kids_of}
use Rattle.pat_tree.specs.Refs.{is_in}
use Rattle.pat_tree.specs.Growing.{AreBelow}
use Rattle.pat_tree.specs.Sound.{children}
use Rattle.pat_tree.proofs.Reached.{reached_node}
use Rattle.node_flow.specs.Order.{StandTogether, list_of, orders_after, order}
use Rattle.node_flow.proofs.Members.{Once, once, same_or_other, in_or_not, true_false, in_append, once_back, apart}
use Rattle.node_flow.proofs.Among.{member_later, once_at}
use Rattle.node_flow.proofs.Orders.{listed, is_earlier, past, first}
use Rattle.node_flow.proofs.Places.{distinct as apart_all}

one_of : (a b : Bool) → (a || b) ≡ true → (a ≡ true) ⊎ (b ≡ true)
one_of true b h = inl refl
one_of false b h = inr h

-- Lists one after the other.
module _ (f : ℕ → List ℕ) where
  -- what is in them is in one of them
  record InOne (ks : List ℕ) (x : ℕ) : Type 0 where
    at : ℕ
    listed : is_in at ks ≡ true
    has : is_in x (f at) ≡ true

  in_one : (ks : List ℕ) (x : ℕ) → is_in x (flat_map f ks) ≡ true → InOne ks x
  in_one [] x h = absurd (true_false false h refl)
  in_one (k ∷ ks) x h =
      let same : (k == k) ≡ true = grind (arith, nat_tests) in
      elim (one_of (is_in x (f k)) (is_in x (flat_map f ks)) (sym (in_append x (f k) (flat_map f ks)) ∙ h)) [
        | inl here ↦ record { at = k; listed = rw same refl; has = here }
        | inr later ↦ (let o = in_one ks x later in record {
          at = o.at;
          listed = rw (o.listed, or-true) refl;
          has = o.has;
        })
      ]

  pub in_all : (ks : List ℕ) (a x : ℕ) → is_in a ks ≡ true → is_in x (f a) ≡ true → is_in x (flat_map f ks) ≡ true
  in_all [] a x h m = absurd (true_false false h refl)
  in_all (k ∷ ks) a x h m =
      in_append x (f k) (flat_map f ks) ∙ elim (same_or_other k a) [
        | inl same ↦ (let here : is_in x (f k) ≡ true = subst (λ j. is_in x (f j) ≡ true) (sym same.0) m in
            rw here refl)
        | inr other ↦ (let later = in_all ks a x (rw other.1 at h) m in rw (later, or-true) refl)
      ]

all_together : (f : ℕ → List ℕ) (ks : List ℕ) (a : ℕ) → is_in a ks ≡ true → StandTogether (flat_map f ks) (f a)
all_together f [] a h = absurd (true_false false h refl)
all_together f (k ∷ ks) a h =
    elim (same_or_other k a) [
      | inl same ↦ record { front = []; back = flat_map f ks; is = ap (λ j. f j ++ flat_map f ks) same.0 }
      | inr other ↦ (let later = all_together f ks a (rw other.1 at h) in
          record {
            front = f k ++ later.front;
            back = later.back;
            is = ap (λ xs. f k ++ xs) later.is ∙ simp append_assoc;
          })
    ]

within_those : (whole middle part : List ℕ) (p : ℕ) → StandTogether whole (p ∷ middle) → StandTogether middle part
    → StandTogether whole part
within_those whole middle part p a b = record {
  front = a.front ++ p ∷ b.front;
  back = b.back ++ a.back;
  is = a.is ∙ ap (λ xs. (a.front ++ (p ∷ xs)) ++ a.back) b.is ∙ simp append_assoc;
}

once_append : (xs ys : List ℕ) → Once xs → Once ys → ((x : ℕ) → is_in x xs ≡ true → is_in x ys ≡ false)
    → Once (xs ++ ys)
unfolding Once
once_append [] ys a b h = b
once_append (x ∷ xs) ys a b h =
    let same : (x == x) ≡ true = grind (arith, nat_tests) in
    let out : is_in x ys ≡ false = h x (rw same refl) in
    (in_append x xs ys ∙ rw (a.0, out) refl, once_append xs ys a.1 b (λ y m. h y (rw (m, or-true) refl)))

none : Placed
none = record { node = Empty; at = 0 }

unique_parent : (ps : List Placed) (i j x : ℕ) → Once (children ps) → i < length ps → j < length ps
    → is_in x (kids_of (get_or ps i none).node) ≡ true → is_in x (kids_of (get_or ps j none).node) ≡ true → i ≡ j
unfolding children
unique_parent [] i j x once l m h k = absurd (omega (arith, l))
unique_parent (p ∷ ps) zero zero x once l m h k = refl
unique_parent (p ∷ ps) zero (suc j) x once l m h k =
    let q = get_or ps j none in
    let s : j < length ps = omega (arith, m) in
    let later : is_in x (children ps) ≡ true = member_later ps j x q s (get_or_default ps j none q s) k in
    absurd (true_false (is_in x (children ps)) later (apart (kids_of p.node) (children ps) x once h))
unique_parent (p ∷ ps) (suc i) zero x once l m h k =
    let q = get_or ps i none in
    let s : i < length ps = omega (arith, l) in
    let later : is_in x (children ps) ≡ true = member_later ps i x q s (get_or_default ps i none q s) h in
    absurd (true_false (is_in x (children ps)) later (apart (kids_of p.node) (children ps) x once k))
unique_parent (p ∷ ps) (suc i) (suc j) x once l m h k =
    ap suc (unique_parent ps i j x (once_back (kids_of p.node) (children ps) once) (omega (arith, l))
    (omega (arith, m)) h k)

-- the children of each of the nodes are told apart
module _ (ps : List Placed) (once : Once (children ps)) where
  kids_at : ℕ → List ℕ
  kids_at k = kids_of (get_or ps k none).node

  own : (k : ℕ) → k < length ps → order ps k ≡ k ∷ flat_map (list_of (take k (orders_after [] ps))) (kids_at k)
  unfolding kids_at
  own k l = listed ps k (get_or ps k none) l (get_or_default ps k none (get_or ps k none) l)

  -- A part that is under another is a child of one that is too.
  record Above (k x : ℕ) : Type 0 where
    parent : ℕ
    later : x < parent
    within : parent ≤ k
    under : is_in parent (order ps k) ≡ true
    child : is_in x (kids_at parent) ≡ true

  -- parts under another have smaller numbers
  pub small : (n k x : ℕ) → k < n → k < length ps → is_in x (order ps k) ≡ true → x ≤ k
  small zero k x l s h = absurd (omega (arith, l))
  small (suc n) k x l s h =
      let lists = take k (orders_after [] ps) in
      let inside : is_in x (k ∷ flat_map (list_of lists) (kids_at k)) ≡ true = rw own at h in
      elim (same_or_other k x) [
        | inl same ↦ omega (arith, same.0)
        | inr other ↦ (let o = in_one (list_of lists) (kids_at k) x (rw other.1 at inside) in
            elim (is_earlier ps k o.at) [
              | inl less ↦ (let m = small n o.at x (omega (arith, l, less.0)) (omega (arith, s, less.0))
                  (rw less.1 at o.has) in omega (arith, m, less.0))
              | inr past ↦ absurd (true_false (is_in x (list_of lists o.at)) o.has (ap (is_in x) past))
            ])
      ]

  above : (n k x : ℕ) → k < n → k < length ps → is_in x (order ps k) ≡ true → (x ≡ k) ⊎ Above k x
  above zero k x l s h = absurd (omega (arith, l))
  above (suc n) k x l s h =
      let lists = take k (orders_after [] ps) in
      let inside : is_in x (k ∷ flat_map (list_of lists) (kids_at k)) ≡ true = rw own at h in
      let same_k : (k == k) ≡ true = grind (arith, nat_tests) in
      let itself : is_in k (order ps k) ≡ true = ap (is_in k) (own k s) ∙ rw same_k refl in
      elim (same_or_other k x) [
        | inl same ↦ inl (sym same.0)
        | inr other ↦ (let o = in_one (list_of lists) (kids_at k) x (rw other.1 at inside) in
            elim (is_earlier ps k o.at) [
              | inl less ↦ elim (above n o.at x (omega (arith, l, less.0)) (omega (arith, s, less.0))
                  (rw less.1 at o.has)) [
                    | inl is ↦ inr (record {
                      parent = k;
                      later = omega (arith, is, less.0);
                      within = omega arith;
                      under = itself;
                      child = subst (λ j. is_in j (kids_at k) ≡ true) (sym is) o.listed;
                    })
                    | inr up ↦ (let there : is_in up.parent (list_of lists o.at) ≡ true = ap (is_in up.parent) less.1
                        ∙ up.under in
                        let too : is_in up.parent (k ∷ flat_map (list_of lists) (kids_at k)) ≡ true =
                        rw (in_all (list_of lists) (kids_at k) o.at up.parent o.listed there, or-true) refl in
                        inr (record {
                          parent = up.parent;
                          later = up.later;
                          within = omega (arith, up.within, less.0);
                          under = ap (is_in up.parent) (own k s) ∙ too;
                          child = up.child;
                        }))
                  ]
              | inr past ↦ absurd (true_false (is_in x (list_of lists o.at)) o.has (ap (is_in x) past))
            ])
      ]

  -- a child of a node is no child of one under an earlier
  not_above : (q b x : ℕ) → q < length ps → b < q → is_in x (kids_at q) ≡ true → Above b x → ⊥
  unfolding kids_at
  not_above q b x s l member up =
      let one : up.parent ≡ q = unique_parent ps up.parent q x once (omega (arith, up.within, l, s)) s up.child member
      in
      omega (arith, one, up.within, l)

  same_parent : (a b x : ℕ) → a < length ps → b < length ps → (up : Above a x) → (other : Above b x)
      → up.parent ≡ other.parent
  unfolding kids_at
  same_parent a b x l m up other = unique_parent ps up.parent other.parent x once (omega (arith, up.within, l))
      (omega (arith, other.within, m)) up.child other.child

  -- a part is not under two children of one node
  disjoint : (n q a b x : ℕ) → q ≤ x + n → q < length ps → a < q → b < q → a ≢ b → is_in a (kids_at q) ≡ true
      → is_in b (kids_at q) ≡ true →
      is_in x (order ps a) ≡ true → is_in x (order ps b) ≡ true → ⊥
  disjoint zero q a b x far s la lb differ ka kb ha hb =
      (let l : x ≤ a = small (suc a) a x (omega arith) (omega (arith, la, s)) ha in omega (arith, l, la, far))
  disjoint (suc n) q a b x far s la lb differ ka kb ha hb =
      elim (above (suc a) a x (omega arith) (omega (arith, la, s)) ha) [
        | inl is_a ↦ elim (above (suc b) b x (omega arith) (omega (arith, lb, s)) hb) [
          | inl is_b ↦ differ (sym is_a ∙ is_b)
          | inr up ↦ not_above q b x s lb (subst (λ j. is_in j (kids_at q) ≡ true) (sym is_a) ka) up
        ]
        | inr up ↦ elim (above (suc b) b x (omega arith) (omega (arith, lb, s)) hb) [
          | inl is_b ↦ not_above q a x s la (subst (λ j. is_in j (kids_at q) ≡ true) (sym is_b) kb) up
          | inr other ↦ (let same : up.parent ≡ other.parent = same_parent a b x (omega (arith, la, s))
              (omega (arith, lb, s)) up other in
              let there : is_in up.parent (order ps b) ≡ true =
              subst (λ j. is_in j (order ps b) ≡ true) (sym same) other.under in
              disjoint n q a b up.parent (omega (arith, far, up.later)) s la lb differ ka kb up.under there)
        ]
      ]

  -- the lists of children that stand once
  once_turn : (k : ℕ) (ks : List ℕ) → k < length ps → Once ks
      → ((a : ℕ) → is_in a ks ≡ true → is_in a (kids_at k) ≡ true) → ((a : ℕ) → a < k → Once (order ps a)) →
      Once (flat_map (list_of (take k (orders_after [] ps))) ks)
  unfolding Once
  once_turn k [] s distinct all each = tt
  once_turn k (a ∷ ks) s distinct all each =
      let f = list_of (take k (orders_after [] ps)) in
      let same : (a == a) ≡ true = grind (arith, nat_tests) in
      let rest = once_turn k ks s distinct.1 (λ b m. all b (rw (m, or-true) refl)) each in
      elim (is_earlier ps k a) [
        | inl less ↦ once_append (f a) (flat_map f ks) (subst Once (sym less.1) (each a less.0)) rest (λ x m.
            elim (in_or_not x (flat_map f ks)) [
              | inl inside ↦ (let o = in_one f ks x inside in
                  elim (is_earlier ps k o.at) [
                    | inl other ↦ (let differ : a ≢ o.at = λ e. true_false (is_in o.at ks) o.listed
                        (subst (λ j. is_in j ks ≡ false) e distinct.0) in
                        absurd (disjoint k k a o.at x (omega arith) s less.0 other.0 differ (all a (rw same refl))
                        (all o.at (rw (o.listed, or-true) refl)) (rw less.1 at m) (rw other.1 at o.has)))
                    | inr past ↦ absurd (true_false (is_in x (f o.at)) o.has (ap (is_in x) past))
                  ])
              | inr out ↦ out
            ])
        | inr past ↦ rw past rest
      ]

  once_order : (n k : ℕ) → k < n → k < length ps → Once (order ps k)
  unfolding Once kids_at
  once_order zero k l s = absurd (omega (arith, l))
  once_order (suc n) k l s =
      let lists = take k (orders_after [] ps) in
      let p = get_or ps k none in
      let each : (a : ℕ) → a < k → Once (order ps a) = λ a m. once_order n a (omega (arith, m, l))
      (omega (arith, m, s)) in
      let rest : Once (flat_map (list_of lists) (kids_at k)) =
      once_turn k (kids_at k) s (once_at ps k p once s (get_or_default ps k none p s)) (λ a m. m) each in
      let out : is_in k (flat_map (list_of lists) (kids_at k)) ≡ false =
      elim (in_or_not k (flat_map (list_of lists) (kids_at k))) [
        | inl inside ↦ (let o = in_one (list_of lists) (kids_at k) k inside in
            elim (is_earlier ps k o.at) [
              | inl less ↦ (let m : k ≤ o.at = small (suc o.at) o.at k (omega arith) (omega (arith, less.0, s))
                  (rw less.1 at o.has) in absurd (omega (arith, m, less.0)))
              | inr past ↦ absurd (true_false (is_in k (list_of lists o.at)) o.has (ap (is_in k) past))
            ])
        | inr other ↦ other
      ] in
      subst Once (sym (own k s)) (out, rest)

  -- where each child has a smaller number than its node
  module _ (below : (k : ℕ) → k < length ps → All (λ x. x < k) (kids_at k)) (root : ℕ) (s : root < length ps) where
    by_parent : (q : ℕ) (up : Above root q) → StandTogether (order ps root) (order ps up.parent)
        → StandTogether (order ps root) (order ps q)
    unfolding kids_at
    by_parent q up there =
        let l : up.parent < length ps = omega (arith, up.within, s) in
        let p = get_or ps up.parent none in
        let is : order ps up.parent ≡ up.parent ∷ flat_map (order ps) (kids_at up.parent) =
        first ps up.parent p l (get_or_default ps up.parent none p l) (below up.parent l) in
        within_those (order ps root) (flat_map (order ps) (kids_at up.parent)) (order ps q) up.parent
        (subst (StandTogether (order ps root)) is there) (all_together (order ps) (kids_at up.parent) q up.child)

    itself : (q : ℕ) → q ≡ root → StandTogether (order ps root) (order ps q)
    itself q is = record { front = []; back = []; is = ap (order ps) (sym is) ∙ sym (append-nil (order ps q)) }

    together : (n q : ℕ) → root ≤ q + n → is_in q (order ps root) ≡ true → StandTogether (order ps root) (order ps q)
    together zero q far h =
        elim (above (suc root) root q (omega arith) s h) [
          | inl is ↦ itself q is
          | inr up ↦ absurd (omega (arith, far, up.later, up.within))
        ]
    together (suc n) q far h =
        elim (above (suc root) root q (omega arith) s h) [
          | inl is ↦ itself q is
          | inr up ↦ by_parent q up (together n up.parent (omega (arith, far, up.later)) up.under)
        ]

pub stands_once : (ps : List Placed) (k : ℕ) → IsDistinct nat_eq (children ps) → IsDistinct nat_eq (order ps k)
unfolding IsDistinct
stands_once ps k distinct =
    let cases : (k < length ps) ⊎ (length ps ≤ k) = grind arith in
    elim cases [
      | inl less ↦ apart_all (order ps k) (once_order ps (once (children ps) distinct) (suc k) k (omega arith) less)
      | inr out ↦ subst (IsDistinct nat_eq) (sym (past ps k out)) tt
    ]

pub stands_together : (ps : List Placed) (root q : ℕ) → IsDistinct nat_eq (children ps) → AreBelow 0 ps
    → root < length ps → is_in q (order ps root) ≡ true →
    StandTogether (order ps root) (order ps q)
unfolding kids_at
stands_together ps root q distinct below s h =
    let each : (k : ℕ) → k < length ps → All (λ x. x < k) (kids_of (get_or ps k none).node) =
    λ k l. (let p = get_or ps k none in (reached_node ps k p below l (get_or_default ps k none p l)).1) in
    together ps (once (children ps) distinct) each root s root q (omega arith) h
