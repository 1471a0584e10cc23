-- The run of an item from a place in its run from an earlier one is the rest of that run.
use Rattle.std.proofs.Common.{◌≡◌, ℕ, zero, suc, ◌+◌, ◌-◌, ◌<◌, ◌≤◌, inl, inr, false, List, [], ◌∷◌, ◌++◌, length}
use Rattle.std.proofs.Common.{drop, reverse, Option, Some, None, refl, sym, ap, subst, ◌∙◌, arith, append_assoc}
use Rattle.std.proofs.lemmas.List.{reverse-append}
use Rattle.std.proofs.lemmas.Bool.{cases_lt}
use Rattle.pat_tree.specs.declared.nodes.Item.{Item}
use Rattle.match_items.specs.Scene.{Scene}
use Rattle.match_items.specs.Items.{after_item, run_places, longest_run}
use Rattle.match_items.specs.Views.{end_of}
use Rattle.match_items.proofs.OneItem.{after_item-end}
use Rattle.match_items.proofs.Places.{item_forward, place_before-less}

-- a list is the end of another
abbrev pub IsRest : List ℕ → List ℕ → Type 0
IsRest ys xs = (before : List ℕ) × (xs ≡ before ++ ys)

one_more : (n : ℕ) (xs : List ℕ) → IsRest (drop (suc n) xs) (drop n xs)
one_more zero [] = ([], refl)
one_more zero (x ∷ xs) = (x ∷ [], refl)
one_more (suc n) [] = ([], refl)
one_more (suc n) (x ∷ xs) = one_more n xs

rest_after : (before ys zs : List ℕ) → IsRest zs ys → IsRest zs (before ++ ys)
rest_after before ys zs r = (
  before ++ r.0,
  ap (λ l. before ++ l) r.1
      ∙ sym (append_assoc before r.0 zs),
)

-- without the first n of each
rest_of_dropped : (n : ℕ) (before ys : List ℕ) → IsRest (drop n ys) (drop n (before ++ ys))
rest_of_dropped zero before ys = (before, refl)
rest_of_dropped (suc n) [] ys = ([], refl)
rest_of_dropped (suc n) (x ∷ before) ys =
    let r = rest_of_dropped n before ys in
    let e = rest_after r.0 (drop n ys) (drop (suc n) ys) (one_more n ys) in
    (e.0, r.1 ∙ e.1)

-- so backwards it is the begin
pub begins_reversed : (n : ℕ) (xs ys : List ℕ) → IsRest ys xs
    → (after : List ℕ) × (reverse (drop n xs) ≡ reverse (drop n ys) ++ after)
begins_reversed n xs ys r =
    let d = rest_of_dropped n r.0 ys in (
      reverse d.0,
      ap (λ l. reverse (drop n l)) r.1 ∙ ap reverse d.1
          ∙ reverse-append d.0 (drop n ys),
    )

abbrev turned : Option ℕ → (ℕ → List ℕ) → List ℕ
turned o f = elim o as (λ _. List ℕ) [ None ↦ [] | Some q ↦ q ∷ f q ]

module _ (g : Scene) (item : Item) (bytes : g.options.utf ≡ false) where
  goes_one : (p q : ℕ) → after_item g item p ≡ Some q → (p < length g.subject) × (q ≡ p + 1)
  goes_one p q e = elim (cases_lt p (length g.subject)) [
    | inl inside ↦
        let f = item_forward g item p q bytes (omega arith) e in
        let before : q - 1 ≡ p = sym (place_before-less g q bytes) ∙ f.2 in
        let later = f.0 in
        (inside, omega arith)
    | inr past ↦ absurd (let none : None ≡ Some q = sym (after_item-end g item p past) ∙ e in cc)
  ]

  run_turn : (n p : ℕ) (o : Option ℕ) → after_item g item p ≡ o
      → run_places g item (suc n) None p ≡ turned o (run_places g item n None)
  unfolding run_places
  run_turn n p o e = ap (λ (o : Option ℕ). turned o (run_places g item n None)) e

  run_none : (p : ℕ) → run_places g item 0 None p ≡ []
  unfolding run_places
  run_none p = refl

  run_past : (n p : ℕ) → length g.subject ≤ p → run_places g item n None p ≡ []
  run_past zero p past = run_none p
  run_past (suc n) p past = run_turn n p None (after_item-end g item p past)

  -- a run goes no further where more places are allowed than are left
  run_enough : (n m p : ℕ) → length g.subject ≤ n + p → length g.subject ≤ m + p
      → run_places g item n None p ≡ run_places g item m None p
  run_enough zero m p h k = run_past 0 p (omega arith) ∙ sym (run_past m p (omega arith))
  run_enough (suc n) zero p h k = run_past (suc n) p (omega arith)
      ∙ sym (run_past 0 p (omega arith))
  run_enough (suc n) (suc m) p h k =
      by_next (λ q next. run_enough n m q (omega arith) (omega arith)) (after_item g item p) refl
    where
      by_next : ((q : ℕ) → q ≡ p + 1 → run_places g item n None q ≡ run_places g item m None q)
          → (o : Option ℕ) → after_item g item p ≡ o
          → run_places g item (suc n) None p ≡ run_places g item (suc m) None p
      by_next again None e = run_turn n p None e ∙ sym (run_turn m p None e)
      by_next again (Some q) e = run_turn n p (Some q) e
          ∙ ap (λ qs. q ∷ qs) (again q (goes_one p q e).1) ∙ sym (run_turn m p (Some q) e)

  rest_from : (m q n p : ℕ) → length g.subject ≤ m + q → length g.subject ≤ n + p → p < q
      → q ≤ end_of p (run_places g item n None p)
      → IsRest (q ∷ run_places g item m None q) (p ∷ run_places g item n None p)
  rest_from m q zero p k h less within =
      absurd (let none = subst (λ l. q ≤ end_of p l) (run_none p) within in omega (arith, none))
  rest_from m q (suc n) p k h less within =
      by_next (λ r next before inner. rest_from m q n r k (omega arith) before inner)
      (after_item g item p) refl
    where
      by_next : ((r : ℕ) → r ≡ p + 1 → r < q → q ≤ end_of r (run_places g item n None r)
          → IsRest (q ∷ run_places g item m None q) (r ∷ run_places g item n None r))
          → (o : Option ℕ) → after_item g item p ≡ o
          → IsRest (q ∷ run_places g item m None q) (p ∷ run_places g item (suc n) None p)
      by_next again None e =
          absurd (let none = subst (λ l. q ≤ end_of p l) (run_turn n p None e) within in
          omega (arith, none))
      by_next again (Some r) e =
          let next = (goes_one p r e).1 in
          let inner : q ≤ end_of r (run_places g item n None r) =
          subst (λ l. q ≤ end_of p l) (run_turn n p (Some r) e) within in
          let whole : p ∷ run_places g item (suc n) None p ≡ p ∷ r ∷ run_places g item n None r =
          ap (λ l. p ∷ l) (run_turn n p (Some r) e) in
          elim (cases_lt r q) [
            | inl before ↦ (
                let found = again r next before inner in
                (p ∷ found.0, whole ∙ ap (λ l. p ∷ l) found.1)
                )
            | inr here ↦ (
                let same : r ≡ q = omega arith in
                let runs : run_places g item n None r ≡ run_places g item m None q =
                run_enough n m r (omega arith) (omega arith)
                ∙ ap (run_places g item m None) same in (
                  p ∷ [],
                  whole ∙ ap (λ l. p ∷ r ∷ l) runs
                      ∙ ap (λ i. p ∷ i ∷ run_places g item m None q) same,
                )
                )
          ]

  pub later_rest : (p q : ℕ) → p ≤ q → q ≤ end_of p (longest_run g item None p)
      → IsRest (q ∷ longest_run g item None q) (p ∷ longest_run g item None p)
  later_rest p q ordered within = elim (cases_lt p q) [
    | inl less ↦ rest_from (length g.subject) q (length g.subject) p (omega arith) (omega arith)
        less within
    | inr at ↦ (
        let same : p ≡ q = omega arith in
        ([], ap (λ k. k ∷ longest_run g item None k) same)
        )
  ]

  -- a run ends in the subject
  pub end_within : (n p : ℕ) → p ≤ length g.subject
      → (p ≤ end_of p (run_places g item n None p))
      × (end_of p (run_places g item n None p) ≤ length g.subject)
  end_within zero p within = subst (λ l. (p ≤ end_of p l) × (end_of p l ≤ length g.subject))
      (sym (run_none p)) (omega arith, within)
  end_within (suc n) p within = by_next (λ q inside. end_within n q inside) (after_item g item p)
      refl
    where
      by_next : ((q : ℕ) → q ≤ length g.subject
          → (q ≤ end_of q (run_places g item n None q))
          × (end_of q (run_places g item n None q) ≤ length g.subject))
          → (o : Option ℕ) → after_item g item p ≡ o
          → (p ≤ end_of p (run_places g item (suc n) None p))
          × (end_of p (run_places g item (suc n) None p) ≤ length g.subject)
      by_next again None e = subst (λ l. (p ≤ end_of p l) × (end_of p l ≤ length g.subject))
          (sym (run_turn n p None e)) (omega arith, within)
      by_next again (Some q) e =
          let one = goes_one p q e in
          let inside = one.0 in
          let next = one.1 in
          let later = again q (omega arith) in
          let low = later.0 in
          subst (λ l. (p ≤ end_of p l) × (end_of p l ≤ length g.subject))
          (sym (run_turn n p (Some q) e)) (omega arith, later.1)
