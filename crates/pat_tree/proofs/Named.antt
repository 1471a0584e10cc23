-- The leftmost place that names no group.
use Rattle.std.specs.List.{list_all, Any}
use Rattle.std.proofs.lemmas.Bool.{cases_lt}
use Rattle.std.proofs.lemmas.List.Elements.{All-cons, All-nil, All-weaker}
use Rattle.std.proofs.Common.{min, suc, ◌≤◌, inl, inr, Bool, true, false, ◌||◌, ◌&&◌, ◌==◌, ◌≡◌, ℕ, List, [], ◌∷◌}
use Rattle.std.proofs.Common.{◌++◌, map, Option, Some, None, refl, sym, ap, if◌then◌else◌, arith}
use Rattle.std.proofs.Math.Bool.{and-true}
use Rattle.pat_tree.specs.Refs.{is_called, beside_whole, least_of, bad_ref, IsLeftmost}

pub stand_beside : (stands : ℕ → Bool) (ns : List ℕ)
    → list_all (is_called stands) ns ≡ list_all stands (beside_whole ns)
unfolding is_called
stand_beside stands [] = refl
stand_beside stands (n ∷ ns) =
    elim (n == 0) as (λ t. ((t || stands n) && list_all (is_called stands) ns) ≡ list_all stands
    (if t then beside_whole ns else n ∷ beside_whole ns)) [
      | true ↦ stand_beside stands ns
      | false ↦ ap (λ t. stands n && t) (stand_beside stands ns)
    ]

pub call_stands : (stands : ℕ → Bool) (n : ℕ) → is_called stands n ≡ list_all stands (beside_whole (n ∷ []))
unfolding is_called
call_stands stands n = elim (n == 0) as (λ t. (t || stands n) ≡ list_all stands (if t then [] else n ∷ [])) [
  | true ↦ refl
  | false ↦ sym (and-true (stands n))
]

least_twice : (at : ℕ) (other : Option ℕ) → least_of at (Some (least_of at other)) ≡ least_of at other
least_twice at None = omega arith
least_twice at (Some b) = omega arith

-- one place with the groups that are named there
pub bad_at : (stands : ℕ → Bool) (at : ℕ) (ns : List ℕ) (rest : List (ℕ × ℕ)) →
    bad_ref stands (map (λ n. (at, n)) ns ++ rest) ≡ (if list_all stands ns then bad_ref stands rest else Some
    (least_of at (bad_ref stands rest)))
bad_at stands at [] rest = refl
bad_at stands at (n ∷ ns) rest =
    rw (bad_at stands at ns rest) (elim (stands n) as (λ t.
    (if t then (if list_all stands ns then bad_ref stands rest else Some (least_of at (bad_ref stands rest))) else
    Some (least_of at (if list_all stands ns then bad_ref stands rest else Some
    (least_of at (bad_ref stands rest)))))
    ≡ (if t && list_all stands ns then bad_ref stands rest else Some (least_of at (bad_ref stands rest)))) [
      | true ↦ refl
      | false ↦ elim (list_all stands ns)
          as (λ u. Some (least_of at (if u then bad_ref stands rest else Some (least_of at (bad_ref stands rest))))
          ≡ Some (least_of at (bad_ref stands rest))) [
            | true ↦ refl
            | false ↦ ap Some (least_twice at (bad_ref stands rest))
          ]
    ])

any_here : {X : Type 0} (P : X → Type 0) (x : X) (xs : List X) → P x → Any P (x ∷ xs)
any_here P x xs h = (0, x, omega arith, refl, h)

any_there : {X : Type 0} (P : X → Type 0) (x : X) (xs : List X) → Any P xs → Any P (x ∷ xs)
any_there P x xs h = (suc h.0, h.1, omega (arith, h.2), h.3, h.4)

module _ (stands : ℕ → Bool) where
  Good : ℕ × ℕ → Type 0
  Good r = stands r.1 ≡ true

  Bad : ℕ → ℕ × ℕ → Type 0
  Bad at r = (r.0 ≡ at) × (stands r.1 ≡ false)

  Past : ℕ → ℕ × ℕ → Type 0
  Past at r = stands r.1 ≡ false → at ≤ r.0

  never_both : {A : Type 0} (t : Bool) → t ≡ true → t ≡ false → A
  never_both true e f = absurd cc
  never_both false e f = absurd cc

  one_more : (r : ℕ × ℕ) (rs : List (ℕ × ℕ)) (t : Bool) (b : Option ℕ) → stands r.1 ≡ t → IsLeftmost stands rs b
      → IsLeftmost stands (r ∷ rs) (if t then b else Some (least_of r.0 b))
  unfolding Good Bad Past
  one_more r rs true None e ih = All-cons Good r rs e ih
  one_more r rs true (Some at) e ih = (
    any_there (Bad at) r rs ih.0,
    All-cons (Past at) r rs (λ f. never_both (stands r.1) e f) ih.1,
  )
  one_more r rs false None e ih = (
    any_here (Bad r.0) r rs (refl, e),
    All-cons (Past r.0) r rs (λ f. omega arith)
        (All-weaker Good (Past r.0) (λ s good f. never_both (stands s.1) good f) rs ih),
  )
  one_more r rs false (Some at) e ih = elim (cases_lt at r.0) [
    | inl less ↦ (
        let is : min r.0 at ≡ at = omega (arith, less) in
        let found : Any (Bad (min r.0 at)) (r ∷ rs) = rw is (any_there (Bad at) r rs ih.0) in (
          found,
          All-cons (Past (min r.0 at)) r rs (λ f. omega arith)
              (All-weaker (Past at) (Past (min r.0 at)) (λ s past f. omega (arith, past f)) rs ih.1),
        )
        )
    | inr more ↦ (
        let is : min r.0 at ≡ r.0 = omega (arith, more) in
        let found : Any (Bad (min r.0 at)) (r ∷ rs) = rw is (any_here (Bad r.0) r rs (refl, e)) in (
          found,
          All-cons (Past (min r.0 at)) r rs (λ f. omega arith)
              (All-weaker (Past at) (Past (min r.0 at)) (λ s past f. omega (arith, past f)) rs ih.1),
        )
        )
  ]

  pub leftmost_is : (named : List (ℕ × ℕ)) → IsLeftmost stands named (bad_ref stands named)
  unfolding Good
  leftmost_is [] = All-nil Good
  leftmost_is (r ∷ rs) = one_more r rs (stands r.1) (bad_ref stands rs) refl (leftmost_is rs)

-- two tests that agree find the same place
pub bad_ref_same : (f g : ℕ → Bool) → ((n : ℕ) → f n ≡ g n) → (named : List (ℕ × ℕ)) → bad_ref f named ≡ bad_ref g named
bad_ref_same f g same [] = refl
bad_ref_same f g same (r ∷ rs) = rw (same r.1, bad_ref_same f g same rs) refl
