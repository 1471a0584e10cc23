-- Texts of the parts from a place on are texts of all parts.
use Rattle.std.proofs.Common.{◌≡◌, ◌∙◌, ℕ, zero, suc, ◌+◌, ◌-◌, ◌<◌, ◌≤◌, Bool, true, false, List, [], ◌∷◌, All}
use Rattle.std.proofs.Common.{Option, Some, None, inl, inr, length, length-drop, map, drop, get_or, refl, sym, ap, subst, arith}
use Rattle.std.specs.Prelude.{IfSome}
use Rattle.std.proofs.lemmas.List.{length-map}
use Rattle.pat_tree.specs.declared.nodes.Item.{Item}
use Rattle.pat_tree.specs.Nested as tree
use Rattle.pat_tree.specs.Nested.{Nested, Row, row}
use Rattle.pat_bounds.proofs.Backwards.{back}
use Rattle.pat_needs.specs.Distances.{IsLong, NeedsFrom}
use Rattle.pat_needs.specs.NeedTables.{AreNeeds, IsBehind, IsDistant, IsEarly, IsNeed, IsRun, IsSomeNeed}
use Rattle.pat_needs.specs.Needs.{SomeNeeds}
use Rattle.pat_needs.specs.Texts.{sets_of}
use Rattle.pat_needs.specs.declared.choice.Choice.{Choice}
use Rattle.pat_needs.specs.declared.lacking.Early.{Early}
use Rattle.pat_needs.specs.declared.needs.Far.{Far}
use Rattle.pat_needs.specs.declared.needs.Wanted.{Wanted}
use Rattle.pat_needs.proofs.EarlyLemmas.{early_later}
use Rattle.pat_needs.proofs.NeedLemmas.{some_behind, some_part, some_run}

pub drop_at : (xs : List ℕ) (i : ℕ) → i < length xs → drop i xs ≡ get_or xs i 0 ∷ drop (suc i) xs
drop_at [] i l = absurd (omega (arith, l))
drop_at (x ∷ xs) zero l = refl
drop_at (x ∷ xs) (suc i) l = drop_at xs i (omega (arith, l))

module _ (may : Item → ℕ → Bool) (utf anywhere : Bool) (of : ℕ → Nested) (needs : List (Option Wanted)) (xs : List ℕ)
    (i : ℕ) (l : i < length xs) where
  abbrev part : Nested
  part = of (get_or xs i 0)

  abbrev later : Row
  later = row (map of (drop (suc i) xs))

  abbrev from_here : Row
  from_here = row (map of (drop i xs))

  here : tree.more part later ≡ from_here
  here = ap (λ ks. row (map of ks)) (sym (drop_at xs i l))

  -- what is copied of a part's text
  pub some_at : (first copy : Option Wanted) → first ≡ get_or needs (get_or xs i 0) None
      → AreNeeds may utf anywhere of needs xs → IfSome copy (λ w. w.is_item ≡ false) →
      ((wanted : Wanted) → first ≡ Some wanted → IfSome copy (λ w. sets_of w.text ≡ sets_of wanted.text))
      → (first ≡ None → copy ≡ None) → IsSomeNeed may utf anywhere from_here copy
  some_at first copy is kept item some none =
      subst (λ ts. IsSomeNeed may utf anywhere ts copy) here
      (some_part may utf anywhere part later first copy
      (subst (IsNeed may utf anywhere part) (sym is) (kept i 0 l)) item some none)

  -- or of the items from it on
  pub run_some : (run copy : Option Wanted) → IsRun may utf from_here run → IfSome copy (λ w. w.is_item ≡ false) →
      ((wanted : Wanted) → run ≡ Some wanted → IfSome copy (λ w. sets_of w.text ≡ sets_of wanted.text))
      → (run ≡ None → copy ≡ None) → IsSomeNeed may utf anywhere from_here copy
  run_some run copy begun item some none =
      subst (λ ts. IsSomeNeed may utf anywhere ts copy) here
      (some_run may utf anywhere part later run copy (subst (λ ts. IsRun may utf ts run) (sym here) begun) item some
      none)

  -- is one of all parts, or of the first
  pub chosen : (r : Option Wanted) → (anywhere ≡ false → i ≡ 0) → IsSomeNeed may utf anywhere from_here r
      → IsSomeNeed may utf anywhere (row (map of xs)) r
  chosen r first h = by_place anywhere refl r h
    where
      by_place : (b : Bool) → anywhere ≡ b → (r : Option Wanted) → IsSomeNeed may utf anywhere from_here r
          → IsSomeNeed may utf anywhere (row (map of xs)) r
      by_place b is None h = tt
      by_place true is (Some w) h = (
        h.0,
        subst (λ b. SomeNeeds may utf b (sets_of w.text) (row (map of xs))) (sym is)
            (some_behind may utf (sets_of w.text) of xs i (omega (arith, l))
            (subst (λ b. SomeNeeds may utf b (sets_of w.text) from_here) is h.1)),
      )
      by_place false is (Some w) h =
          subst (λ k. IsSomeNeed may utf anywhere (row (map of (drop k xs))) (Some w)) (first is) h

-- a text of the first of the parts from a place on
pub early_whole : (may : Item → ℕ → Bool) (utf : Bool) (of : ℕ → Nested) (xs : List ℕ) (i : ℕ) (r : Option Early)
    → IsEarly may utf (map of (drop i xs)) r → IsEarly may utf (map of xs) r
early_whole may utf of xs zero r h = h
early_whole may utf of [] (suc i) r h = h
early_whole may utf of (x ∷ xs) (suc i) r h =
    early_later may utf (of x) (map of xs) r (early_whole may utf of xs i r h)

module _ (may : Item → ℕ → Bool) (utf : Bool) (of : ℕ → Nested) (xs : List ℕ) (i : ℕ) (l : i < length xs) where
  abbrev rest : List Nested
  rest = map of (drop (suc i) xs)

  pub early_from : (count : ℕ) (r : Option Early) → count ≡ length xs - i
      → (length (of (get_or xs i 0) ∷ rest) ≡ count → IsEarly may utf (of (get_or xs i 0) ∷ rest) r)
      → IsEarly may utf (map of xs) r
  early_from count r is takes =
      let a = length-map (drop (suc i) xs) of in
      let b = length-drop (suc i) xs in
      let long : length (of (get_or xs i 0) ∷ rest) ≡ count = omega (arith, a, b, l, is) in
      early_whole may utf of xs i r (subst (λ ks. IsEarly may utf (map of ks) r) (sym (drop_at xs i l)) (takes long))

  pub run_from_here : (run : Option Wanted) → IsRun may utf (row (map of (drop i xs))) run
      → IsRun may utf (row (of (get_or xs i 0) ∷ rest)) run
  run_from_here run h = subst (λ ks. IsRun may utf (row (map of ks)) run) (drop_at xs i l) h

-- A text at a distance.
module _ (may : Item → ℕ → Bool) (utf : Bool) (of : ℕ → Nested) (xs : List ℕ) where
  -- what is chosen of the parts from a place on
  abbrev pub IsFar : ℕ → Far → Type 0
  IsFar i far =
      (far.choice.at < length xs)
      × ((text : List (List Bool)) → NeedsFrom may utf text 0 (row (map of (drop far.choice.at xs)))
      → NeedsFrom may utf text far.distance (row (map of (drop i xs))))

  module _ (i : ℕ) (p : 0 < i) (l : i ≤ length xs) where
    abbrev before : ℕ
    before = get_or xs (i - 1) 0

    -- behind a part of so many bytes
    pub far_before : (best : Option Far) (length : Option ℕ) (r : Option Far) → IfSome best (IsFar i)
        → IfSome length (λ n. IsLong may utf n (of before)) →
        IfSome r (λ told. (n k : ℕ) × ((length ≡ Some n) × ((told.distance ≡ n + k)
        × (best ≡ Some (record { choice = told.choice; distance = k })))))
        → IfSome r (IsFar (i - 1))
    far_before best length None h long k = tt
    far_before best length (Some told) h long k =
        let old : IsFar i (record { choice = told.choice; distance = k.1 }) = subst (λ o. IfSome o (IsFar i)) k.2.1.1 h in
        let takes : IsLong may utf k.0 (of before) =
        subst (λ o. IfSome o (λ n. IsLong may utf n (of before))) k.2.0 long in (
          old.0,
          λ text needs. subst (λ ks. NeedsFrom may utf text told.distance (row (map of ks))) (sym (back xs i p l))
              (inr (k.0, k.1, (k.2.1.0, (takes, old.1 text needs)))),
        )

  -- or none
  pub far_here : (i : ℕ) (far : Far) → i < length xs → far.choice.at ≡ i → far.distance ≡ 0 → IsFar i far
  far_here i far l at none = (
    subst (λ k. k < length xs) (sym at) l,
    λ text needs. subst (λ d. NeedsFrom may utf text d (row (map of (drop i xs)))) (sym none)
        (subst (λ k. NeedsFrom may utf text 0 (row (map of (drop k xs)))) at needs),
  )
