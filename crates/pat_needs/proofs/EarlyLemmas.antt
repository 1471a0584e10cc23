-- Texts that the first of some parts take.
use Rattle.std.proofs.Common.{◌≡◌, ◌∙◌, ℕ, suc, ◌-◌, ◌<◌, ◌≤◌, ◌⊎◌, Bool, true, List, [], ◌∷◌, ◌++◌, map, Option}
use Rattle.std.proofs.Common.{Some, None, inl, inr, length, length-append, length-drop, take, drop, take-append-drop}
use Rattle.std.proofs.Common.{get_or, refl, sym, ap, subst, arith}
use Rattle.std.specs.Prelude.{IfSome}
use Rattle.std.proofs.lemmas.List.{length-map, take-map, take_at}
use Rattle.pat_tree.specs.declared.nodes.Item.{Item}
use Rattle.pat_tree.specs.Nested.{Nested, row}
use Rattle.pat_tree.specs.Parts.{TreeParts, tree_of}
use Rattle.char_sets.specs.Sets.{class_has}
use Rattle.pat_bounds.specs.declared.bounds.Bound.{Bound}
use Rattle.pat_bounds.specs.Bounds.{bound_in_turn}
use Rattle.pat_bounds.proofs.Backwards.{back}
use Rattle.pat_needs.specs.Needs.{Begins, Needs, SomeNeeds}
use Rattle.pat_needs.specs.Lacking.{sequence}
use Rattle.pat_needs.specs.Texts.{sets_of}
use Rattle.pat_needs.specs.NeedTables.{may_of, IsNeed, IsRun, AreNeeds, IsEarly, IsLacking}
use Rattle.pat_needs.specs.declared.lacking.Early.{Early}
use Rattle.pat_needs.specs.declared.needs.Wanted.{Wanted}

-- what holds of three holds of what is one of them
pub early_of_three : (P : Option Early → Type 0) (best one other r : Option Early)
    → (r ≡ best) ⊎ ((r ≡ one) ⊎ (r ≡ other)) → P best → P one → P other → P r
early_of_three P best one other r (inl e) h k l = subst P (sym e) h
early_of_three P best one other r (inr (inl e)) h k l = subst P (sym e) k
early_of_three P best one other r (inr (inr e)) h k l = subst P (sym e) l

pub behind_fewer : (count all : ℕ) (o : Option Early) → count ≤ all
    → IfSome o (λ early. early.behind ≤ count) → IfSome o (λ early. early.behind ≤ all)
behind_fewer count all None le h = tt
behind_fewer count all (Some early) le h = omega (arith, le, h)

module _ (may : Item → ℕ → Bool) (utf : Bool) where
  -- from whom a text was copied
  abbrev IsFrom : Option Wanted → Wanted → Type 0
  IsFrom o w = (wanted : Wanted) × ((o ≡ Some wanted) × (sets_of w.text ≡ sets_of wanted.text))

  -- what holds of the parts from one place on holds from the place before it on
  pub early_back : (of : ℕ → Nested) (needs : List (Option Wanted)) (xs : List ℕ) (i : ℕ)
      (first : Option Wanted) (Had Has : List Nested → Type 0) → 0 < i → i ≤ length xs
      → first ≡ get_or needs (get_or xs (i - 1) 0) None
      → (AreNeeds may utf true of needs (drop i xs) → Had (map of (drop i xs)))
      → ((t : Nested) (ts : List Nested) → length (t ∷ ts) ≡ length xs - (i - 1)
      → IsNeed may utf true t first → Had ts → Has (t ∷ ts))
      → AreNeeds may utf true of needs (drop (i - 1) xs) → Has (map of (drop (i - 1) xs))
  early_back of needs xs i first Had Has p l is rest join =
      let a = length-map (drop i xs) of in
      let b = length-drop i xs in
      let t = of (get_or xs (i - 1) 0) in
      let ts = map of (drop i xs) in
      let long : length (t ∷ ts) ≡ length xs - (i - 1) = omega (arith, a, b, p, l) in
      rw (back xs i p l)
      (λ kept. join t ts long (rw is (kept 0 0 (omega arith)))
      (rest (λ k d l. kept (suc k) d (omega (arith, l)))))

  pub early_part : (t : Nested) (ts : List Nested) (need : Option Wanted) (w : Wanted)
      (count : ℕ) → length (t ∷ ts) ≡ count → IsNeed may utf true t need → IsFrom need w
      → IsEarly may utf (t ∷ ts) (Some (record { wanted = w; behind = count - 1 }))
  early_part t ts need w count long h from =
      let told = subst (IsNeed may utf true t) from.1.0 h in (
        t ∷ [],
        ts,
        (refl, (omega (arith, long), inl (subst (λ sets. Needs may utf true sets t) (sym from.1.1) told.needs))),
      )

  begins_taken : (sets : List (List Bool)) (ts : List Nested) → Begins may utf sets (row ts)
      → Begins may utf sets (row (take (length sets) ts))
  begins_taken [] ts h = tt
  begins_taken (set ∷ sets) [] h = absurd h
  begins_taken (set ∷ sets) (t ∷ ts) h = (h.0, (h.1.0, begins_taken sets ts h.1.1))

  pub early_run : (t : Nested) (ts : List Nested) (run : Option Wanted) (w : Wanted)
      (count behind : ℕ) → length (t ∷ ts) ≡ count → behind ≡ count - length (sets_of w.text)
      → IsRun may utf (row (t ∷ ts)) run → IsFrom run w
      → IsEarly may utf (t ∷ ts) (Some (record { wanted = w; behind = behind }))
  early_run t ts run w count behind long is h from =
      let n = length (sets_of w.text) in
      let told = subst (IsRun may utf (row (t ∷ ts))) from.1.0 h in
      let begun : Begins may utf (sets_of w.text) (row (t ∷ ts)) =
      subst (λ sets. Begins may utf sets (row (t ∷ ts))) (sym from.1.1) told.1 in
      let left = length-drop n (t ∷ ts) in (
        take n (t ∷ ts),
        drop n (t ∷ ts),
        (
          sym (take-append-drop n (t ∷ ts)),
          (omega (arith, left, long, is), inr (inl (begins_taken (sets_of w.text) (t ∷ ts) begun))),
        ),
      )

  pub early_later : (t : Nested) (ts : List Nested) (best : Option Early)
      → IsEarly may utf ts best → IsEarly may utf (t ∷ ts) best
  early_later t ts None h = tt
  early_later t ts (Some early) h =
      (t ∷ h.0, h.1, (ap (λ (l : List Nested). t ∷ l) h.2.0, (h.2.1.0, inr (inr (refl, h.2.1.1)))))

  -- What the first parts need the whole sequence does.

  begins_of_first : (sets : List (List Bool)) (ts us : List Nested) → Begins may utf sets (row ts)
      → Begins may utf sets (row (ts ++ us))
  begins_of_first [] ts us h = tt
  begins_of_first (set ∷ sets) [] us h = absurd h
  begins_of_first (set ∷ sets) (t ∷ ts) us h =
      (h.0, (h.1.0, begins_of_first sets ts us h.1.1))

  pub some_of_first : (sets : List (List Bool)) (ts us : List Nested)
      → SomeNeeds may utf true sets (row ts) → SomeNeeds may utf true sets (row (ts ++ us))
  some_of_first sets [] us h = absurd h
  some_of_first sets (t ∷ ts) us (inl h) = inl h
  some_of_first sets (t ∷ ts) us (inr (inl h)) = inr (inl (begins_of_first sets (t ∷ ts) us h))
  some_of_first sets (t ∷ ts) us (inr (inr h)) = inr (inr (h.0, some_of_first sets ts us h.1))

-- so many parts are the first ones
pub first_parts : (of : ℕ → Nested) (xs : List ℕ) (ts us : List Nested) (behind : ℕ)
    → map of xs ≡ ts ++ us → length us ≡ behind → map of (take (length xs - behind) xs) ≡ ts
first_parts of xs ts us behind is count =
    let n = length xs - behind in
    let a = length-map xs of in
    let b = ap length is in
    let c = length-append ts us in
    sym (take-map of n xs) ∙ ap (λ (l : List Nested). take n l) is
    ∙ take_at ts us n (omega (arith, a, b, c, count))

pub early_lacking : (t : TreeParts) (w : Wanted) (b : Bound) (ts us : List Nested)
    → tree_of t ≡ sequence (ts ++ us)
    → SomeNeeds (may_of t) t.options.utf true (sets_of w.text) (row ts)
    → bound_in_turn (class_has t) (row ts) ≡ Some b
    → IsLacking t (record { wanted = w; bound = b })
early_lacking t w b ts us is needs bounded = record {
  text = subst (Needs (may_of t) t.options.utf true (sets_of w.text)) (sym is)
      (some_of_first (may_of t) t.options.utf (sets_of w.text) ts us needs, tt);
  bound = inr (ts, us, (is, (needs, bounded)));
}
