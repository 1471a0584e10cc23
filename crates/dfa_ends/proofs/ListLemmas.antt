-- Lists of spots as sets.
use Rattle.std.proofs.Common.{◌≡◌, ℕ, zero, suc, ◌<◌, ◌≤◌, ◌⊎◌, Bool, true, false, List, [], ◌∷◌, refl, sym, ap₂}
use Rattle.std.proofs.Common.{subst, inl, inr, arith, eqb-true, eq-eqb, le-leb, leb-true}
use Rattle.std.specs.Prelude.{nat_le, ◌==◌, ◌&&◌, not}
use Rattle.dfa_ends.specs.Ends.{Spot, spot, Spots, Way, HasOne, HasNone, Times}
use Rattle.dfa_ends.specs.EndList.{In, same_spot, has_spot, union, every, keep_if, after_turns, changed, further}
use Rattle.dfa_ends.specs.EndList.{all_within, longest, if_any}

pub both_true : (a b : Bool) → (a && b) ≡ true → (a ≡ true) × (b ≡ true)
both_true true b e = (refl, e)
both_true false b e = cc

pub and_true : (a b : Bool) → a ≡ true → b ≡ true → (a && b) ≡ true
and_true true b e f = f
and_true false b e f = cc

pub spot_eq : (x y : Spot) → same_spot x y ≡ true → x ≡ y
spot_eq x y e =
    let h = both_true (x.place == y.place) (x.early == y.early) e in
    ap₂ (λ p q. spot p q) (eqb-true x.place y.place h.0) (eqb-true x.early y.early h.1)

pub same_self : (x : Spot) → same_spot x x ≡ true
same_self x = and_true _ _ (eq-eqb x.place x.place refl) (eq-eqb x.early x.early refl)

clash : (b : Bool) → b ≡ false → b ≡ true → ⊥
clash b e f = cc

pub not_same : (x y : Spot) → same_spot x y ≡ false → x ≡ y → ⊥
not_same x y e q = clash (same_spot x y) e (subst (λ z. same_spot x z ≡ true) q (same_self x))

by_test : (x y : Spot) (b : Bool) → same_spot x y ≡ b → (x ≡ y) ⊎ (x ≡ y → ⊥)
by_test x y true e = inl (spot_eq x y e)
by_test x y false e = inr (not_same x y e)

pub decide_spot : (x y : Spot) → (x ≡ y) ⊎ (x ≡ y → ⊥)
decide_spot x y = by_test x y (same_spot x y) refl

has_case : (x : Spot) (xs : List Spot) (y : Spot) (b : Bool) → same_spot x y ≡ b →
    elim b [ true ↦ true | false ↦ has_spot xs y ] ≡ true → (has_spot xs y ≡ true → In y xs) →
    (y ≡ x) ⊎ In y xs
has_case x xs y true s e f = inl (sym (spot_eq x y s))
has_case x xs y false s e f = inr (f e)

has_in : (xs : List Spot) (y : Spot) → has_spot xs y ≡ true → In y xs
unfolding has_spot In
has_in [] y e = cc
has_in (x ∷ xs) y e = has_case x xs y (same_spot x y) refl e (has_in xs y)

in_add_case : (x y : Spot) (xs : List Spot) (b : Bool) →
    In y (elim b [ true ↦ xs | false ↦ x ∷ xs ]) → (y ≡ x) ⊎ In y xs
unfolding In
in_add_case x y xs true h = inr h
in_add_case x y xs false h = h

add_in_case : (x y : Spot) (xs : List Spot) (b : Bool) → has_spot xs x ≡ b → (y ≡ x) ⊎ In y xs →
    In y (elim b [ true ↦ xs | false ↦ x ∷ xs ])
unfolding In
add_in_case x y xs true e h =
    elim h [ inl a ↦ subst (λ z. In z xs) (sym a) (has_in xs x e) | inr b ↦ b ]
add_in_case x y xs false e h = h

pub in_union : (xs ys : List Spot) (y : Spot) → In y (union xs ys) → In y xs ⊎ In y ys
unfolding union In
in_union [] ys y h = inr h
in_union (x ∷ xs) ys y h =
    elim (in_add_case x y (union xs ys) (has_spot (union xs ys) x) h) [
      | inl a ↦ inl (inl a)
      | inr b ↦ elim (in_union xs ys y b) [ inl c ↦ inl (inr c) | inr d ↦ inr d ]
    ]

pub union_in : (xs ys : List Spot) (y : Spot) → In y xs ⊎ In y ys → In y (union xs ys)
unfolding union In
union_in [] ys y h = elim h [ inl a ↦ absurd a | inr b ↦ b ]
union_in (x ∷ xs) ys y h =
    add_in_case x y (union xs ys) (has_spot (union xs ys) x) refl
    (elim h [
      | inl a ↦ elim a [ inl c ↦ inl c | inr d ↦ inr (union_in xs ys y (inl d)) ]
      | inr b ↦ inr (union_in xs ys y (inr b))
    ])

pub in_every : (f : Spot → List Spot) (xs : List Spot) (y : Spot) → In y (every f xs) →
    (x : Spot) × In x xs × In y (f x)
unfolding every In
in_every f [] y h = absurd h
in_every f (x ∷ xs) y h =
    elim (in_union (f x) (every f xs) y h) [
      | inl a ↦ (x, inl refl, a)
      | inr b ↦ let r = in_every f xs y b in (r.0, inr r.1, r.2)
    ]

pub every_in : (f : Spot → List Spot) (xs : List Spot) (x y : Spot) → In x xs → In y (f x) →
    In y (every f xs)
unfolding every In
every_in f [] x y h i = absurd h
every_in f (z ∷ xs) x y h i =
    union_in (f z) (every f xs) y (elim h [
      | inl a ↦ inl (subst (λ w. In y (f w)) a i)
      | inr b ↦ inr (every_in f xs x y b i)
    ])

keep_case : (p : Spot → Bool) (x y : Spot) (xs : List Spot) (b : Bool) → p x ≡ b →
    In y (elim b [ true ↦ x ∷ keep_if p xs | false ↦ keep_if p xs ]) →
    (In y (keep_if p xs) → In y xs × (p y ≡ true)) → ((y ≡ x) ⊎ In y xs) × (p y ≡ true)
unfolding In
keep_case p x y xs true e h f =
    elim h [
      | inl a ↦ (inl a, subst (λ z. p z ≡ true) (sym a) e)
      | inr b ↦ (inr (f b).0, (f b).1)
    ]
keep_case p x y xs false e h f = (inr (f h).0, (f h).1)

pub in_keep : (p : Spot → Bool) (xs : List Spot) (y : Spot) → In y (keep_if p xs) →
    In y xs × (p y ≡ true)
unfolding keep_if In
in_keep p [] y h = absurd h
in_keep p (x ∷ xs) y h = keep_case p x y xs (p x) refl h (in_keep p xs y)

keep_in_case : (p : Spot → Bool) (x y : Spot) (xs : List Spot) (b : Bool) → p x ≡ b → p y ≡ true →
    (y ≡ x) ⊎ In y (keep_if p xs) →
    In y (elim b [ true ↦ x ∷ keep_if p xs | false ↦ keep_if p xs ])
unfolding In
keep_in_case p x y xs true e f h = h
keep_in_case p x y xs false e f h =
    elim h [ inl a ↦ absurd (clash (p x) e (subst (λ z. p z ≡ true) a f)) | inr b ↦ b ]

pub keep_in : (p : Spot → Bool) (xs : List Spot) (y : Spot) → In y xs → p y ≡ true →
    In y (keep_if p xs)
unfolding keep_if In
keep_in p [] y h e = absurd h
keep_in p (x ∷ xs) y h e =
    keep_in_case p x y xs (p x) refl e (elim h [ inl a ↦ inl a | inr b ↦ inr (keep_in p xs y b e) ])

pub in_all_within : (xs : List Spot) (p : ℕ) → all_within xs p ≡ true → (z : Spot) → In z xs →
    z.place ≤ p
unfolding all_within In
in_all_within [] p e z h = absurd h
in_all_within (x ∷ xs) p e z h =
    let b = both_true (nat_le x.place p) (all_within xs p) e in
    elim h [
      | inl a ↦ subst (λ w. w.place ≤ p) (sym a) (leb-true x.place p b.0)
      | inr c ↦ in_all_within xs p b.1 z c
    ]

pub all_within_of : (xs : List Spot) (p : ℕ) → ((z : Spot) → In z xs → z.place ≤ p) →
    all_within xs p ≡ true
unfolding all_within In
all_within_of [] p f = refl
all_within_of (x ∷ xs) p f =
    and_true (nat_le x.place p) (all_within xs p) (le-leb x.place p (f x (inl refl)))
    (all_within_of xs p (λ z i. f z (inr i)))

-- A list holds the spots of a set.
pub record Lists (xs : List Spot) (Y : Spots) : Type 0 where
  pub sound : (y : Spot) → In y xs → Y y
  pub full : (y : Spot) → Y y → In y xs

pub lists_same : (xs : List Spot) (Y Z : Spots) → ((y : Spot) → Y y → Z y) →
    ((y : Spot) → Z y → Y y) → Lists xs Y → Lists xs Z
lists_same xs Y Z to from h =
    record { sound = λ y i. to y (h.sound y i); full = λ y i. h.full y (from y i) }

pub lists_one : (x : Spot) → Lists (x ∷ []) (λ y. y ≡ x)
unfolding In
lists_one x = record { sound = λ y i. elim i [ inl a ↦ a | inr b ↦ absurd b ]; full = λ y i. inl i }

pub lists_none : (Y : Spots) → HasNone Y → Lists [] Y
unfolding In
lists_none Y none = record { sound = λ y i. absurd i; full = λ y i. none y i }

pub lists_union : (xs ys : List Spot) (Y Z : Spots) → Lists xs Y → Lists ys Z →
    Lists (union xs ys) (λ y. Y y ⊎ Z y)
lists_union xs ys Y Z h k = record {
  sound = λ y i. elim (in_union xs ys y i)
      [ inl a ↦ inl (h.sound y a) | inr b ↦ inr (k.sound y b) ];
  full = λ y i. union_in xs ys y (elim i [ inl a ↦ inl (h.full y a) | inr b ↦ inr (k.full y b) ]);
}

pub lists_every : (f : Spot → List Spot) (xs : List Spot) (Y : Spots) (w : Way) → Lists xs Y →
    ((x : Spot) → Lists (f x) (w x)) →
    Lists (every f xs) (λ y. (z : Spot) × Y z × w z y)
lists_every f xs Y w h k = record {
  sound = λ y i. let r = in_every f xs y i in (r.0, h.sound r.0 r.1, (k r.0).sound y r.2);
  full = λ y i. every_in f xs i.0 y (h.full i.0 i.1) ((k i.0).full y i.2);
}

-- lists are empty or not, so a set with a list is decided
pub one_or_none : (xs : List Spot) (Y : Spots) → Lists xs Y → HasOne Y ⊎ HasNone Y
unfolding In
one_or_none [] Y h = inr (λ y i. h.full y i)
one_or_none (x ∷ xs) Y h = inl (x, h.sound x (inl refl))

pub lists_if_any : (zs xs ys : List Spot) (U Y Z : Spots) → Lists zs U → Lists xs Y → Lists ys Z →
    Lists (if_any zs xs ys) (λ y. (HasOne U × Y y) ⊎ (HasNone U × Z y))
unfolding In
lists_if_any [] xs ys U Y Z u h k = record {
  sound = λ y i. inr (u.full, k.sound y i);
  full = λ y i. elim i [ inl a ↦ absurd (u.full a.0.0 a.0.1) | inr b ↦ k.full y b.1 ];
}
lists_if_any (z ∷ zs) xs ys U Y Z u h k = record {
  sound = λ y i. inl ((z, u.sound z (inl refl)), h.sound y i);
  full = λ y i. elim i [ inl a ↦ h.full y a.1 | inr b ↦ absurd (b.0 z (u.sound z (inl refl))) ];
}

pub lists_longest : (xs : List Spot) (Y : Spots) → Lists xs Y →
    Lists (longest xs) (λ y. Y y × ((z : Spot) → Y z → z.place ≤ y.place))
lists_longest xs Y h = record {
  sound = λ y i. (
      let r = in_keep (λ w. all_within xs w.place) xs y i in
      (h.sound y r.0, λ z j. in_all_within xs y.place r.1 z (h.full z j)));
  full = λ y i. keep_in (λ w. all_within xs w.place) xs y (h.full y i.0)
      (all_within_of xs y.place (λ z j. i.1 z (h.sound z j)));
}

-- Turns.

module _ (f : Spot → List Spot) (w : Way) (h : (x : Spot) → Lists (f x) (w x)) where
  pub after_sound : (n : ℕ) (xs : List Spot) (y : Spot) → In y (after_turns f n xs) →
      (x : Spot) × In x xs × Times w n x y
  unfolding after_turns Times
  after_sound zero xs y i = (y, i, refl)
  after_sound (suc n) xs y i =
      let r = after_sound n (every f xs) y i in
      let q = in_every f xs r.0 r.1 in (q.0, q.1, (r.0, (h q.0).sound r.0 q.2, r.2))

  pub after_full : (n : ℕ) (xs : List Spot) (x y : Spot) → In x xs → Times w n x y →
      In y (after_turns f n xs)
  unfolding after_turns Times
  after_full zero xs x y i t = subst (λ z. In z xs) (sym t) i
  after_full (suc n) xs x y i t =
      after_full n (every f xs) t.0 y (every_in f xs x t.0 i ((h x).full t.0 t.1)) t.2

  pub further_sound : (k : ℕ) (xs : List Spot) (y : Spot) → In y (further f k xs) →
      (x : Spot) × In x xs × (n : ℕ) × (n ≤ k) × Times w n x y
  unfolding further Times In
  further_sound zero xs y i = (y, i, 0, omega arith, refl)
  further_sound (suc k) [] y i = absurd i
  further_sound (suc k) (x ∷ xs) y i =
      elim (in_union (x ∷ xs) (further f k (every (changed f) (x ∷ xs))) y i) [
        | inl a ↦ (y, a, 0, omega arith, refl)
        | inr b ↦
            let r = further_sound k (every (changed f) (x ∷ xs)) y b in
            let q = in_every (changed f) (x ∷ xs) r.0 r.1 in
            let c = in_keep (λ z. not (same_spot q.0 z)) (f q.0) r.0 q.2 in
            (q.0, q.1, suc r.2, omega (arith, r.3), (r.0, (h q.0).sound r.0 c.0, r.4))
      ]

  -- n turns are met where at most k are made, or where each turn that changes the spot lowers its measure
  module _ (m : Spot → ℕ) (falls : (x y : Spot) → w x y → (x ≡ y → ⊥) → m y < m x) where
    differs : (x y : Spot) (b : Bool) → same_spot x y ≡ b → (x ≡ y → ⊥) → not b ≡ true
    differs x y true e ne = absurd (ne (spot_eq x y e))
    differs x y false e ne = refl

    change_in : (x y : Spot) → w x y → (x ≡ y → ⊥) → In y (changed f x)
    change_in x y i ne =
        keep_in (λ z. not (same_spot x z)) (f x) y ((h x).full y i)
        (differs x y (same_spot x y) refl ne)

    stays : (k : ℕ) (xs : List Spot) (x : Spot) → In x xs → In x (further f k xs)
    unfolding further In
    stays zero xs x i = i
    stays (suc k) [] x i = i
    stays (suc k) (z ∷ xs) x i = union_in (z ∷ xs) _ x (inl i)

    turn_in : (n k : ℕ) (xs : List Spot) (x z y : Spot) → In x xs → w x z → (x ≡ z → ⊥) →
        (suc n ≤ k) ⊎ (m x ≤ k) →
        ((k' : ℕ) (xs' : List Spot) → In z xs' → (n ≤ k') ⊎ (m z ≤ k') → In y (further f k' xs'))
        → In y (further f k xs)
    unfolding further In
    turn_in n zero xs x z y i j ne le rest = let l = falls x z j ne in absurd (grind (arith, l, le))
    turn_in n (suc k) [] x z y i j ne le rest = absurd i
    turn_in n (suc k) (v ∷ xs) x z y i j ne le rest =
        union_in (v ∷ xs) _ y
        (inr (rest k _ (every_in (changed f) (v ∷ xs) x z i (change_in x z j ne))
        (elim le [
          | inl a ↦ inl (omega (arith, a))
          | inr b ↦ inr
              (let l = falls x z j ne in omega (arith, l, b))
        ])))

    pub further_full : (n k : ℕ) (xs : List Spot) (x y : Spot) → In x xs → (n ≤ k) ⊎ (m x ≤ k) →
        Times w n x y → In y (further f k xs)
    unfolding further Times
    further_full zero k xs x y i le t = subst (λ z. In z (further f k xs)) (sym t) (stays k xs x i)
    further_full (suc n) k xs x y i le t =
        elim (decide_spot x t.0) [
          | inl same ↦ further_full n k xs x y i
              (elim le [ inl a ↦ inl (omega (arith, a)) | inr b ↦ inr b ])
              (subst (λ z. Times w n z y) (sym same) t.2)
          | inr other ↦ turn_in n k xs x t.0 y i t.1 other le
              (λ k' xs' i' le'. further_full n k' xs' t.0 y i' le' t.2)
        ]
