-- Rising places, from the last one down.
use Rattle.std.proofs.Common.{◌≡◌, ◌∙◌, ℕ, zero, suc, ◌-◌, ◌<◌, ◌≤◌, ◌⊎◌, Bool, true, false, List, [], ◌∷◌, ◌++◌}
use Rattle.std.proofs.Common.{length, Some, refl, sym, ap, subst, inl, inr, arith, append-nil}
use Rattle.std.specs.Prelude.{slice_get, slice_index_or}
use Rattle.match_items.specs.Scene.{Scene}
use Rattle.ordered_search.specs.Setting.{Setting}
use Rattle.dfa_ends.specs.Ends.{spot, Among}
use Rattle.dfa_ends.specs.EndList.{ends_list, end_places}
use Rattle.dfa_ends.specs.DfaAnswer.{is_admitted, admitted, last_of}
use Rattle.dfa_ends.specs.TwoMatchers.{EndPlace}
use Rattle.dfa_ends.specs.Answered.{Falls}
use Rattle.dfa_ends.proofs.AnswerLaw.{falls_falling, from_falling, to_falling}
use Rattle.dfa_ends.proofs.ListLaw.{list_law}
use Rattle.dfa_lists.specs.dfa_paths.Fragment.{Rising}
use Rattle.dfa_drive.specs.Answer.{AreWithin}
use Rattle.dfa_drive.specs.Admitted.{admits, kept_if, admitted_down}

abbrev at : List ℕ → ℕ → ℕ
at qs i = slice_index_or qs i 0

pub get_is : (qs : List ℕ) (i q : ℕ) → slice_get qs i ≡ Some q → slice_index_or qs i 0 ≡ q
get_is [] i q e = cc
get_is (r ∷ qs) zero q e = cc
get_is (r ∷ qs) (suc i) q e = get_is qs i q e

-- Places by their index.

at_among : (qs : List ℕ) (i : ℕ) → i < length qs → Among (at qs i) qs
unfolding Among
at_among [] i l = absurd (omega (arith, l))
at_among (r ∷ qs) zero l = inl refl
at_among (r ∷ qs) (suc i) l = inr (at_among qs i (omega (arith, l)))

among_at : (qs : List ℕ) (q : ℕ) → Among q qs → (i : ℕ) × (i < length qs) × (q ≡ at qs i)
unfolding Among
among_at [] q h = absurd h
among_at (r ∷ qs) q h =
    elim h [
      | inl a ↦ (0, omega arith, a)
      | inr b ↦
          let k = among_at qs q b in
          let l = k.1 in
          (suc k.0, omega (arith, l), k.2)
    ]

rising_at : (qs : List ℕ) (i j : ℕ) → Rising qs → i < j → j < length qs → at qs i < at qs j
unfolding Rising
rising_at [] i j r l m = absurd (omega (arith, m))
rising_at (q ∷ qs) i zero r l m = absurd (omega (arith, l))
rising_at (q ∷ qs) zero (suc j) r l m = r.0 (at qs j) (at_among qs j (omega (arith, m)))
rising_at (q ∷ qs) (suc i) (suc j) r l m =
    rising_at qs i j r.1 (omega (arith, l)) (omega (arith, m))

-- the first n of them, the last one first
unfoldable pub downward : List ℕ → ℕ → List ℕ
downward qs zero = []
downward qs (suc n) = at qs n ∷ downward qs n

from_downward : (qs : List ℕ) (n q : ℕ) → Among q (downward qs n) →
    (i : ℕ) × (i < n) × (q ≡ at qs i)
unfolding Among downward
from_downward qs zero q h = absurd h
from_downward qs (suc n) q h =
    elim h [
      | inl a ↦ (n, omega arith, a)
      | inr b ↦
          let k = from_downward qs n q b in
          let l = k.1 in
          (k.0, omega (arith, l), k.2)
    ]

to_downward : (qs : List ℕ) (n i : ℕ) → i < n → Among (at qs i) (downward qs n)
unfolding Among downward
to_downward qs zero i l = absurd (omega (arith, l))
to_downward qs (suc n) i l =
    elim (last_or i n (omega (arith, l))) [
      | inl a ↦ inl (ap (at qs) a)
      | inr b ↦ inr (to_downward qs n i b)
    ]
  where
    last_or : (i n : ℕ) → i ≤ n → (i ≡ n) ⊎ (i < n)
    last_or zero zero l = inl refl
    last_or zero (suc n) l = inr (omega arith)
    last_or (suc i) zero l = absurd (omega (arith, l))
    last_or (suc i) (suc n) l =
        elim (last_or i n (omega (arith, l))) [
          | inl a ↦ inl (ap suc a)
          | inr b ↦ inr (omega (arith, b))
        ]

downward_falls : (qs : List ℕ) (n : ℕ) → Rising qs → n ≤ length qs → Falls (downward qs n)
unfolding Falls downward
downward_falls qs zero r l = tt
downward_falls qs (suc n) r l = (
  λ q h.
      let k = from_downward qs n q h in
      let e = k.2 in
      let below = rising_at qs k.0 n r k.1 (omega (arith, l)) in
      omega (arith, e, below),
  downward_falls qs n r (omega (arith, l)),
)

-- Places that fall are told by which they are.

falls_same : (ps qs : List ℕ) → Falls ps → Falls qs → ((q : ℕ) → Among q ps → Among q qs) →
    ((q : ℕ) → Among q qs → Among q ps) → ps ≡ qs
unfolding Falls Among
falls_same [] [] f g to from = refl
falls_same [] (q ∷ qs) f g to from = absurd (from q (inl refl))
falls_same (p ∷ ps) [] f g to from = absurd (to p (inl refl))
falls_same (p ∷ ps) (q ∷ qs) f g to from =
    let e : p ≡ q = elim (to p (inl refl)) [
      | inl a ↦ a
      | inr b ↦ elim (from q (inl refl)) [
        | inl a ↦ sym a
        | inr c ↦
            let l = g.0 p b in
            let m = f.0 q c in
            absurd (omega (arith, l, m))
      ]
    ] in
    ap (λ r. r ∷ ps) e ∙ ap (λ rs. q ∷ rs) (falls_same ps qs f.1 g.1
    (λ r h. elim (to r (inr h)) [
      | inl a ↦ let l = f.0 r h in absurd (omega (arith, a, l, e))
      | inr b ↦ b
    ])
    (λ r h. elim (from r (inr h)) [
      | inl a ↦ let l = g.0 r h in absurd (omega (arith, a, l, e))
      | inr b ↦ b
    ]))

-- The admitted ends.

module _ (g : Setting) (p : ℕ) where
  kept_same : (b : Bool) (q : ℕ) (qs rs : List ℕ) → qs ≡ rs →
      kept_if b q qs ≡ elim b [ true ↦ q ∷ rs | false ↦ rs ]
  kept_same true q qs rs e = ap (λ x. q ∷ x) e
  kept_same false q qs rs e = e

  down_admitted : (qs : List ℕ) (n : ℕ) →
      admitted_down g.scene p qs n ≡ admitted g p (downward qs n)
  unfolding admitted_down admitted downward
  down_admitted qs zero = refl
  down_admitted qs (suc n) =
      kept_same (is_admitted g p (at qs n)) (at qs n) (admitted_down g.scene p qs n)
      (admitted g p (downward qs n)) (down_admitted qs n)

  module _ (qs : List ℕ) (rising : Rising qs)
      (sound : (q : ℕ) → Among q qs → EndPlace g g.whole p q)
      (full : (q : ℕ) → EndPlace g g.whole p q → Among q qs) where
    all_down : downward qs (length qs) ≡ end_places g g.whole p
    all_down =
        falls_same (downward qs (length qs)) (end_places g g.whole p)
        (downward_falls qs (length qs) rising (omega arith))
        (falls_falling (ends_list g g.whole (spot p p)))
        (λ q h.
        let k = from_downward qs (length qs) q h in
        let e = sound q (subst (λ r. Among r qs) (sym k.2) (at_among qs k.0 k.1)) in
        to_falling (ends_list g g.whole (spot p p)) (spot q e.0)
        ((list_law g g.whole (spot p p) (spot q e.0)).1 e.1))
        (λ q h.
        let y = from_falling (ends_list g g.whole (spot p p)) q h in
        let k = among_at qs q (full q (y.0, (list_law g g.whole (spot p p) (spot q y.0)).0 y.1)) in
        subst (λ r. Among r (downward qs (length qs))) (sym k.2)
        (to_downward qs (length qs) k.0 k.1))

    -- the admitted of rising ends, the last one first, are the admitted ends
    pub ends_down :
        admitted_down g.scene p qs (length qs) ≡ admitted g p (end_places g g.whole p)
    ends_down = down_admitted qs (length qs) ∙ ap (admitted g p) all_down

-- The last of all.

pub last_is : (qs : List ℕ) (n q : ℕ) → length qs ≡ suc n → slice_get qs n ≡ Some q →
    last_of qs ≡ q ∷ []
unfolding last_of
last_is [] n q l e = absurd (omega (arith, l))
last_is (r ∷ []) zero q l e = ap (λ x. x ∷ []) (get_is (r ∷ []) 0 q e)
last_is (r ∷ []) (suc n) q l e = absurd (omega (arith, l))
last_is (r ∷ s ∷ qs) zero q l e = absurd (omega (arith, l))
last_is (r ∷ s ∷ qs) (suc n) q l e = last_is (s ∷ qs) n q (omega (arith, l)) e

pub last_of_none : (qs : List ℕ) → length qs ≡ 0 → qs ≡ last_of qs
unfolding last_of
last_of_none [] l = refl
last_of_none (q ∷ qs) l = absurd (omega (arith, l))

-- What is kept is among the ends.

from_kept : (b : Bool) (q r : ℕ) (qs : List ℕ) → Among r (kept_if b q qs) → (r ≡ q) ⊎ Among r qs
unfolding Among
from_kept true q r qs h = h
from_kept false q r qs h = inr h

pub down_within : (s : Scene) (p low high : ℕ) (qs : List ℕ) → AreWithin low high qs → (n : ℕ) →
    n ≤ length qs → (r : ℕ) → Among r (admitted_down s p qs n) → (low ≤ r) × (r ≤ high)
unfolding Among admitted_down
down_within s p low high qs h zero l r a = absurd a
down_within s p low high qs h (suc n) l r a =
    elim (from_kept (admits s p (at qs n)) (at qs n) r (admitted_down s p qs n) a) [
      | inl e ↦ h r (subst (λ k. Among k qs) (sym e) (at_among qs n (omega (arith, l))))
      | inr b ↦ down_within s p low high qs h n (omega (arith, l)) r b
    ]

pub last_within : (low high : ℕ) (qs : List ℕ) → AreWithin low high qs → (r : ℕ) →
    Among r (last_of qs) → (low ≤ r) × (r ≤ high)
unfolding Among last_of
last_within low high [] h r a = absurd a
last_within low high (q ∷ []) h r a = h r a
last_within low high (q ∷ q' ∷ qs) h r a =
    last_within low high (q' ∷ qs) (λ k b. h k (inr b)) r a

-- One more end is kept.

kept_more : (b : Bool) (q : ℕ) (qs rs : List ℕ) → (qs ++ kept_if b q []) ++ rs ≡ qs ++ kept_if b q rs
kept_more b q [] rs = none b
  where
    none : (b : Bool) → kept_if b q [] ++ rs ≡ kept_if b q rs
    none true = refl
    none false = refl
kept_more b q (r ∷ qs) rs = ap (λ x. r ∷ x) (kept_more b q qs rs)

-- none is left
pub all_kept : (s : Scene) (p : ℕ) (qs ends total : List ℕ) (left : ℕ) → left ≡ 0 →
    ends ++ admitted_down s p qs left ≡ total → ends ≡ total
unfolding admitted_down
all_kept s p qs ends total zero e h = sym (append-nil ends) ∙ h
all_kept s p qs ends total (suc left) e h = absurd (omega (arith, e))

-- as the code does it
pub keeps : (s : Scene) (p : ℕ) (qs ends more : List ℕ) (left n q : ℕ) (b : Bool) →
    n ≡ left - 1 → 0 < left → slice_get qs n ≡ Some q → b ≡ admits s p q →
    more ≡ ends ++ kept_if b q [] →
    more ++ admitted_down s p qs n ≡ ends ++ admitted_down s p qs left
unfolding admitted_down
keeps s p qs ends more zero n q b e l at b_is m = absurd (omega (arith, l))
keeps s p qs ends more (suc left) n q b e l at b_is m =
    let same : n ≡ left = omega (arith, e) in
    let x = get_is qs n q at in
    subst (λ k. more ++ admitted_down s p qs n
    ≡ ends ++ kept_if (admits s p (slice_index_or qs k 0)) (slice_index_or qs k 0)
    (admitted_down s p qs k)) same
    (subst (λ y. more ++ admitted_down s p qs n
    ≡ ends ++ kept_if (admits s p y) y (admitted_down s p qs n)) (sym x)
    (ap (λ zs. zs ++ admitted_down s p qs n) m
    ∙ kept_more b q ends (admitted_down s p qs n)
    ∙ ap (λ c. ends ++ kept_if c q (admitted_down s p qs n)) b_is))
