-- What leaves take, and what waits.
use Rattle.std.proofs.Common.{◌≡◌, ◌∙◌, ℕ, zero, suc, ◌+◌, ◌<◌, ◌≤◌, ◌⊎◌, Bool, true, false, List, [], ◌∷◌, ◌++◌}
use Rattle.std.proofs.Common.{length, drop, Option, Some, None, refl, sym, ap, subst, inl, inr, arith, eqb-true}
use Rattle.std.specs.Prelude.{◌==◌, slice_get, slice_index_or}
use Rattle.match_items.specs.Scene.{Scene}
use Rattle.dfa_ends.specs.Ends.{Among}
use Rattle.dfa_paths.specs.declared.graph.Node.{Node}
use Rattle.dfa_lists.specs.declared.lists.Seed.{Seed}
use Rattle.dfa_paths.specs.Graph.{lands, target, AllBelow}
use Rattle.dfa_lists.specs.Lists.{waiting_at, elsewhere, Waits, with_landing, node_at, landed}
use Rattle.dfa_paths.proofs.Places.{read_is, read_same, get_of}

-- one leaf more
landed_suc : (g : Scene) (nodes : List Node) (i : ℕ) (qs : List ℕ) (k d : ℕ) (ss : List Seed) →
    k < length qs →
    landed g nodes i (drop k qs) ss
    ≡ landed g nodes i (drop (suc k) qs)
    (with_landing (lands g (node_at nodes (slice_index_or qs k d)) i)
    (target (node_at nodes (slice_index_or qs k d))) ss)
unfolding landed
landed_suc g nodes i [] k d ss l = absurd (omega (arith, l))
landed_suc g nodes i (q ∷ qs) zero d ss l = refl
landed_suc g nodes i (q ∷ qs) (suc k) d ss l = landed_suc g nodes i qs k d ss (omega (arith, l))

pub landed_on : (g : Scene) (nodes : List Node) (i : ℕ) (qs : List ℕ) (k d : ℕ) (c : Node)
    (ss ss' rest : List Seed) →
    k < length qs → slice_index_or qs k d < length nodes →
    ss' ≡ with_landing (lands g (slice_index_or nodes (slice_index_or qs k d) c) i)
    (target (slice_index_or nodes (slice_index_or qs k d) c)) ss →
    landed g nodes i (drop k qs) ss ≡ rest → landed g nodes i (drop (k + 1) qs) ss' ≡ rest
landed_on g nodes i qs k d c ss ss' rest l m e h =
    let one : k + 1 ≡ suc k = omega arith in
    let same = read_same nodes (slice_index_or qs k d) c _ m in
    let on = e ∙ ap (λ n. with_landing (lands g n i) (target n) ss) same in
    ap (λ j. landed g nodes i (drop j qs) ss') one ∙ ap
    (λ xs. landed g nodes i (drop (suc k) qs) xs) on
    ∙ sym (landed_suc g nodes i qs k d ss l) ∙ h

pub with_some : (o r : Option ℕ) (q to st : ℕ) (ss ss' : List Seed) → r ≡ o → r ≡ Some to → st ≡ q →
    ss' ≡ ss ++ record { at = to; state = st } ∷ [] → ss' ≡ with_landing o q ss
with_some None r q to st ss ss' e f g h = cc
with_some (Some j) r q to st ss ss' e f g h =
    let same : to ≡ j = some_same to j (sym f ∙ e) in
    h ∙ ap (λ k. ss ++ record { at = k; state = st } ∷ []) same ∙ ap
    (λ k. ss ++ record { at = j; state = k } ∷ []) g
  where
    some_same : (a b : ℕ) → ◌≡◌ {A = Option ℕ} (Some a) (Some b) → a ≡ b
    some_same a b e = cc

pub with_none : (o r : Option ℕ) (q : ℕ) (ss ss' : List Seed) → r ≡ o →
    ((to : ℕ) → r ≡ Some to → ⊥) → ss' ≡ ss →
    ss' ≡ with_landing o q ss
with_none None r q ss ss' e f h = h
with_none (Some j) r q ss ss' e f h = absurd (f j e)

pub landed_all : (g : Scene) (nodes : List Node) (i : ℕ) (qs : List ℕ) (k : ℕ) (ss : List Seed) →
    length qs ≤ k → landed g nodes i (drop k qs) ss ≡ ss
unfolding landed
landed_all g nodes i [] zero ss l = refl
landed_all g nodes i [] (suc k) ss l = refl
landed_all g nodes i (q ∷ qs) zero ss l = absurd (omega (arith, l))
landed_all g nodes i (q ∷ qs) (suc k) ss l = landed_all g nodes i qs k ss (omega (arith, l))

pub waits_first : (q j : ℕ) (ss ts : List Seed) → Waits q j ss → Waits q j (ss ++ ts)
unfolding Waits
waits_first q j [] ts h = absurd h
waits_first q j (s ∷ ss) ts h = elim h [ inl a ↦ inl a | inr b ↦ inr (waits_first q j ss ts b) ]

pub waits_second : (q j : ℕ) (ss ts : List Seed) → Waits q j ts → Waits q j (ss ++ ts)
unfolding Waits
waits_second q j [] ts h = h
waits_second q j (s ∷ ss) ts h = inr (waits_second q j ss ts h)

pub waits_append : (q j : ℕ) (ss ts : List Seed) → Waits q j (ss ++ ts) →
    Waits q j ss ⊎ Waits q j ts
unfolding Waits
waits_append q j [] ts h = inr h
waits_append q j (s ∷ ss) ts h =
    elim h [
      | inl a ↦ inl (inl a)
      | inr b ↦ elim (waits_append q j ss ts b) [ inl c ↦ inl (inr c) | inr d ↦ inr d ]
    ]

waits_last : (q j : ℕ) (ss : List Seed) → Waits q j (ss ++ record { at = j; state = q } ∷ [])
unfolding Waits
waits_last q j [] = inl (refl, refl)
waits_last q j (s ∷ ss) = inr (waits_last q j ss)

waits_push : (p k q j : ℕ) (ss : List Seed) → Waits p k (ss ++ record { at = j; state = q } ∷ []) →
    Waits p k ss ⊎ ((p ≡ q) × (k ≡ j))
unfolding Waits
waits_push p k q j [] h = elim h [ inl a ↦ inr a | inr b ↦ absurd b ]
waits_push p k q j (s ∷ ss) h =
    elim h [
      | inl a ↦ inl (inl a)
      | inr b ↦ elim (waits_push p k q j ss b) [ inl c ↦ inl (inr c) | inr d ↦ inr d ]
    ]

with_old : (o : Option ℕ) (q : ℕ) (ss : List Seed) (p k : ℕ) → Waits p k ss →
    Waits p k (with_landing o q ss)
with_old None q ss p k h = h
with_old (Some j) q ss p k h = waits_first p k ss _ h

with_new : (o : Option ℕ) (q : ℕ) (ss : List Seed) (j : ℕ) → o ≡ Some j →
    Waits q j (with_landing o q ss)
with_new None q ss j e = cc
with_new (Some i) q ss j e =
    let same : i ≡ j = cc in
    subst (λ k. Waits q k (ss ++ record { at = i; state = q } ∷ [])) same (waits_last q i ss)

with_cases : (o : Option ℕ) (q : ℕ) (ss : List Seed) (p k : ℕ) → Waits p k (with_landing o q ss) →
    Waits p k ss ⊎ ((p ≡ q) × (o ≡ Some k))
with_cases None q ss p k h = inl h
with_cases (Some j) q ss p k h =
    elim (waits_push p k q j ss h) [ inl a ↦ inl a | inr b ↦ inr (b.0, ap Some (sym b.1)) ]

-- a state waits of which something holds
abbrev pub SomeHolds : (ℕ → ℕ → Type 0) → List Seed → Type 0
SomeHolds P ss = (q : ℕ) × (j : ℕ) × Waits q j ss × P q j

-- no leaf takes anything
pub landed_none : (g : Scene) (nodes : List Node) (i : ℕ) (ss : List Seed) →
    landed g nodes i [] ss ≡ ss
unfolding landed
landed_none g nodes i ss = refl

module _ (g : Scene) (nodes : List Node) (i : ℕ) where
  pub landed_old : (qs : List ℕ) (ss : List Seed) (p k : ℕ) → Waits p k ss →
      Waits p k (landed g nodes i qs ss)
  unfolding landed
  landed_old [] ss p k h = h
  landed_old (q ∷ qs) ss p k h =
      landed_old qs _ p k (with_old (lands g (node_at nodes q) i) _ ss p k h)

  pub landed_new : (qs : List ℕ) (ss : List Seed) (q j : ℕ) (n : Node) → Among q qs →
      slice_get nodes q ≡ Some n →
      lands g n i ≡ Some j → Waits (target n) j (landed g nodes i qs ss)
  unfolding landed Among
  landed_new [] ss q j n a e l = absurd a
  landed_new (p ∷ qs) ss q j n a e l =
      elim a [
        | inl same ↦
            let is = read_is nodes p _ n (ap (slice_get nodes) (sym same) ∙ e) in
            landed_old qs _ (target n) j
            (subst (λ m. Waits (target m) j
            (with_landing (lands g (node_at nodes p) i) (target (node_at nodes p)) ss)) is
            (with_new (lands g (node_at nodes p) i) (target (node_at nodes p)) ss j
            (ap (λ m. lands g m i) is ∙ l)))
        | inr b ↦ landed_new qs _ q j n b e l
      ]

  -- a leaf takes something, after which it holds
  unfoldable pub Leads : (ℕ → ℕ → Type 0) → List ℕ → Type 0
  Leads P qs =
      (q : ℕ) × (n : Node) × (j : ℕ) × Among q qs × (slice_get nodes q ≡ Some n) ×
      (lands g n i ≡ Some j) × P (target n) j

  -- so it holds of something that waits later
  pub holds_later : (P : ℕ → ℕ → Type 0) (qs : List ℕ) (others leaps : List Seed) →
      Leads P qs ⊎ SomeHolds P leaps → SomeHolds P (landed g nodes i qs (others ++ leaps))
  unfolding Leads
  holds_later P qs others leaps h =
      elim h [
        | inl e ↦ (
          target e.1,
          e.2,
          landed_new qs (others ++ leaps) e.0 e.2 e.1 e.3 e.4 e.5,
          e.6,
        )
        | inr e ↦ (
          e.0,
          e.1,
          landed_old qs (others ++ leaps) e.0 e.1 (waits_second e.0 e.1 others leaps e.2),
          e.3,
        )
      ]

  pub holds_still : (P : ℕ → ℕ → Type 0) (qs : List ℕ) (others leaps : List Seed) →
      SomeHolds P others → SomeHolds P (landed g nodes i qs (others ++ leaps))
  holds_still P qs others leaps e = (
    e.0,
    e.1,
    landed_old qs (others ++ leaps) e.0 e.1 (waits_first e.0 e.1 others leaps e.2),
    e.3,
  )

  -- it waited before, or a leaf took what leads to it
  unfoldable pub Landing : List ℕ → ℕ → ℕ → Type 0
  Landing qs p k =
      (q : ℕ) × (n : Node) × Among q qs × (slice_get nodes q ≡ Some n) × (lands g n i ≡ Some k) ×
      (p ≡ target n)

  pub landed_cases : (qs : List ℕ) (ss : List Seed) (p k : ℕ) → AllBelow (length nodes) qs →
      Waits p k (landed g nodes i qs ss) → Waits p k ss ⊎ Landing qs p k
  unfolding landed Among Landing
  landed_cases [] ss p k below h = inl h
  landed_cases (q ∷ qs) ss p k below h =
      elim (landed_cases qs _ p k (λ r j. below r (inr j)) h) [
        | inl a ↦ elim (with_cases (lands g (node_at nodes q) i) (target (node_at nodes q)) ss p k
            a) [
              | inl c ↦ inl c
              | inr d ↦ inr (
                q,
                node_at nodes q,
                inl refl,
                get_of nodes q _ (below q (inl refl)),
                d.1,
                d.0,
              )
            ]
        | inr b ↦ inr (b.0, b.1, inr b.2, b.3, b.4, b.5)
      ]

-- What waits, by places.

part_case : (q j i : ℕ) (s : Seed) (ss : List Seed) (b : Bool) → (s.at == i) ≡ b →
    ((q ≡ s.state) × (j ≡ s.at)) ⊎ Waits q j ss →
    (Waits q j ss → ((j ≡ i) × Among q (waiting_at i ss)) ⊎
    ((j ≡ i → ⊥) × Waits q j (elsewhere i ss))) →
    ((j ≡ i) × Among q (elim b [ true ↦ s.state ∷ waiting_at i ss | false ↦ waiting_at i ss ]))
    ⊎ ((j ≡ i → ⊥) × Waits q j (elim b [ true ↦ elsewhere i ss | false ↦ s ∷ elsewhere i ss ]))
unfolding Waits Among
part_case q j i s ss true e h f =
    elim h [
      | inl a ↦ inl (a.1 ∙ eqb-true s.at i e, inl a.0)
      | inr b ↦ elim (f b) [ inl c ↦ inl (c.0, inr c.1) | inr d ↦ inr d ]
    ]
part_case q j i s ss false e h f =
    elim h [
      | inl a ↦ inr (differ s.at i j e a.1, inl a)
      | inr b ↦ elim (f b) [ inl c ↦ inl c | inr d ↦ inr (d.0, inr d.1) ]
    ]
  where
    differ : (a b c : ℕ) → (a == b) ≡ false → c ≡ a → c ≡ b → ⊥
    differ a b c e f k = grind (arith, e, f, k)

pub parted : (q j i : ℕ) (ss : List Seed) → Waits q j ss →
    ((j ≡ i) × Among q (waiting_at i ss)) ⊎ ((j ≡ i → ⊥) × Waits q j (elsewhere i ss))
unfolding Waits
parted q j i [] h = absurd h
parted q j i (s ∷ ss) h = part_case q j i s ss (s.at == i) refl h (parted q j i ss)

here_case : (q i : ℕ) (s : Seed) (ss : List Seed) (b : Bool) → (s.at == i) ≡ b →
    Among q (elim b [ true ↦ s.state ∷ waiting_at i ss | false ↦ waiting_at i ss ]) →
    (Among q (waiting_at i ss) → Waits q i ss) → ((q ≡ s.state) × (i ≡ s.at)) ⊎ Waits q i ss
unfolding Among
here_case q i s ss true e h f =
    elim h [ inl a ↦ inl (a, sym (eqb-true s.at i e)) | inr b ↦ inr (f b) ]
here_case q i s ss false e h f = inr (f h)

pub waits_here : (q i : ℕ) (ss : List Seed) → Among q (waiting_at i ss) → Waits q i ss
unfolding Waits Among
waits_here q i [] h = absurd h
waits_here q i (s ∷ ss) h = here_case q i s ss (s.at == i) refl h (waits_here q i ss)

else_case : (q j i : ℕ) (s : Seed) (ss : List Seed) (b : Bool) → (s.at == i) ≡ b →
    Waits q j (elim b [ true ↦ elsewhere i ss | false ↦ s ∷ elsewhere i ss ]) →
    (Waits q j (elsewhere i ss) → Waits q j ss × (j ≡ i → ⊥)) →
    (((q ≡ s.state) × (j ≡ s.at)) ⊎ Waits q j ss) × (j ≡ i → ⊥)
unfolding Waits
else_case q j i s ss true e h f = (inr (f h).0, (f h).1)
else_case q j i s ss false e h f =
    elim h [
      | inl a ↦ (inl a, λ k. differ s.at i j e a.1 k)
      | inr b ↦ (inr (f b).0, (f b).1)
    ]
  where
    differ : (a b c : ℕ) → (a == b) ≡ false → c ≡ a → c ≡ b → ⊥
    differ a b c e f k = grind (arith, e, f, k)

pub waits_elsewhere : (q j i : ℕ) (ss : List Seed) → Waits q j (elsewhere i ss) →
    Waits q j ss × (j ≡ i → ⊥)
unfolding Waits
waits_elsewhere q j i [] h = absurd h
waits_elsewhere q j i (s ∷ ss) h =
    else_case q j i s ss (s.at == i) refl h (waits_elsewhere q j i ss)
