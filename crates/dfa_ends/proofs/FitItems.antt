-- Items, `\R`, anchors and one-item repeats fit their ends.
use Rattle.std.proofs.Common.{◌≡◌, ℕ, zero, suc, ◌+◌, ◌-◌, ◌≤◌, ◌⊎◌, Bool, true, false, List, [], ◌∷◌, length, drop}
use Rattle.std.proofs.Common.{reverse, Option, Some, None, refl, ap, subst, inl, inr, arith, eqb-true, length-drop}
use Rattle.std.proofs.Common.{option_map}
use mathlib.Core.List.{reverse_aux}
use Rattle.std.specs.Prelude.{◌==◌, IsTrue}
use Rattle.pat_tree.specs.declared.options.PartialMode.TheVariants.{Off}
use Rattle.pat_tree.specs.declared.nodes.Item.{Item}
use Rattle.pat_tree.specs.declared.nodes.AnchorKind.{AnchorKind}
use Rattle.match_items.specs.Items.{one_less, is_none_left, after_item, item_reaches, run_places, longest_run}
use Rattle.match_items.specs.Items.{after_break, holds, anchor_reaches, earliest}
use Rattle.ordered_search.specs.Stream.{State, reached, Stream, Search, nothing, gives}
use Rattle.ordered_search.specs.Setting.{Setting}
use Rattle.ordered_search.specs.Tests.{move_to, goes_to, run_one, run_break, run_anchor, offers, offer_and, greedy}
use Rattle.ordered_search.specs.Tests.{reluctant, lazy_run, run_many}
use Rattle.dfa_ends.specs.Ends.{Spot, spot, Way, Among, GoesTo, Times, Within, seen, ItemEnds, BreakEnds, AnchorEnds}
use Rattle.dfa_ends.proofs.Fits.{Fits, fits_like, fits_same, fits_nothing, fits_gives, fits_step, fits_or_else}
use Rattle.dfa_ends.proofs.Fits.{fits_hold, fits_reach_if}
use Rattle.dfa_ends.proofs.Steps.{item_steps}

-- Every stream of the search fits what the way gives, whatever the earliest place.
abbrev pub FitsSearch : Way → Search → Type 0
FitsSearch w f = (s : State) → s.calls ≡ [] → (e : ℕ) → Fits (w (spot s.place e)) (f s)

pub place_of : (y z : Spot) → y ≡ z → y.place ≡ z.place
place_of y z e = ap (λ w. w.place) e

fit_goes : (o : Option ℕ) → FitsSearch (GoesTo o) (goes_to o)
fit_goes None s c e = fits_nothing _ (λ y h. h)
fit_goes (Some p) s c e = fits_gives _ (move_to p s) c e refl (λ y h. place_of y _ h)

-- Places in a list.

among_reversed : (q : ℕ) (xs ys : List ℕ) → Among q (reverse_aux xs ys) → Among q xs ⊎ Among q ys
unfolding Among
among_reversed q [] ys h = inr h
among_reversed q (x ∷ xs) ys h =
    elim (among_reversed q xs (x ∷ ys) h) [
      | inl a ↦ inl (inr a)
      | inr b ↦ elim b [ inl c ↦ inl (inl c) | inr d ↦ inr d ]
    ]

among_reverse : (q : ℕ) (xs ys : List ℕ) → Among q xs ⊎ Among q ys → Among q (reverse_aux xs ys)
unfolding Among
among_reverse q [] ys h = elim h [ inl a ↦ absurd a | inr b ↦ b ]
among_reverse q (x ∷ xs) ys h =
    among_reverse q xs (x ∷ ys) (elim h [
      | inl a ↦ elim a [ inl c ↦ inr (inl c) | inr d ↦ inl d ]
      | inr b ↦ inr (inr b)
    ])

among_nil : (q : ℕ) (xs : List ℕ) → Among q xs ⊎ Among q [] → Among q xs
unfolding Among
among_nil q xs h = elim h [ inl a ↦ a | inr b ↦ absurd b ]

pub from_reverse : (q : ℕ) (xs : List ℕ) → Among q (reverse xs) → Among q xs
from_reverse q xs h = among_nil q xs (among_reversed q xs [] h)

pub to_reverse : (q : ℕ) (xs : List ℕ) → Among q xs → Among q (reverse xs)
to_reverse q xs h = among_reverse q xs [] (inl h)

among_none : (q n : ℕ) → Among q (drop n []) → ⊥
unfolding Among
among_none q zero h = h
among_none q (suc n) h = h

-- Bounds.

abbrev Upto : Option ℕ → ℕ → Type 0
Upto None n = Unit {0}
Upto (Some high) n = n ≤ high

within : (low : ℕ) (high : Option ℕ) (n : ℕ) → low ≤ n → Upto high n → Within low high n
within low None n l u = l
within low (Some high) n l u = (l, u)

within_low : (low : ℕ) (high : Option ℕ) (n : ℕ) → Within low high n → low ≤ n
within_low low None n w = w
within_low low (Some high) n w = w.0

within_high : (low : ℕ) (high : Option ℕ) (n : ℕ) → Within low high n → Upto high n
within_high low None n w = tt
within_high low (Some high) n w = w.1

upto_zero : (high : Option ℕ) → Upto high 0
upto_zero None = tt
upto_zero (Some h) = omega arith

upto_next : (high : Option ℕ) (n : ℕ) → is_none_left high ≡ false → Upto (one_less high) n →
    Upto high (suc n)
upto_next None n e u = tt
upto_next (Some h) n e u = grind (arith, e, u)

upto_less : (high : Option ℕ) (n : ℕ) → Upto high (suc n) → Upto (one_less high) n
upto_less None n u = tt
upto_less (Some h) n u = omega (arith, u)

upto_left : (high : Option ℕ) (n : ℕ) → Upto high (suc n) → is_none_left high ≡ false
upto_left None n u = refl
upto_left (Some h) n u = grind (arith, u)

-- no room is left past the places
abbrev Room : Option ℕ → List ℕ → Type 0
Room None ps = Unit {0}
Room (Some h) ps = length ps ≤ h + 1

room_next : (left : Option ℕ) (p : ℕ) (ps : List ℕ) → Room left (p ∷ ps) → Room (one_less left) ps
room_next None p ps r = tt
room_next (Some h) p ps r = omega (arith, r)

room_none : (left : Option ℕ) (p q : ℕ) (ps : List ℕ) → Room left (p ∷ ps) →
    is_none_left left ≡ true → Among q ps → ⊥
unfolding Among
room_none None p q ps r e h = cc
room_none (Some k) p q [] r e h = h
room_none (Some k) p q (x ∷ xs) r e h =
    let none : k ≡ 0 = eqb-true k 0 e in
    let room : length (p ∷ x ∷ xs) ≤ k + 1 = r in
    omega (arith, none, room)

module _ (g : Setting) (off : g.matching.«partial» ≡ Off) where
  pub fit_one : (item : Item) → FitsSearch (ItemEnds g item) (run_one g item)
  unfolding run_one
  fit_one item s c e =
      fits_reach_if g off _ _ s _ (fit_goes (after_item g.scene item s.place) s c e)

  pub fit_break : FitsSearch (BreakEnds g) (run_break g)
  unfolding run_break
  fit_break s c e = fits_reach_if g off _ _ s _ (fit_goes (after_break g.scene s.place) s c e)

  fit_held : (b : Bool) (t : State) → t.calls ≡ [] → (e : ℕ) →
      Fits (λ y. IsTrue b × (y ≡ spot t.place e))
      (elim b [ true ↦ gives reached t | false ↦ nothing ])
  fit_held true t c e = fits_gives _ t c e (refl, refl) (λ y h. place_of y _ h.1)
  fit_held false t c e = fits_nothing _ (λ y h. cc)

  pub fit_anchor : (kind : AnchorKind) → FitsSearch (AnchorEnds g kind) (run_anchor g kind)
  unfolding run_anchor
  fit_anchor kind s c e =
      fits_reach_if g off _ (anchor_reaches g.scene kind s.place) _ _
      (fit_held (holds g.scene kind s.place)
      (record s { early = earliest g.scene kind s.place s.early }) c
      (seen g kind (spot s.place e)).early)

  -- Repeats of one item.

  fit_offers : (ps : List ℕ) → FitsSearch (λ x y. Among y.place ps) (offers g ps)
  unfolding offers Among
  fit_offers [] s c e = fits_nothing _ (λ y h. h)
  fit_offers (p ∷ []) s c e =
      fits_step _ _ (fits_gives _ (move_to p s) c 0 (inl refl)
      (λ y h. elim h [ inl a ↦ a | inr b ↦ absurd b ]))
  fit_offers (p ∷ q ∷ ps) s c e =
      fits_step _ _ (fits_or_else (λ y. y.place ≡ p) (λ y. Among y.place (q ∷ ps)) _ _
      (fits_hold g _ (move_to p s) c 0 refl (λ y h. h)) (fit_offers (q ∷ ps) s c e))

  fit_offer_and : (b : Bool) (p : ℕ) (ps : List ℕ) (x : Stream) (s : State) → s.calls ≡ [] →
      (b ≡ true → (q : ℕ) → Among q ps → ⊥) → Fits (λ y. Among y.place ps) x →
      Fits (λ y. Among y.place (p ∷ ps)) (offer_and g b (move_to p s) x)
  unfolding Among
  fit_offer_and true p ps x s c last h =
      fits_step _ _ (fits_gives _ (move_to p s) c 0 (inl refl)
      (λ y h. elim h [ inl a ↦ a | inr b ↦ absurd (last refl y.place b) ]))
  fit_offer_and false p ps x s c last h =
      fits_step _ _ (fits_or_else (λ y. y.place ≡ p) (λ y. Among y.place ps) _ _
      (fits_hold g _ (move_to p s) c 0 refl (λ y h. h)) h)

  module _ (item : Item) where
    fit_reluctant : (left : Option ℕ) (ps : List ℕ) → Room left ps →
        FitsSearch (λ x y. Among y.place ps) (reluctant g item left ps)
    unfolding reluctant Among
    fit_reluctant left [] r s c e = fits_nothing _ (λ y h. h)
    fit_reluctant left (p ∷ ps) r s c e =
        fit_offer_and (is_none_left left) p ps _ s c (λ none q. room_none left p q ps r none)
        (fits_reach_if g off _ (item_reaches g.scene item p) s _
        (fit_reluctant (one_less left) ps (room_next left p ps r) s c e))

    -- what the places past the first ones give
    abbrev Found : Option ℕ → ℕ → ℕ → ℕ → ℕ → Type 0
    Found high low p q e =
        (n : ℕ) × (low ≤ n) × Upto high n × Times (ItemEnds g item) n (spot p e) (spot q e)

    found_head : (high : Option ℕ) (low p q e : ℕ) (rest : List ℕ) →
        ((k : ℕ) → Among q (drop k rest) → Found high (suc k) p q e) →
        Among q (drop low (p ∷ rest)) → Found high low p q e
    unfolding Among Times
    found_head high zero p q e rest f h =
        elim h [
          | inl a ↦ (0, omega arith, upto_zero high, ap (λ k. spot k e) a)
          | inr b ↦ let r = f 0 b in (r.0, omega arith, r.2, r.3)
        ]
    found_head high (suc low) p q e rest f h = f low h

    found_on : (high : Option ℕ) (low p q e fuel : ℕ) (o : Option ℕ) →
        after_item g.scene item p ≡ o → is_none_left high ≡ false →
        ((r : ℕ) → Among q (drop low (r ∷ run_places g.scene item fuel (one_less high) r)) →
        Found (one_less high) low r q e) →
        Among q (drop low (elim o [
          | None ↦ []
          | Some r ↦ r ∷ run_places g.scene item fuel (one_less high) r
        ])) → Found high (suc low) p q e
    unfolding Times
    found_on high low p q e fuel None is left f h = absurd (among_none q low h)
    found_on high low p q e fuel (Some r) is left f h =
        let k = f r h in (
          suc k.0,
          omega (arith, k.1),
          upto_next high k.0 left k.2,
          (spot r e, rw is refl, k.3),
        )

    found_case : (high : Option ℕ) (low p q e fuel : ℕ) (b : Bool) → is_none_left high ≡ b →
        ((r : ℕ) → Among q (drop low (r ∷ run_places g.scene item fuel (one_less high) r)) →
        Found (one_less high) low r q e) →
        Among q (drop low (elim b [
          | true ↦ []
          | false ↦ elim (after_item g.scene item p) [
            | None ↦ []
            | Some r ↦ r ∷ run_places g.scene item fuel (one_less high) r
          ]
        ])) → Found high (suc low) p q e
    found_case high low p q e fuel true is f h = absurd (among_none q low h)
    found_case high low p q e fuel false is f h =
        found_on high low p q e fuel (after_item g.scene item p) refl is f h

    found_rest : (high : Option ℕ) (fuel low p q e : ℕ) →
        Among q (drop low (run_places g.scene item fuel high p)) → Found high (suc low) p q e
    unfolding run_places
    found_rest high zero low p q e h = absurd (among_none q low h)
    found_rest high (suc fuel) low p q e h =
        found_case high low p q e fuel (is_none_left high) refl
        (λ r. found_head (one_less high) low r q e _
        (λ k. found_rest (one_less high) fuel k r q e)) h

    same_place : (k r : ℕ) → ◌≡◌ {A = Option ℕ} (Some k) (Some r) → r ≡ k
    same_place k r e = cc

    less : (n : ℕ) → suc n - 1 ≡ n
    less n = omega arith

    all_on : (high : Option ℕ) (low p q fuel : ℕ) (b : Bool) (o : Option ℕ) (r : ℕ) → b ≡ false →
        o ≡ Some r → Among q (drop (low - 1) (r ∷ run_places g.scene item fuel (one_less high) r)) →
        Among q (drop low (p ∷ elim b [
          | true ↦ []
          | false ↦ elim o [
            | None ↦ []
            | Some r ↦ r ∷ run_places g.scene item fuel (one_less high) r
          ]
        ]))
    unfolding Among
    all_on high low p q fuel true o r eb eo h = cc
    all_on high low p q fuel false None r eb eo h = cc
    all_on high zero p q fuel false (Some k) r eb eo h =
        inr (subst (λ r. Among q (r ∷ run_places g.scene item fuel (one_less high) r))
        (same_place k r eo) h)
    all_on high (suc low) p q fuel false (Some k) r eb eo h =
        subst (λ j. Among q (drop j (k ∷ run_places g.scene item fuel (one_less high) k)))
        (less low)
        (subst (λ r. Among q (drop (suc low - 1)
        (r ∷ run_places g.scene item fuel (one_less high) r)))
        (same_place k r eo) h)

    goes_of : (o : Option ℕ) (x y : Spot) → GoesTo o x y →
        (p : ℕ) × (o ≡ Some p) × (y ≡ record x { place = p })
    goes_of None x y h = absurd h
    goes_of (Some p) x y h = (p, refl, h)

    found_all : (high : Option ℕ) (n fuel low p e : ℕ) (y : Spot) → low ≤ n → Upto high n →
        length g.subject ≤ p + fuel → Times (ItemEnds g item) n (spot p e) y →
        Among y.place (drop low (p ∷ run_places g.scene item fuel high p))
    unfolding Among Times run_places
    found_all high zero fuel zero p e y l u f h = inl (place_of y _ h)
    found_all high zero fuel (suc low) p e y l u f h = absurd (omega (arith, l))
    found_all high (suc n) zero low p e y l u f h =
        let r = goes_of _ _ _ h.1 in
        let far = item_steps g.scene item p r.0 r.1 in
        absurd (omega (arith, f, far.1))
    found_all high (suc n) (suc fuel) low p e y l u f h =
        let r = goes_of _ _ _ h.1 in
        let far = item_steps g.scene item p r.0 r.1 in
        all_on high low p y.place fuel (is_none_left high) (after_item g.scene item p) r.0
        (upto_left high n u) r.1
        (found_all (one_less high) n fuel (low - 1) r.0 e y (omega (arith, l)) (upto_less high n u)
        (omega (arith, f, far.0)) (subst (λ z. Times (ItemEnds g item) n z y) r.2 h.2))

    room_on : (h fuel : ℕ) (b : Bool) (o : Option ℕ) → (h == 0) ≡ b →
        ((r : ℕ) → length (run_places g.scene item fuel (Some (h - 1)) r) ≤ h - 1) →
        length {A = ℕ} (elim b [
          | true ↦ []
          | false ↦ elim o [
            | None ↦ []
            | Some r ↦ r ∷ run_places g.scene item fuel (Some (h - 1)) r
          ]
        ]) ≤ h
    room_on h fuel true o e f = omega arith
    room_on h fuel false None e f = omega arith
    room_on h fuel false (Some r) e f = let k = f r in grind (arith, k, e)

    run_room : (h fuel p : ℕ) → length (run_places g.scene item fuel (Some h) p) ≤ h
    unfolding run_places
    run_room h zero p = omega arith
    run_room h (suc fuel) p =
        room_on h fuel (h == 0) (after_item g.scene item p) refl (λ r. run_room (h - 1) fuel r)

    drop_room : (high : Option ℕ) (low p : ℕ) →
        Room (option_map (λ n. n - low) high) (drop low (p ∷ longest_run g.scene item high p))
    drop_room None low p = tt
    drop_room (Some h) low p =
        let r = run_room h (length g.subject) p in
        let d = length-drop low (p ∷ longest_run g.scene item (Some h) p) in
        omega (arith, r, d)

    abbrev pub Many : ℕ → Option ℕ → Way
    Many low high x y = (n : ℕ) × Within low high n × Times (ItemEnds g item) n x y

    fit_list : (low : ℕ) (high : Option ℕ) (s : State) (e : ℕ) (x : Stream) →
        Fits (λ y. Among y.place (drop low (s.place ∷ longest_run g.scene item high s.place))) x →
        Fits (Many low high (spot s.place e)) x
    fit_list low high s e x h =
        fits_like (λ y. Among y.place
        (drop low (s.place ∷ longest_run g.scene item high s.place))) _ x
        (λ y i. (
        let r = found_head high low s.place y.place e _
        (λ k. found_rest high (length g.subject) k s.place y.place e) i in
        (e, (r.0, within low high r.0 r.1 r.2, r.3))))
        (λ z i. (
          0,
          found_all high i.0 (length g.subject) low s.place e z (within_low low high i.0 i.1)
              (within_high low high i.0 i.1) (omega arith) i.2,
        ))
        h

    pub fit_many : (low : ℕ) (high : Option ℕ) (lazily : Bool) →
        FitsSearch (Many low high) (run_many g item low high lazily)
    unfolding run_many greedy lazy_run
    fit_many low high false s c e =
        fit_list low high s e _ (fits_reach_if g off _ _ s _
        (fits_same
        (λ y. Among y.place (reverse
        (drop low (s.place ∷ longest_run g.scene item high s.place)))) _ _
        (λ y h. from_reverse y.place _ h) (λ y h. to_reverse y.place _ h)
        (fit_offers _ s c e)))
    fit_many low high true s c e =
        fit_list low high s e _ (fits_reach_if g off _ _ s _
        (fit_reluctant _ _ (drop_room high low s.place) s c e))
