-- Each construct fits its ends where its parts do.
use Rattle.std.proofs.Common.{◌≡◌, ℕ, zero, suc, ◌+◌, ◌-◌, ◌<◌, ◌≤◌, ◌⊎◌, Bool, true, false, List, [], ◌∷◌, length}
use Rattle.std.proofs.Common.{drop, reverse, Option, Some, None, refl, sym, subst, inl, inr, arith, eqb-true}
use Rattle.std.proofs.Common.{leb-true, length-drop}
use Rattle.std.proofs.lemmas.List.{length-reverse}
use Rattle.std.specs.Prelude.{nat_le, ◌==◌, ◌&&◌}
use Rattle.pat_tree.specs.Nested.{Nested, repeat}
use Rattle.pat_lengths.specs.Lengths.{SomeLengths}
use Rattle.match_items.specs.Items.{one_less, places_back, previous}
use Rattle.ordered_search.specs.Stream.{State, reached, Stream, Search, nothing, gives, ◌or_else◌, and_then, go_on}
use Rattle.ordered_search.specs.Stream.{fails_alone, fails_inside, captured}
use Rattle.ordered_search.specs.Setting.{Setting, hold}
use Rattle.ordered_search.specs.Parts.{Searches, in_order, choices, branches, run_group, begun_at, ends_at, one_try}
use Rattle.ordered_search.specs.Parts.{tries, tries_within, run_behind, back_to, forget_passed, run_look, asserts}
use Rattle.ordered_search.specs.Parts.{is_over, turn, run_repeat}
use Rattle.dfa_ends.specs.Ends as rel
use Rattle.dfa_ends.specs.Ends.{Spot, spot, Spots, Way, HasOne, HasNone, Among, Times, Within, begun, Counted, TryEnds}
use Rattle.dfa_ends.specs.TwoMatchers.{Occurs, Ordered}
use Rattle.dfa_ends.proofs.Fits.{Fits, Chain, Either, sound_like, if_false, fits_same, fits_nothing, fits_gives}
use Rattle.dfa_ends.proofs.Fits.{fits_step, fits_or_else, fits_each, fits_decide, fits_catch, fits_held, fits_hold}
use Rattle.dfa_ends.proofs.Fits.{alone_tests, inside_tests}
use Rattle.dfa_ends.proofs.FitItems.{FitsSearch, place_of, from_reverse, to_reverse}

-- Sequences and branches.

pub all_none : FitsSearch (λ x y. y ≡ x) (gives reached)
all_none s o e = fits_gives _ s o e refl (λ y h. place_of y _ h)

pub in_order_none : FitsSearch (λ x y. y ≡ x) (in_order [])
unfolding in_order
in_order_none s o e = all_none s o e

pub all_more : (w v : Way) (f : Search) (fs : List Search) → FitsSearch w f →
    FitsSearch v (in_order fs) →
    FitsSearch (λ x. Chain (w x) v) (in_order (f ∷ fs))
unfolding in_order
all_more w v f fs h k s o e =
    fits_each (w (spot s.place e)) v (f s) (go_on (in_order fs)) (h s o e) k

module _ (g : Setting) where
  pub choices_none : FitsSearch (λ x y. ⊥) (choices g [])
  unfolding choices
  choices_none s o e = fits_nothing _ (λ y h. h)

  pub choices_last : (w : Way) (f : Search) → FitsSearch w f →
      FitsSearch (λ x y. w x y ⊎ ⊥) (choices g (f ∷ []))
  unfolding choices
  choices_last w f h s o e =
      fits_step _ _ (fits_same (w (spot s.place e)) _ _ (λ y i. inl i)
      (λ y i. elim i [ inl a ↦ a | inr b ↦ absurd b ]) (fits_catch _ (f s) (h s o e)))

  pub choices_more : (w v : Way) (f f' : Search) (fs : List Search) → FitsSearch w f →
      FitsSearch v (choices g (f' ∷ fs)) →
      FitsSearch (λ x y. w x y ⊎ v x y) (choices g (f ∷ f' ∷ fs))
  unfolding choices
  choices_more w v f f' fs h k s o e =
      fits_step _ _ (fits_or_else (w (spot s.place e)) (v (spot s.place e)) _ _
      (fits_held g _ 1 s _ (fits_catch _ _ (h _ o e))) (k s o e))

  pub branches_one : (w : Way) (f : Search) → FitsSearch w f →
      FitsSearch (λ x y. w x y ⊎ ⊥) (branches g (f ∷ []))
  unfolding branches
  branches_one w f h s o e =
      fits_same (w (spot s.place e)) _ _ (λ y i. inl i)
      (λ y i. elim i [ inl a ↦ a | inr b ↦ absurd b ]) (h s o e)

  pub branches_none : FitsSearch (λ x y. ⊥) (branches g [])
  unfolding branches
  branches_none s o e = fits_nothing _ (λ y h. h)

  pub branches_two : (w : Way) (f f' : Search) (fs : List Search) →
      FitsSearch w (choices g (f ∷ f' ∷ fs)) → FitsSearch w (branches g (f ∷ f' ∷ fs))
  unfolding branches
  branches_two w f f' fs h = h

  pub fit_group : (w : Way) (k : Option ℕ) (f : Search) → FitsSearch w f →
      FitsSearch w (run_group g k f)
  unfolding run_group
  fit_group w None f h s o e = h s o e
  fit_group w (Some n) f h s o e =
      fits_held g _ 1 s _ (fits_same (Chain (w (spot s.place e)) (λ z y. y ≡ z)) _ _
      (λ y i. subst (w (spot s.place e)) (sym i.2) i.1) (λ y i. (y, i, refl))
      (fits_each (w (spot s.place e)) (λ z y. y ≡ z) (f _)
      (λ how u. hold g how (captured n s.place u)) (h _ o e) (λ u o' e'.
      fits_hold g _ (captured n s.place u) o' e' refl (λ y i. place_of y _ i))))

  -- Lookbehinds.

  -- a try whose end must stand where the lookbehind stands
  abbrev Trying : Way → ℕ → Spot → Spots
  Trying w p x y = w (begun p x) y × (y.place ≡ x.place)

  back_again : (w : Way) (p : ℕ) (x z y : Spot) → w (begun p x) z → (z.place ≡ x.place) × (y ≡ z) →
      Trying w p x y
  back_again w p x z y i j = subst (Trying w p x) (sym j.1) (i, j.0)

  fit_here : (p : ℕ) (u : State) → u.calls ≡ [] → (e : ℕ) (b : Bool) → (u.place == p) ≡ b →
      Fits (λ y. (u.place ≡ p) × (y ≡ spot u.place e))
      (elim b [ true ↦ gives reached u | false ↦ nothing ])
  fit_here p u o e true q =
      fits_gives _ u o e (eqb-true u.place p q, refl) (λ y h. place_of y _ h.1)
  fit_here p u o e false q = fits_nothing _ (λ y h. grind (arith, q, h.0))

  fit_try : (w : Way) (f : Search) → FitsSearch w f → (p : ℕ) (s t : State) → t.calls ≡ [] →
      t.place ≡ s.place → (e : ℕ) →
      Fits (Trying w p (spot s.place e)) (and_then (f (begun_at p t)) (ends_at s.place))
  fit_try w f h p s t o same e =
      fits_same (Chain (w (begun p (spot s.place e))) (λ z y. (z.place ≡ s.place) × (y ≡ z))) _ _
      (λ y i. back_again w p (spot s.place e) i.0 y i.1 i.2) (λ y i. (y, i.0, (i.1, refl)))
      (fits_each (w (begun p (spot s.place e))) (λ z y. (z.place ≡ s.place) × (y ≡ z)) (f _)
      (go_on (ends_at s.place)) (h (begun_at p t) o (begun p (spot s.place e)).early)
      (λ u o' e'. fit_here s.place u o' e' (u.place == s.place) refl))

  abbrev TryingAny : Way → List ℕ → Way
  TryingAny w ps x y = (p : ℕ) × Among p ps × Trying w p x y

  fit_tries : (w : Way) (f : Search) → FitsSearch w f → (ps : List ℕ) →
      FitsSearch (TryingAny w ps) (tries g ps f)
  unfolding tries Among
  fit_tries w f h [] s o e = fits_nothing _ (λ y i. i.1)
  fit_tries w f h (p ∷ []) s o e =
      fits_step _ _ (fits_same (Trying w p (spot s.place e)) _ _ (λ y i. (p, inl refl, i))
      (λ y i. elim i.1 [
        | inl a ↦ subst (λ q. Trying w q (spot s.place e) y) a i.2
        | inr b ↦ absurd
            b
      ])
      (fit_try w f h p s s o refl e))
  fit_tries w f h (p ∷ q ∷ ps) s o e =
      fits_step _ _ (fits_same
      (Either (Trying w p (spot s.place e)) (TryingAny w (q ∷ ps) (spot s.place e))) _ _
      (λ y i. elim i [ inl a ↦ (p, inl refl, a) | inr b ↦ (b.0, inr b.1, b.2) ])
      (λ y i. elim i.1 [
        | inl a ↦ inl (subst (λ r. Trying w r (spot s.place e) y) a i.2)
        | inr b ↦ inr (i.0, b, i.2)
      ])
      (fits_or_else (Trying w p (spot s.place e)) (TryingAny w (q ∷ ps) (spot s.place e)) _ _
      (fits_held g _ 1 s _ (fit_try w f h p s _ o refl e)) (fit_tries w f h (q ∷ ps) s o e)))

  -- at most one place
  abbrev Single : List ℕ → Type 0
  Single ps = length ps ≤ 1

  fit_one_try : (w : Way) (f : Search) → FitsSearch w f → (ps : List ℕ) → Single ps →
      FitsSearch (λ x y. (p : ℕ) × Among p ps × w (begun p x) y) (one_try ps f)
  unfolding one_try Among
  fit_one_try w f h [] single s o e = fits_nothing _ (λ y i. i.1)
  fit_one_try w f h (p ∷ []) single s o e =
      fits_same (w (begun p (spot s.place e))) _ _ (λ y i. (p, inl refl, i))
      (λ y i. elim i.1 [
        | inl a ↦ subst (λ q. w (begun q (spot s.place e)) y) a i.2
        | inr b ↦
            absurd b
      ])
      (h (begun_at p s) o (begun p (spot s.place e)).early)
  fit_one_try w f h (p ∷ q ∷ ps) single s o e = absurd (omega (arith, single))

  back_more : (n : ℕ) (p : ℕ) (o : Option (ℕ × ℕ)) →
      ((q : ℕ) → length (places_back g.scene n q) ≤ n + 1) →
      length {A = ℕ} (elim o [ None ↦ p ∷ [] | Some c ↦ p ∷ places_back g.scene n c.1 ]) ≤ suc n + 1
  back_more n p None h = omega arith
  back_more n p (Some c) h = let k = h c.1 in omega (arith, k)

  back_room : (n p : ℕ) → length (places_back g.scene n p) ≤ n + 1
  unfolding places_back
  back_room zero p = omega arith
  back_room (suc n) p = back_more n p (previous g.scene p) (back_room n)

  single_back : (k p : ℕ) → Single (reverse (drop k (places_back g.scene k p)))
  single_back k p =
      let r = length-reverse (drop k (places_back g.scene k p)) in
      let d = length-drop k (places_back g.scene k p) in
      omega (arith, r, d, back_room k p)

  fit_within : (w : Way) (f : Search) → FitsSearch w f → (least most : ℕ) (b : Bool) →
      (least == most) ≡ b → (s : State) → s.calls ≡ [] → (e : ℕ) →
      Fits (λ y. (p : ℕ) × Among p (drop least (places_back g.scene most s.place))
      × w (begun p (spot s.place e)) y × Counted b (spot s.place e) y)
      (elim b [
        | true ↦ one_try (reverse (drop least (places_back g.scene most s.place))) f s
        | false ↦ tries g (reverse (drop least (places_back g.scene most s.place))) f s
      ])
  fit_within w f h least most true q s o e =
      fits_same
      (λ y. (p : ℕ) × Among p (reverse (drop least (places_back g.scene most s.place)))
      × w (begun p (spot s.place e)) y) _ _
      (λ y i. (i.0, from_reverse i.0 _ i.1, i.2, tt)) (λ y i. (i.0, to_reverse i.0 _ i.1, i.2))
      (fit_one_try w f h _ (subst
      (λ n. Single (reverse (drop n (places_back g.scene most s.place))))
      (sym (eqb-true least most q)) (single_back most s.place)) s o e)
  fit_within w f h least most false q s o e =
      fits_same (TryingAny w (reverse (drop least (places_back g.scene most s.place)))
      (spot s.place e)) _ _
      (λ y i. (i.0, from_reverse i.0 _ i.1, i.2.0, i.2.1))
      (λ y i. (i.0, to_reverse i.0 _ i.1, (i.2, i.3)))
      (fit_tries w f h _ s o e)

  fit_limited : (w : Way) (least : ℕ) (most : Option ℕ) (f : Search) → FitsSearch w f →
      FitsSearch (λ x y. (p : ℕ) × Among p (rel.tries_within g least most x.place)
      × w (begun p x) y × Counted (rel.is_only least most) x y) (tries_within g least most f)
  unfolding tries_within Among
  fit_limited w least None f h s o e = fits_nothing _ (λ y i. i.1)
  fit_limited w least (Some most) f h s o e =
      fit_within w f h least most (least == most) refl s o e

  pub fit_behind : (w : Way) (lengths : SomeLengths) (f : Search) → FitsSearch w f →
      FitsSearch (TryEnds g lengths w) (run_behind g lengths f)
  unfolding run_behind Among
  fit_behind w None f h s o e = fits_nothing _ (λ y i. i.1)
  fit_behind w (Some a) f h s o e = fit_limited w a.least a.most f h s o e

  -- Lookarounds.

  pub fit_look : (w : Way) (f : Search) → FitsSearch w f →
      FitsSearch (λ x y. HasOne (w x) × (y ≡ x)) (run_look g true true f)
  unfolding run_look
  fit_look w f h s o e =
      fits_held g _ 1 s _ (fits_decide fails_alone alone_tests (w (spot s.place e)) _ (f _) _
      nothing (h _ o e)
      (λ u o' one. fits_hold g _ (back_to s (forget_passed s u)) o' e (one, refl)
      (λ y i. place_of y _ i.1))
      (λ none. fits_nothing _ (λ y i. none i.0.0 i.0.1)))

  pub fit_not_look : (w : Way) (once : Bool) (f : Search) → FitsSearch w f →
      FitsSearch (λ x y. HasNone (w x) × (y ≡ x)) (run_look g false once f)
  unfolding run_look
  fit_not_look w once f h s o e =
      fits_held g _ 1 s _ (fits_decide fails_inside inside_tests (w (spot s.place e)) _ (f _) _
      (gives reached s) (h _ o e)
      (λ u o' one. fits_nothing _ (λ y i. i.0 one.0 one.1))
      (λ none. fits_gives _ s o e (none, refl) (λ y i. place_of y _ i.1)))

  -- a test, what follows where it is so and where it is not
  abbrev pub Branching : Spots → Spots → Way → Way → Way
  Branching so not_so v v' x y = (so x × v x y) ⊎ (not_so x × v' x y)

  pub fit_asserts : (w v v' : Way) (f f' f'' : Search) → FitsSearch w f → FitsSearch v f' →
      FitsSearch v' f'' →
      FitsSearch (Branching (λ x. HasOne (w x)) (λ x. HasNone (w x)) v v') (asserts g true f f' f'')
  unfolding asserts
  fit_asserts w v v' f f' f'' h k k' s o e =
      fits_held g _ 1 s _ (fits_decide fails_inside inside_tests (w (spot s.place e)) _ (f _) _ _
      (h _ o e)
      (λ u o' one. fits_held g _ 1 (back_to s (forget_passed s u)) _
      (fits_same (v (spot s.place e)) _ _ (λ y i. inl (one, i))
      (λ y i. elim i [ inl a ↦ a.1 | inr b ↦ absurd (b.0 one.0 one.1) ]) (k _ o' e)))
      (λ none. fits_same (v' (spot s.place e)) _ _ (λ y i. inr (none, i))
      (λ y i. elim i [ inl a ↦ absurd (none a.0.0 a.0.1) | inr b ↦ b.1 ]) (k' s o e)))

  pub fit_asserts_not : (w v v' : Way) (f f' f'' : Search) → FitsSearch w f → FitsSearch v f' →
      FitsSearch v' f'' →
      FitsSearch (Branching (λ x. HasNone (w x)) (λ x. HasOne (w x)) v v')
      (asserts g false f f' f'')
  unfolding asserts
  fit_asserts_not w v v' f f' f'' h k k' s o e =
      fits_held g _ 1 s _ (fits_decide fails_inside inside_tests (w (spot s.place e)) _ (f _) _ _
      (h _ o e)
      (λ u o' one. fits_held g _ 1 (back_to s (forget_passed s u)) _
      (fits_same (v' (spot s.place e)) _ _ (λ y i. inr (one, i))
      (λ y i. elim i [ inl a ↦ absurd (a.0 one.0 one.1) | inr b ↦ b.1 ]) (k' _ o' e)))
      (λ none. fits_same (v (spot s.place e)) _ _ (λ y i. inl (none, i))
      (λ y i. elim i [ inl a ↦ a.1 | inr b ↦ absurd (none b.0.0 b.0.1) ]) (k s o e)))

-- Repeats.

abbrev pub Turns : Way → ℕ → Option ℕ → Way
Turns w low high x y = (n : ℕ) × Within low high n × Times w n x y

-- at least one turn
abbrev More : Way → ℕ → Option ℕ → Way
More w low high x y = (n : ℕ) × Within low high (suc n) × Times w (suc n) x y

-- a turn may be made
abbrev Open : Option ℕ → Type 0
Open None = Unit {0}
Open (Some high) = 0 < high

within_less : (low : ℕ) (high : Option ℕ) (n : ℕ) → Within low high (suc n) →
    Within (low - 1) (one_less high) n
within_less low None n w = omega (arith, w)
within_less low (Some h) n w = (omega (arith, w.0), omega (arith, w.1))

within_one_more : (low : ℕ) (high : Option ℕ) (n : ℕ) → Open high →
    Within (low - 1) (one_less high) n → Within low high (suc n)
within_one_more low None n o w = omega (arith, w)
within_one_more low (Some h) n o w = (omega (arith, w.0), omega (arith, o, w.1))

ordered_less : (low : ℕ) (high : Option ℕ) → Ordered low high → Ordered (low - 1) (one_less high)
ordered_less low None h = tt
ordered_less low (Some k) h = omega (arith, h)

and_false : (a b : Bool) → a ≡ false → (a && b) ≡ false
and_false true b e = cc
and_false false b e = refl

no_le : (b : Bool) (n : ℕ) → nat_le (suc (suc n)) 1 ≡ b → nat_le (suc (suc n)) 1 ≡ false
no_le true n e = let l = leb-true (suc (suc n)) 1 e in absurd (omega (arith, l))
no_le false n e = e

past_one : (n : ℕ) → nat_le (suc (suc n)) 1 ≡ false
past_one n = no_le (nat_le (suc (suc n)) 1) n refl

-- two turns that are owed, or a maximum: no turn is the last for taking nothing
never_over : (low : ℕ) (high : Option ℕ) (s u : State) → is_over (suc (suc low)) high s u ≡ false
never_over low None s u = and_false (nat_le (suc (suc low)) 1) _ (past_one low)
never_over low (Some h) s u = refl

-- what follows a turn of a repeat without maximum whose minimum is reached: nothing more after an empty one
abbrev After : Way → ℕ → Way
After w p z y = ((z.place ≡ p) × (y ≡ z)) ⊎ ((z.place ≡ p → ⊥) × Turns w 0 None z y)

differ : (a b : ℕ) → (a == b) ≡ false → b ≡ a → ⊥
differ a b e h = grind (arith, e, h)

elim_eq : (a b : ℕ) (t : Bool) → (a == b) ≡ t → (a ≡ b) ⊎ (a ≡ b → ⊥)
elim_eq a b true e = inl (eqb-true a b e)
elim_eq a b false e = inr (λ h. differ a b e (sym h))

at_least : (w : Way) (low : ℕ) (high : Option ℕ) (x y : Spot) (n : ℕ) → Within (suc low) high n →
    Times w n x y → More w (suc low) high x y
at_least w low None x y zero i t = absurd (omega (arith, i))
at_least w low (Some h) x y zero i t = absurd (omega (arith, i.0))
at_least w low high x y (suc n) i t = (n, i, t)

within_none : (high : Option ℕ) → Within 0 high 0
within_none None = omega arith
within_none (Some h) = (omega arith, omega arith)

turns_case : (w : Way) (high : Option ℕ) (x y : Spot) (n : ℕ) → Within 0 high n → Times w n x y →
    More w 0 high x y ⊎ (y ≡ x)
unfolding Times
turns_case w high x y zero i t = inr t
turns_case w high x y (suc n) i t = inl (n, i, t)

start_of : (w : Way) (x y : Spot) → y ≡ x → Times w 0 x y
unfolding Times
start_of w x y h = h

only : (w : Way) (x y : Spot) (n : ℕ) → Within 0 (Some 0) n → Times w n x y → y ≡ x
unfolding Times
only w x y zero i t = t
only w x y (suc n) i t = absurd (omega (arith, i.1))

open_of : (low : ℕ) (high : Option ℕ) → Ordered (suc low) high → Open high
open_of low None o = tt
open_of low (Some h) o = omega (arith, o)

swapped : (A B : Type 0) → A ⊎ B → B ⊎ A
swapped A B h = elim h [ inl a ↦ inr a | inr b ↦ inl b ]

same_place : (a b : ℕ) → (a ≡ b) ⊎ (a ≡ b → ⊥)
same_place a b = elim_eq a b (a == b) refl

-- Nothing is lost: a path through an empty first turn is a path without it, as far as places go.
star_full : (w : Way) (p : ℕ) (x : Stream) →
    ((e : ℕ) (y : Spot) → Chain (w (spot p e)) (After w p) y → Occurs y.place x) →
    (n e : ℕ) (y : Spot) → Times w (suc n) (spot p e) y → Occurs y.place x
unfolding Times
star_full w p x all zero e y t =
    elim (same_place t.0.place p) [
      | inl same ↦ all e y (t.0, t.1, inl (same, t.2))
      | inr other ↦ all e y (t.0, t.1, inr (other, (0, omega arith, t.2)))
    ]
star_full w p x all (suc n) e y t =
    elim (same_place t.0.place p) [
      | inl same ↦ star_full w p x all n t.0.early y
          (subst (λ q. Times w (suc n) (spot q t.0.early) y) same t.2)
      | inr other ↦ all e y (t.0, t.1, inr (other, (suc n, omega arith, t.2)))
    ]

module _ (g : Setting) (w : Way) (below : Searches) (body : Nested) where
  owed : (low : ℕ) (high : Option ℕ) (x : Stream) (s : State) (e : ℕ) →
      Fits (More w (suc low) high (spot s.place e)) x →
      Fits (Turns w (suc low) high (spot s.place e)) x
  owed low high x s e h =
      fits_same _ _ x (λ y i. (suc i.0, i.1, i.2)) (λ y i. at_least w low high _ y i.0 i.1 i.2) h

  turns_of : (high : Option ℕ) (x y : Spot) → Either (More w 0 high x) (λ y. y ≡ x) y →
      Turns w 0 high x y
  unfolding Times
  turns_of high x y i = elim i [ inl a ↦ (suc a.0, a.1, a.2) | inr b ↦ (0, within_none high, b) ]

  of_turns : (high : Option ℕ) (x y : Spot) → Turns w 0 high x y →
      Either (More w 0 high x) (λ y. y ≡ x) y
  of_turns high x y i = turns_case w high x y i.0 i.1 i.2

  last : (lazily : Bool) (high : Option ℕ) →
      FitsSearch (More w 0 high) (turn g below body 0 high lazily) → (s : State) → s.calls ≡ [] →
      (e : ℕ) →
      Fits (Turns w 0 high (spot s.place e))
      (turn g below body 0 high lazily s or_else gives reached s)
  last lazily high h s o e =
      fits_same _ _ _ (turns_of high (spot s.place e)) (of_turns high (spot s.place e))
      (fits_or_else (More w 0 high (spot s.place e)) (λ y. y ≡ spot s.place e) _ _ (h s o e)
      (all_none s o e))

  first : (lazily : Bool) (high : Option ℕ) →
      FitsSearch (More w 0 high) (turn g below body 0 high lazily) → (s : State) → s.calls ≡ [] →
      (e : ℕ) →
      Fits (Turns w 0 high (spot s.place e))
      (hold g reached s or_else turn g below body 0 high lazily s)
  unfolding hold
  first lazily high h s o e =
      fits_same _ _ _ (λ y i. turns_of high (spot s.place e) y (swapped _ _ i))
      (λ y i. swapped _ _ (of_turns high (spot s.place e) y i))
      (fits_or_else (λ y. y ≡ spot s.place e) (More w 0 high (spot s.place e)) _ _
      (fits_held g _ 1 s _ (all_none _ o e)) (h s o e))

  both_ways : (lazily : Bool) (high : Option ℕ) → Open high →
      FitsSearch (More w 0 high) (turn g below body 0 high lazily) →
      FitsSearch (Turns w 0 high) (run_repeat g below body zero high lazily)
  unfolding run_repeat
  both_ways true None op h s o e = first true None h s o e
  both_ways false None op h s o e = last false None h s o e
  both_ways true (Some zero) op h s o e = absurd (omega (arith, op))
  both_ways false (Some zero) op h s o e = absurd (omega (arith, op))
  both_ways true (Some (suc k)) op h s o e = first true (Some (suc k)) h s o e
  both_ways false (Some (suc k)) op h s o e = last false (Some (suc k)) h s o e

  no_turn : (lazily : Bool) →
      FitsSearch (Turns w 0 (Some 0)) (run_repeat g below body zero (Some zero) lazily)
  unfolding run_repeat
  no_turn lazily s o e =
      fits_same (λ y. y ≡ spot s.place e) _ _ (λ y i. (0, within_none (Some 0), start_of w _ y i))
      (λ y i. only w _ y i.0 i.1 i.2) (all_none s o e)

module _ (g : Setting) (w : Way) (below : Searches) (body : Nested) (lazily : Bool)
    (hb : FitsSearch w (below body))
    (hr : (low : ℕ) (high : Option ℕ) → Ordered low high →
    FitsSearch (Turns w low high) (below (repeat body low high lazily))) where
  counted : (low : ℕ) (high : Option ℕ) → Ordered low high → Open high →
      ((s u : State) → is_over low high s u ≡ false) →
      FitsSearch (More w low high) (turn g below body low high lazily)
  unfolding turn Times
  counted low high ord op no_over s o e =
      fits_step _ _ (fits_held g _ 1 s _
      (fits_same (Chain (w (spot s.place e)) (Turns w (low - 1) (one_less high))) _ _
      (λ y i. (i.2.0, within_one_more low high i.2.0 op i.2.1, (i.0, i.1, i.2.2)))
      (λ y i. (i.2.0, i.2.1, (i.0, within_less low high i.0 i.1, i.2.2)))
      (fits_each (w (spot s.place e)) (Turns w (low - 1) (one_less high)) (below body _) (go_on _)
      (hb _ o e) (λ u o' e'.
      if_false _ (is_over low high s u) _ _ (no_over s u)
      (hr (low - 1) (one_less high) (ordered_less low high ord) u o' e')))))

  after : (s u : State) → u.calls ≡ [] → (e : ℕ) (b : Bool) → (s.place == u.place) ≡ b →
      Fits (After w s.place (spot u.place e))
      (elim b [ true ↦ gives reached u | false ↦ below (repeat body 0 None lazily) u ])
  after s u o e true q =
      let same = sym (eqb-true s.place u.place q) in
      fits_gives _ u o e (inl (same, refl))
      (λ y h. elim h [ inl a ↦ place_of y _ a.1 | inr b ↦ absurd (b.0 same) ])
  after s u o e false q =
      let other = differ s.place u.place q in
      fits_same (Turns w 0 None (spot u.place e)) _ _ (λ y i. inr (other, i))
      (λ y h. elim h [ inl a ↦ absurd (other a.0) | inr b ↦ b.1 ]) (hr 0 None tt u o e)

  more_of : (low : ℕ) → low ≤ 1 → (p : ℕ) (x y : Spot) → Chain (w x) (After w p) y →
      More w low None x y
  unfolding Times
  more_of low l p x y i =
      elim (i.2) [
        | inl a ↦ (0, omega (arith, l), (i.0, i.1, a.1))
        | inr b ↦ (b.1.0, omega (arith, l), (i.0, i.1, b.1.2))
      ]

  star : (low : ℕ) → low ≤ 1 → (s : State) (x : Stream) →
      ((e : ℕ) → Fits (Chain (w (spot s.place e)) (After w s.place)) x) →
      (e : ℕ) → Fits (More w low None (spot s.place e)) x
  star low l s x k e = record {
    sound = sound_like _ _ x (λ y i. (y.early, more_of low l s.place (spot s.place e) y i))
        (k e).sound;
    full = λ d y i. star_full w s.place x (λ e' y' j. (k e').full d y' j) i.0 e y i.2;
  }

  star_none : FitsSearch (More w 0 None) (turn g below body 0 None lazily)
  unfolding turn
  star_none s o e =
      star 0 (omega arith) s _ (λ e. fits_step _ _ (fits_held g _ 1 s _
      (fits_each (w (spot s.place e)) (After w s.place) (below body _) (go_on _) (hb _ o e)
      (λ u o' e'. after s u o' e' (s.place == u.place) refl)))) e

  star_one : FitsSearch (More w 1 None) (turn g below body 1 None lazily)
  unfolding turn
  star_one s o e =
      star 1 (omega arith) s _ (λ e. fits_step _ _ (fits_held g _ 1 s _
      (fits_each (w (spot s.place e)) (After w s.place) (below body _) (go_on _) (hb _ o e)
      (λ u o' e'. after s u o' e' (s.place == u.place) refl)))) e

  pub fit_repeat : (low : ℕ) (high : Option ℕ) → Ordered low high →
      FitsSearch (Turns w low high) (run_repeat g below body low high lazily)
  unfolding run_repeat
  fit_repeat (suc (suc low)) high ord s o e =
      owed g w below body (suc low) high _ s e
      (counted (suc (suc low)) high ord (open_of (suc low) high ord) (never_over low high) s o e)
  fit_repeat (suc zero) None ord s o e = owed g w below body 0 None _ s e (star_one s o e)
  fit_repeat (suc zero) (Some k) ord s o e =
      owed g w below body 0 (Some k) _ s e (counted 1 (Some k) ord ord (λ t u. refl) s o e)
  fit_repeat zero None ord s o e = both_ways g w below body lazily None tt star_none s o e
  fit_repeat zero (Some zero) ord s o e = no_turn g w below body lazily s o e
  fit_repeat zero (Some (suc k)) ord s o e =
      both_ways g w below body lazily (Some (suc k)) (omega arith)
      (counted 0 (Some (suc k)) ord (omega arith) (λ t u. refl)) s o e
