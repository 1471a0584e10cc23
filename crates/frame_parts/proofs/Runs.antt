-- Runs of one item, forward and back.
use Rattle.std.proofs.Common.{◌≡◌, ℕ, zero, suc, ◌+◌, ◌-◌, ◌<◌, ◌≤◌, ◌∙◌, Bool, true, false, ◌&&◌, ◌||◌, not, List}
use Rattle.std.proofs.Common.{[], ◌∷◌, ◌++◌, take, drop, reverse, Option, Some, None, length, append_assoc}
use Rattle.std.proofs.Common.{append-nil, inl, inr, refl, sym, ap, subst, arith}
use Rattle.std.proofs.lemmas.List.{reverse-append}
use Rattle.std.proofs.Math.Seq.{drop-nil}
use Rattle.std.proofs.lemmas.Bool.{ne_eqb, cond-true, cond-false, lt-ltb, le-ltb, cases_lt, false≢true}
use Rattle.pat_tree.specs.declared.nodes.Item.{Item}
use Rattle.pat_tree.specs.Rules.{AtMost}
use Rattle.match_items.specs.Items.{one_less, is_none_left, after_item, item_reaches, run_places, longest_run}
use Rattle.match_items.specs.Items.{run_reaches, place_before}
use Rattle.frame_state.specs.Ground.{Ground, IsGround}
use Rattle.match_items.specs.Views.{end_of}
use Rattle.frame_state.specs.Machine.{less}
use Rattle.frame_state.specs.Reach.{many_reaches}
use Rattle.frame_state.specs.Frames.{back_from, fewer_places}

-- One thing or another holds.

pub or_led : (a b x y m : Bool) → a ≡ x → b ≡ y → (x || y) ≡ m → (a || b) ≡ m
or_led a b x y m e f h = ap (λ z. z || b) e ∙ ap (λ z. x || z) f ∙ h

pub first_led : (a b m : Bool) → a ≡ true → (a || b) ≡ m → a ≡ m
first_led a b m e h = e ∙ sym (ap (λ z. z || b) e) ∙ h

pub rest_led : (a b m : Bool) → a ≡ false → (a || b) ≡ m → b ≡ m
rest_led a b m e h = sym (ap (λ z. z || b) e) ∙ h

or_assoc : (a b d : Bool) → ((a || b) || d) ≡ (a || (b || d))
or_assoc true b d = refl
or_assoc false b d = refl

module _ (c : Ground) (ok : IsGround c) (item : Item) where
  abbrev pub run_at : Option ℕ → ℕ → List ℕ
  run_at most p = longest_run c.setting.scene item most p

  abbrev after_at : ℕ → Option ℕ
  after_at p = after_item c.setting.scene item p

  abbrev places : ℕ → Option ℕ → ℕ → List ℕ
  places n most p = run_places c.setting.scene item n most p

  run_stop : (n : ℕ) (most : Option ℕ) (p : ℕ) → is_none_left most ≡ true → places n most p ≡ []
  unfolding run_places
  run_stop zero most p e = refl
  run_stop (suc n) most p e =
      ap (λ b. elim b [
        | true ↦ []
        | false ↦ elim (after_at p) [ None ↦ [] | Some q ↦ q ∷ places n (one_less most) q ]
      ]) e

  run_zero : (most : Option ℕ) (p : ℕ) → places 0 most p ≡ []
  unfolding run_places
  run_zero most p = refl

  run_none : (n : ℕ) (most : Option ℕ) (p : ℕ) → after_at p ≡ None → places n most p ≡ []
  unfolding run_places
  run_none zero most p e = refl
  run_none (suc n) most p e =
      elim (is_none_left most) as (λ b. elim b [
        | true ↦ []
        | false ↦ elim (after_at p) [ None ↦ [] | Some q ↦ q ∷ places n (one_less most) q ]
      ] ≡ []) [
        | true ↦ refl
        | false ↦ ap (λ o. elim o [ None ↦ [] | Some q ↦ q ∷ places n (one_less most) q ]) e
      ]

  run_some : (n : ℕ) (most : Option ℕ) (p q : ℕ) → is_none_left most ≡ false → after_at p ≡ Some q
      → places (suc n) most p ≡ q ∷ places n (one_less most) q
  unfolding run_places
  run_some n most p q e f =
      ap (λ b. elim b [
        | true ↦ []
        | false ↦ elim (after_at p) [ None ↦ [] | Some r ↦ r ∷ places n (one_less most) r ]
      ]) e
      ∙ ap (λ o. elim o [ None ↦ [] | Some r ↦ r ∷ places n (one_less most) r ]) f

  -- with no fewer than are left, the bound on the number changes nothing
  run_fuel_cases : (n m : ℕ) (most : Option ℕ) (p : ℕ) → c.stands p ≡ true → length c.setting.subject ≤ n + p
      → length c.setting.subject ≤ m + p →
      (left : Bool) → is_none_left most ≡ left → (o : Option ℕ) → after_at p ≡ o → places n most p ≡ places m most p
  run_fuel_cases n m most p h a b true e o f = run_stop n most p e ∙ sym (run_stop m most p e)
  run_fuel_cases n m most p h a b false e None f = run_none n most p f ∙ sym (run_none m most p f)
  run_fuel_cases zero m most p h a b false e (Some q) f =
      let w = ok.forward item p q h f in let within = ok.within q w.1 in absurd (omega (arith, a, w.0, within))
  run_fuel_cases (suc n) zero most p h a b false e (Some q) f =
      let w = ok.forward item p q h f in let within = ok.within q w.1 in absurd (omega (arith, b, w.0, within))
  run_fuel_cases (suc n) (suc m) most p h a b false e (Some q) f =
      let w = ok.forward item p q h f in
      run_some n most p q e f
      ∙ ap (λ l. q ∷ l) (run_fuel_cases n m (one_less most) q w.1 (omega (arith, a, w.0)) (omega (arith, b, w.0))
      (is_none_left (one_less most)) refl (after_at q) refl)
      ∙ sym (run_some m most p q e f)

  run_fuel : (n m : ℕ) (most : Option ℕ) (p : ℕ) → c.stands p ≡ true → length c.setting.subject ≤ n + p
      → length c.setting.subject ≤ m + p → places n most p ≡ places m most p
  run_fuel n m most p h a b = run_fuel_cases n m most p h a b (is_none_left most) refl (after_at p) refl

  -- the longest run, place by place
  longest_stop : (most : Option ℕ) (p : ℕ) → is_none_left most ≡ true → run_at most p ≡ []
  longest_stop most p e = run_stop (length c.setting.subject) most p e

  pub longest_none : (most : Option ℕ) (p : ℕ) → after_at p ≡ None → run_at most p ≡ []
  longest_none most p e = run_none (length c.setting.subject) most p e

  pub longest_some : (most : Option ℕ) (p q : ℕ) → c.stands p ≡ true → is_none_left most ≡ false → after_at p ≡ Some q
      → run_at most p ≡ q ∷ run_at (one_less most) q
  longest_some most p q h e f =
      let w = ok.forward item p q h f in
      let some : length c.setting.subject ≡ suc (length c.setting.subject - 1) = let within = ok.within q w.1 in
      omega (arith, w.0, within) in
      ap (λ n. places n most p) some ∙ run_some (length c.setting.subject - 1) most p q e f
      ∙ ap (λ l. q ∷ l) (run_fuel (length c.setting.subject - 1) (length c.setting.subject) (one_less most) q w.1
      (omega (arith, w.0)) (omega arith))

  some_left : (n : ℕ) → is_none_left (Some (suc n)) ≡ false
  some_left n = ne_eqb (suc n) 0 (λ x. omega (arith, x))

  some_at_least : (low : ℕ) (high : Option ℕ) → AtMost (suc low) high → is_none_left high ≡ false
  some_at_least low None h = refl
  some_at_least low (Some n) h = ne_eqb n 0 (λ x. omega (arith, x, h))

  at_most_less : (low : ℕ) (high : Option ℕ) → AtMost (suc low) high → AtMost low (one_less high)
  at_most_less low None h = tt
  at_most_less low (Some n) h = omega (arith, h)

  one_less_some : (low : ℕ) → one_less (Some (suc low)) ≡ Some low
  one_less_some low = let e : suc low - 1 ≡ low = omega arith in ap Some e

  less_zero : (high : Option ℕ) → less 0 high ≡ high
  less_zero None = refl
  less_zero (Some n) = let e : n - 0 ≡ n = omega arith in ap Some e

  less_one_less : (low : ℕ) (high : Option ℕ) → less low (one_less high) ≡ less (suc low) high
  less_one_less low None = refl
  less_one_less low (Some n) = let e : n - 1 - low ≡ n - suc low = omega arith in ap Some e

  -- a run that reaches its minimum goes on from there
  pub record Reached (low : ℕ) (high : Option ℕ) (p : ℕ) (first : List ℕ) : Type 0 where
    pub rest : drop low (p ∷ run_at high p) ≡ end_of p first ∷ run_at (less low high) (end_of p first)
    pub here : c.stands (end_of p first) ≡ true
    pub further : low + p ≤ end_of p first

  first_more : (low p q : ℕ) → c.stands p ≡ true → after_at p ≡ Some q
      → run_at (Some (suc low)) p ≡ q ∷ run_at (Some low) q
  first_more low p q h f = longest_some (Some (suc low)) p q h (some_left low) f
      ∙ ap (λ (o : Option ℕ). q ∷ run_at o q) (one_less_some low)

  reached_cases : (low : ℕ) (high : Option ℕ) (p : ℕ) → c.stands p ≡ true → AtMost low high → (o : Option ℕ)
      → after_at p ≡ o → length (run_at (Some low) p) ≡ low →
      Reached low high p (run_at (Some low) p)
  reached_cases zero high p h m o f e =
      subst (Reached 0 high p) (sym (longest_stop (Some 0) p refl))
      (record { rest = ap (λ (o : Option ℕ). p ∷ run_at o p) (sym (less_zero high)); here = h; further = omega arith })
  reached_cases (suc low) high p h m None f e =
      absurd (let z : length (run_at (Some (suc low)) p) ≡ 0 = ap length (longest_none (Some (suc low)) p f) in
      omega (arith, z, e))
  reached_cases (suc low) high p h m (Some q) f e =
      let w = ok.forward item p q h f in
      let first : run_at (Some (suc low)) p ≡ q ∷ run_at (Some low) q = first_more low p q h f in
      let count : length (run_at (Some low) q) ≡ low = let z : length (run_at (Some (suc low)) p) ≡ suc
      (length (run_at (Some low) q)) = ap length first in omega (arith, z, e) in
      let r = reached_cases low (one_less high) q w.1 (at_most_less low high m) (after_at q) refl count in
      subst (Reached (suc low) high p) (sym first)
      (record {
        rest =
            ap (drop low) (longest_some high p q h (some_at_least low high m) f)
            ∙ r.rest
            ∙ ap (λ (o : Option ℕ). end_of q (run_at (Some low) q) ∷ run_at o (end_of q (run_at (Some low) q)))
            (less_one_less low high);
        here = r.here;
        further = omega (arith, r.further, w.0);
      })

  pub run_reached : (low : ℕ) (high : Option ℕ) (p : ℕ) → c.stands p ≡ true → AtMost low high
      → length (run_at (Some low) p) ≡ low → Reached low high p (run_at (Some low) p)
  run_reached low high p h m e = reached_cases low high p h m (after_at p) refl e

  -- a run that ends before offers no place
  short_cases : (low : ℕ) (high : Option ℕ) (p : ℕ) → c.stands p ≡ true → AtMost low high → (o : Option ℕ)
      → after_at p ≡ o → length (run_at (Some low) p) < low → drop low (p ∷ run_at high p) ≡ []
  short_cases zero high p h m o f e = absurd (omega (arith, e))
  short_cases (suc low) high p h m None f e = ap (drop low) (longest_none high p f) ∙ drop-nil low
  short_cases (suc low) high p h m (Some q) f e =
      let w = ok.forward item p q h f in
      let count : length (run_at (Some low) q) < low = let z : length (run_at (Some (suc low)) p) ≡ suc
      (length (run_at (Some low) q)) = ap length (first_more low p q h f) in omega (arith, z, e) in
      ap (drop low) (longest_some high p q h (some_at_least low high m) f)
      ∙ short_cases low (one_less high) q w.1 (at_most_less low high m) (after_at q) refl count

  pub run_short : (low : ℕ) (high : Option ℕ) (p : ℕ) → c.stands p ≡ true → AtMost low high
      → length (run_at (Some low) p) < low → drop low (p ∷ run_at high p) ≡ []
  run_short low high p h m e = short_cases low high p h m (after_at p) refl e

  -- What the tests of a run tell of the subject's end.

  abbrev reaches_at : Option ℕ → ℕ → List ℕ → Bool
  reaches_at most p ps = run_reaches c.setting.scene item most p ps

  abbrev one_reaches : ℕ → Bool
  one_reaches p = item_reaches c.setting.scene item p

  -- the same as that of a shorter maximum which isn't reached
  short_reaches : (low : ℕ) (high : Option ℕ) (p : ℕ) → c.stands p ≡ true → AtMost low high → (o : Option ℕ)
      → after_at p ≡ o → length (run_at (Some low) p) < low →
      reaches_at (Some low) p (run_at (Some low) p) ≡ reaches_at high p (run_at high p)
  unfolding run_reaches
  short_reaches zero high p h m o f e = absurd (omega (arith, e))
  short_reaches (suc low) high p h m None f e =
      ap (reaches_at (Some (suc low)) p) (longest_none (Some (suc low)) p f)
      ∙ ap (λ b. not b && one_reaches p) (some_left low ∙ sym (some_at_least low high m))
      ∙ sym (ap (reaches_at high p) (longest_none high p f))
  short_reaches (suc low) high p h m (Some q) f e =
      let w = ok.forward item p q h f in
      let count : length (run_at (Some low) q) < low = let z : length (run_at (Some (suc low)) p) ≡ suc
      (length (run_at (Some low) q)) = ap length (first_more low p q h f) in omega (arith, z, e) in
      ap (reaches_at (Some (suc low)) p) (first_more low p q h f)
      ∙ ap (λ (o : Option ℕ). one_reaches p || reaches_at o q (run_at (Some low) q)) (one_less_some low)
      ∙ ap (λ b. one_reaches p || b) (short_reaches low (one_less high) q w.1 (at_most_less low high m) (after_at q)
      refl count)
      ∙ sym (ap (reaches_at high p) (longest_some high p q h (some_at_least low high m) f))

  -- the run up to a shorter maximum
  take_cases : (low : ℕ) (high : Option ℕ) (p : ℕ) → c.stands p ≡ true → AtMost low high → (o : Option ℕ)
      → after_at p ≡ o → take low (run_at high p) ≡ run_at (Some low) p
  take_cases zero high p h m o f = sym (longest_stop (Some 0) p refl)
  take_cases (suc low) high p h m None f = ap (take (suc low)) (longest_none high p f)
      ∙ sym (longest_none (Some (suc low)) p f)
  take_cases (suc low) high p h m (Some q) f =
      let w = ok.forward item p q h f in
      ap (take (suc low)) (longest_some high p q h (some_at_least low high m) f)
      ∙ ap (λ l. q ∷ l) (take_cases low (one_less high) q w.1 (at_most_less low high m) (after_at q) refl)
      ∙ sym (first_more low p q h f)

  -- and on from there
  further_reaches : (low : ℕ) (high : Option ℕ) (p : ℕ) → c.stands p ≡ true → AtMost low high → (o : Option ℕ)
      → after_at p ≡ o → length (run_at (Some low) p) ≡ low →
      (reaches_at (Some low) p (run_at (Some low) p) || reaches_at (less low high) (end_of p (run_at (Some low) p))
      (run_at (less low high) (end_of p (run_at (Some low) p))))
      ≡ reaches_at high p (run_at high p)
  unfolding run_reaches
  further_reaches zero high p h m o f e =
      ap (λ l. reaches_at (Some 0) p l || reaches_at (less 0 high) (end_of p l) (run_at (less 0 high) (end_of p l)))
      (longest_stop (Some 0) p refl)
      ∙ ap (λ (o : Option ℕ). reaches_at o p (run_at o p)) (less_zero high)
  further_reaches (suc low) high p h m None f e =
      absurd (let z : length (run_at (Some (suc low)) p) ≡ 0 = ap length (longest_none (Some (suc low)) p f) in
      omega (arith, z, e))
  further_reaches (suc low) high p h m (Some q) f e =
      let w = ok.forward item p q h f in
      let first : run_at (Some (suc low)) p ≡ q ∷ run_at (Some low) q = first_more low p q h f in
      let count : length (run_at (Some low) q) ≡ low = let z : length (run_at (Some (suc low)) p) ≡ suc
      (length (run_at (Some low) q)) = ap length first in omega (arith, z, e) in
      let end : ℕ = end_of q (run_at (Some low) q) in
      ap (λ l. reaches_at (Some (suc low)) p l || reaches_at (less (suc low) high) (end_of p l)
      (run_at (less (suc low) high) (end_of p l))) first
      ∙ ap (λ (o : Option ℕ). (one_reaches p || reaches_at o q (run_at (Some low) q)) || reaches_at
      (less (suc low) high) end (run_at (less (suc low) high) end)) (one_less_some low)
      ∙ ap (λ (o : Option ℕ). (one_reaches p || reaches_at (Some low) q (run_at (Some low) q)) || reaches_at o end
      (run_at o end)) (sym (less_one_less low high))
      ∙ or_assoc (one_reaches p) _ _
      ∙ ap (λ b. one_reaches p || b) (further_reaches low (one_less high) q w.1 (at_most_less low high m) (after_at q)
      refl count)
      ∙ sym (ap (reaches_at high p) (longest_some high p q h (some_at_least low high m) f))

  module _ (low : ℕ) (high : Option ℕ) (p : ℕ) (h : c.stands p ≡ true) (m : AtMost low high) where
    lazy_is : reaches_at (Some low) p (run_at (Some low) p) ≡ many_reaches c item low high true p
    lazy_is = ap (reaches_at (Some low) p) (sym (take_cases low high p h m (after_at p) refl))

    pub short_led : (lazily : Bool) → length (run_at (Some low) p) < low
        → reaches_at (Some low) p (run_at (Some low) p) ≡ many_reaches c item low high lazily p
    short_led true e = lazy_is
    short_led false e = short_reaches low high p h m (after_at p) refl e

    pub lazy_led : (lazily : Bool) → lazily ≡ true → reaches_at (Some low) p (run_at (Some low) p) ≡ many_reaches c
        item low high lazily p
    lazy_led true e = lazy_is
    lazy_led false e = absurd (false≢true e)

    pub greedy_led : (lazily : Bool) → lazily ≡ false → length (run_at (Some low) p) ≡ low →
        (reaches_at (Some low) p (run_at (Some low) p) || reaches_at (less low high) (end_of p (run_at (Some low) p))
        (run_at (less low high) (end_of p (run_at (Some low) p))))
        ≡ many_reaches c item low high lazily p
    greedy_led true e n = absurd (false≢true (sym e))
    greedy_led false e n = further_reaches low high p h m (after_at p) refl n

  count_cases : (low p : ℕ) → c.stands p ≡ true → (o : Option ℕ) → after_at p ≡ o → length (run_at (Some low) p) ≤ low
  count_cases zero p h o f = let z : length (run_at (Some 0) p) ≡ 0 = ap length (longest_stop (Some 0) p refl) in
      omega (arith, z)
  count_cases (suc low) p h None f = let z : length (run_at (Some (suc low)) p) ≡ 0 =
      ap length (longest_none (Some (suc low)) p f) in omega (arith, z)
  count_cases (suc low) p h (Some q) f =
      let z : length (run_at (Some (suc low)) p) ≡ suc (length (run_at (Some low) q)) =
      ap length (first_more low p q h f) in
      let less' = count_cases low q (ok.forward item p q h f).1 (after_at q) refl in
      omega (arith, z, less')

  pub run_count : (low p : ℕ) → c.stands p ≡ true → length (run_at (Some low) p) ≤ low
  run_count low p h = count_cases low p h (after_at p) refl

  -- Places one after the other, each of which the next is one character before.

  abbrev IsAscent : ℕ → List ℕ → Type 0
  IsAscent p [] = Unit {0}
  IsAscent p (q ∷ qs) = (p < q) × (place_before c.setting.scene q ≡ p) × (c.stands q ≡ true) × IsAscent q qs

  ascent_cases : (n : ℕ) (most : Option ℕ) (p : ℕ) → c.stands p ≡ true → (left : Bool) → is_none_left most ≡ left
      → (o : Option ℕ) → after_at p ≡ o → IsAscent p (places n most p)
  ascent_cases n most p h true e o f = subst (IsAscent p) (sym (run_stop n most p e)) tt
  ascent_cases n most p h false e None f = subst (IsAscent p) (sym (run_none n most p f)) tt
  ascent_cases zero most p h false e (Some q) f = subst (IsAscent p) (sym (run_zero most p)) tt
  ascent_cases (suc n) most p h false e (Some q) f =
      let w = ok.forward item p q h f in
      subst (IsAscent p) (sym (run_some n most p q e f)) (
        w.0,
        w.2,
        w.1,
        ascent_cases n (one_less most) q w.1 (is_none_left (one_less most)) refl (after_at q) refl,
      )

  run_ascent : (most : Option ℕ) (p : ℕ) → c.stands p ≡ true → IsAscent p (run_at most p)
  run_ascent most p h = ascent_cases (length c.setting.subject) most p h (is_none_left most) refl (after_at p) refl

  ascent_end : (p : ℕ) (ps : List ℕ) → c.stands p ≡ true → IsAscent p ps
      → (c.stands (end_of p ps) ≡ true) × (p ≤ end_of p ps)
  ascent_end p [] h a = (h, omega arith)
  ascent_end p (q ∷ qs) h a = let r = ascent_end q qs a.2 a.3 in (r.0, omega (arith, r.1, a.0))

  pub run_end : (most : Option ℕ) (p : ℕ) → c.stands p ≡ true
      → (c.stands (end_of p (run_at most p)) ≡ true) × (p ≤ end_of p (run_at most p))
  run_end most p h = ascent_end p (run_at most p) h (run_ascent most p h)

  -- from the end of the places back, where `seen` are those before p back to the least
  back_onto : (least p : ℕ) (ps seen : List ℕ) → least ≤ p → IsAscent p ps
      → ((n : ℕ) → p ≤ n → back_from c n least p ≡ seen) →
      reverse (p ∷ ps) ++ seen ≡ end_of p ps ∷ fewer_places c least (end_of p ps)
  unfolding back_from
  back_onto least p [] seen ge a back = ap (λ l. p ∷ l) (sym (back p (omega arith)))
  back_onto least p (q ∷ qs) seen ge a back =
      let step : (n : ℕ) → q ≤ n → back_from c n least q ≡ p ∷ seen = back_more least p q seen ge a.0 a.1 back in
      ap (λ (l : List ℕ). l ++ seen) (reverse-append (p ∷ []) (q ∷ qs)) ∙ append_assoc (reverse (q ∷ qs)) (p ∷ []) seen
      ∙ back_onto least q qs (p ∷ seen) (omega (arith, ge, a.0)) a.3 step
    where
      back_more : (least p q : ℕ) (seen : List ℕ) → least ≤ p → p < q → place_before c.setting.scene q ≡ p
          → ((n : ℕ) → p ≤ n → back_from c n least p ≡ seen) →
          (n : ℕ) → q ≤ n → back_from c n least q ≡ p ∷ seen
      back_more least p q seen ge lt e back zero le = absurd (omega (arith, lt, le))
      back_more least p q seen ge lt e back (suc n) le =
          let less' : least < q = omega (arith, ge, lt) in
          cond-true _ _ _ (lt-ltb _ _ less')
          ∙ ap (λ x. x ∷ back_from c n least x) e
          ∙ ap (λ l. p ∷ l) (back n (omega (arith, lt, le)))

  back_none : (least n : ℕ) → back_from c n least least ≡ []
  unfolding back_from
  back_none least zero = refl
  back_none least (suc n) = cond-false _ _ _ (le-ltb least least (omega arith))

  -- the places of a run are offered from the last back to the least
  pub run_back : (most : Option ℕ) (least : ℕ) → c.stands least ≡ true →
      reverse (least ∷ run_at most least) ≡ end_of least (run_at most least) ∷ fewer_places c least
      (end_of least (run_at most least))
  run_back most least h =
      sym (append-nil (reverse (least ∷ run_at most least)))
      ∙ back_onto least least (run_at most least) [] (omega arith) (run_ascent most least h) (λ n le. back_none least n)

-- going back from a place
module _ (c : Ground) (ok : IsGround c) where
  back_fuel : (n m least p : ℕ) → c.stands p ≡ true → p ≤ n → p ≤ m → back_from c n least p ≡ back_from c m least p
  unfolding back_from
  back_fuel zero zero least p h a b = refl
  back_fuel zero (suc m) least p h a b = let le : p ≤ least = omega (arith, a) in
      sym (cond-false _ _ _ (le-ltb least p le))
  back_fuel (suc n) zero least p h a b = let le : p ≤ least = omega (arith, b) in cond-false _ _ _ (le-ltb least p le)
  back_fuel (suc n) (suc m) least p h a b =
      elim (cases_lt least p) [
        | inl lt ↦
            let w = ok.backward p h (omega (arith, lt)) in
            let q : ℕ = place_before c.setting.scene p in
            cond-true _ _ _ (lt-ltb _ _ lt)
            ∙ ap (λ l. q ∷ l) (back_fuel n m least q w.1 (omega (arith, w.0, a)) (omega (arith, w.0, b)))
            ∙ sym (cond-true _ _ _ (lt-ltb _ _ lt))
        | inr le ↦ cond-false _ _ _ (le-ltb least p le) ∙ sym (cond-false _ _ _ (le-ltb least p le))
      ]

  -- the places before one: the character before, and those before that
  pub fewer_step : (least p : ℕ) → c.stands p ≡ true → least < p →
      fewer_places c least p ≡ place_before c.setting.scene p ∷ fewer_places c least (place_before c.setting.scene p)
  unfolding back_from
  fewer_step least zero h lt = absurd (omega (arith, lt))
  fewer_step least (suc p) h lt =
      let w = ok.backward (suc p) h (omega arith) in
      let q : ℕ = place_before c.setting.scene (suc p) in
      cond-true _ _ _ (lt-ltb _ _ lt) ∙ ap (λ l. q ∷ l) (back_fuel p q least q w.1 (omega (arith, w.0)) (omega arith))

  pub fewer_none : (least p : ℕ) → p ≤ least → fewer_places c least p ≡ []
  unfolding back_from
  fewer_none least zero le = refl
  fewer_none least (suc p) le = cond-false _ _ _ (le-ltb _ _ le)
