-- The places of a subject that stand: at each a character begins, or the subject ends.
use Rattle.std.proofs.Common.{◌≡◌, ◌∙◌, ℕ, zero, suc, ◌<◌, ◌≤◌, Bool, true, ◌&&◌, not, List, [], ◌∷◌, drop, length}
use Rattle.std.proofs.Common.{nat_le, nat_lt, Some, None, refl, sym, ap, subst, inl, inr, arith}
use Rattle.std.specs.Prelude.{slice_get, slice_index}
use Rattle.std.proofs.lemmas.Bool.{cases_Bool, cases_lt, and_parts, le-leb, leb-true}
use Rattle.std.proofs.lemmas.Bool.Decides.{nat_tests}
use Rattle.std.proofs.lemmas.List.{get_or_past}
use Rattle.pat_tree.specs.declared.options.Options.{Options}
use Rattle.match_items.specs.Scene.{Scene}
use Rattle.match_items.specs.Subjects.{IsTextPlace}
use Rattle.match_items.specs.Items.{place_before, places_back}
use Rattle.node_flow.specs.Followers.{first_of}
use Rattle.frame_state.specs.Behind.{place_back}

-- a byte that stands inside a character of UTF-8 (RFC 3629, section 3)
abbrev pub is_inside : ℕ → Bool
is_inside byte = nat_le 128 byte && nat_lt byte 192

-- p is a place of the subject, in UTF or outside it
abbrev pub stands_in : Bool → List ℕ → ℕ → Bool
stands_in utf subject p = nat_le p (length subject) && not (utf && is_inside (slice_index subject p))

module _ (options : Options) (subject : List ℕ) (p : ℕ) where
  pub place_of : stands_in options.utf subject p ≡ true → IsTextPlace options subject p
  place_of e =
      let parts = and_parts (nat_le p (length subject)) _ e in
      let within = leb-true p (length subject) parts.0 in
      record {
        within = within;
        between = λ utf. (within, λ inside high. outside utf parts.1 high);
      }
    where
      outside : options.utf ≡ true → not (options.utf && is_inside (slice_index subject p)) ≡ true
          → 128 ≤ slice_index subject p → 192 ≤ slice_index subject p
      outside utf e high = let out = rw utf at e in grind (arith, nat_tests)

  pub standing_of : IsTextPlace options subject p → stands_in options.utf subject p ≡ true
  standing_of at =
      ap (λ b. b && not (options.utf && is_inside (slice_index subject p))) (le-leb p (length subject) at.within)
      ∙ (elim (cases_Bool options.utf) [
        | inl utf ↦ ap (λ b. not (b && is_inside (slice_index subject p))) utf ∙ outside (at.between utf).1
        | inr bytes ↦ ap (λ b. not (b && is_inside (slice_index subject p))) bytes
      ])
    where
      outside : (p < length subject → 128 ≤ slice_index subject p → 192 ≤ slice_index subject p)
          → not (is_inside (slice_index subject p)) ≡ true
      outside starts = elim (cases_lt p (length subject)) [
        | inl inside ↦ let start = starts inside in grind (arith, nat_tests)
        | inr past ↦ let none : slice_index subject p ≡ 0 = get_or_past subject p 0 past in grind (arith, nat_tests)
      ]

-- Places before another.

-- what holds of the places before a place holds of the one so many characters before
module _ (g : Scene) (Stands : ℕ → Type 0) (backward : (p : ℕ) → Stands p → 0 < p → Stands (place_before g p)) where
  none_some : (q : ℕ) → None ≡ Some q → ⊥
  none_some q e = cc

  some_same : (p q : ℕ) → Some p ≡ Some q → p ≡ q
  some_same p q e = cc

  drop_one : (n p : ℕ) → first_of (drop n []) ≡ None
  drop_one zero p = refl
  drop_one (suc n) p = refl

  pub back_stands : (n p q : ℕ) → Stands p → place_back g n p ≡ Some q → Stands q
  unfolding places_back
  back_stands zero p q here e = subst Stands (some_same p q e) here
  back_stands (suc n) zero q here e = absurd (none_some q (sym (drop_one n 0) ∙ e))
  back_stands (suc n) (suc p) q here e = back_stands n (place_before g (suc p)) q
      (backward (suc p) here (omega arith)) e

first_dropped : (xs : List ℕ) (n : ℕ) → slice_get xs n ≡ first_of (drop n xs)
first_dropped [] zero = refl
first_dropped [] (suc n) = refl
first_dropped (x ∷ xs) zero = refl
first_dropped (x ∷ xs) (suc n) = first_dropped xs n

-- two scenes over one subject in the same options have the same places before a place
module _ (g h : Scene) (options : g.options ≡ h.options) (subject : g.subject ≡ h.subject) where
  before : (p : ℕ) → place_before g p ≡ place_before h p
  before p =
      ap (λ (o : Options). place_before (record g { options = o }) p) options
      ∙ ap (λ (s : List ℕ). place_before (record g { options = h.options; subject = s }) p) subject

  pub places_same : (n p : ℕ) → places_back g n p ≡ places_back h n p
  unfolding places_back
  places_same zero p = refl
  places_same (suc n) zero = refl
  places_same (suc n) (suc p) = ap (λ q. suc p ∷ places_back g n q) (before (suc p))
      ∙ ap (λ (ps : List ℕ). suc p ∷ ps) (places_same n (place_before h (suc p)))

  pub back_same : (n p : ℕ) → slice_get (places_back g n p) n ≡ place_back h n p
  back_same n p = ap (λ (ps : List ℕ). slice_get ps n) (places_same n p) ∙ first_dropped (places_back h n p) n
