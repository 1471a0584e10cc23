-- The longest run of an item over bytes.
use Rattle.std.proofs.Common.{Bool, true, false, not, ◌&&◌, ◌||◌, ◌≡◌, ℕ, zero, suc, ◌+◌, ◌-◌, ◌<◌, ◌≤◌, List, []}
use Rattle.std.proofs.Common.{◌∷◌, Option, Some, None, length, refl, sym, ap, subst, ◌∙◌, arith, if◌then◌else◌, cond}
use Rattle.std.proofs.lemmas.Bool.Decides.{nat_tests}
use Rattle.pat_tree.specs.declared.nodes.Item.{Item}
use Rattle.match_items.specs.Scene.{Scene}
use Rattle.match_items.specs.Items.{is_none_left, one_less, after_item, item_reaches, run_places, run_reaches}
use Rattle.match_items.specs.Views.{end_of, step_tests, run_tests}

-- the k places after p
pub places_after : ℕ → ℕ → List ℕ
places_after p zero = []
places_after p (suc k) = (p + 1) ∷ places_after (p + 1) k

-- what is left of a maximum after k more, and that it allows k
abbrev pub less : Option ℕ → ℕ → Option ℕ
less None k = None
less (Some m) k = Some (m - k)

abbrev pub Allows : Option ℕ → ℕ → Type 0
Allows None k = Unit {0}
Allows (Some m) k = k ≤ m

pub length-places : (p k : ℕ) → length (places_after p k) ≡ k
unfolding places_after
length-places p zero = refl
length-places p (suc k) = ap suc (length-places (p + 1) k)

pub end-places : (p k : ℕ) → end_of p (places_after p k) ≡ p + k
unfolding places_after
end-places p zero = omega arith
end-places p (suc k) = end-places (p + 1) k ∙ omega arith

one_less-left : (most : Option ℕ) (k : ℕ) → Allows most (suc k) → is_none_left most ≡ false
one_less-left None k h = refl
one_less-left (Some m) k h = grind (arith, nat_tests)

one_less-allows : (most : Option ℕ) (k : ℕ) → Allows most (suc k) → Allows (one_less most) k
one_less-allows None k h = tt
one_less-allows (Some m) k h = omega arith

one_less-less : (most : Option ℕ) (k : ℕ) → less (one_less most) k ≡ less most (suc k)
one_less-less None k = refl
one_less-less (Some m) k = ap Some (omega arith)

less_zero : (most : Option ℕ) → less most 0 ≡ most
less_zero None = refl
less_zero (Some m) = ap Some (omega arith)

pub or_true : (b : Bool) → (b || true) ≡ true
or_true true = refl
or_true false = refl

pub or_false : (b : Bool) → (b || false) ≡ b
or_false true = refl
or_false false = refl

pub either_zero : (b : Bool) → (let n : ℕ = cond b 0 0 in n) ≡ 0
either_zero true = refl
either_zero false = refl

-- why a run ends after k characters: no more may be looked for, the maximum is reached, or the next one is not taken
pub data Stops (g : Scene) (item : Item) (most : Option ℕ) (n k p : ℕ) : Type 0 where
  all_seen : n ≡ k → Stops g item most n k p
  maximum_reached : is_none_left (less most k) ≡ true → Stops g item most n k p
  not_taken : after_item g item (p + k) ≡ None → Stops g item most n k p

abbrev turn : Bool → Option ℕ → (ℕ → List ℕ) → List ℕ
turn b o f = elim b as (λ _. List ℕ) [ true ↦ [] | false ↦ elim o as (λ _. List ℕ) [ None ↦ [] | Some q ↦ q ∷ f q ] ]

turn_none : (b : Bool) (f : ℕ → List ℕ) → turn b None f ≡ []
turn_none true f = refl
turn_none false f = refl

module _ (g : Scene) (item : Item) where
  next_from : (p q : ℕ) → p ≡ q → after_item g item p ≡ Some (p + 1) → after_item g item q ≡ Some (q + 1)
  next_from p q e h = let P : ℕ → Type 0 = λ n. after_item g item n ≡ Some (n + 1) in subst P e h

  none_from : (p q : ℕ) → p ≡ q → after_item g item p ≡ None → after_item g item q ≡ None
  none_from p q e h = let P : ℕ → Type 0 = λ n. after_item g item n ≡ None in subst P e h

  reach_from : (b : Bool) (p q : ℕ) → p ≡ q → item_reaches g item p ≡ b → item_reaches g item q ≡ b
  reach_from b p q e h = let P : ℕ → Type 0 = λ n. item_reaches g item n ≡ b in subst P e h

  tests_from : (p q n : ℕ) → p ≡ q → step_tests g item p ≡ n → step_tests g item q ≡ n
  tests_from p q n e h = let P : ℕ → Type 0 = λ m. step_tests g item m ≡ n in subst P e h

  pub places_are : (k n : ℕ) (most : Option ℕ) (p : ℕ) → k ≤ n → Allows most k
      → ((j : ℕ) → j < k → after_item g item (p + j) ≡ Some (p + j + 1)) → Stops g item most n k p
      → run_places g item n most p ≡ places_after p k
  unfolding run_places places_after
  places_are zero zero most p le allows each stops = refl
  places_are zero (suc n) most p le allows each (all_seen e) = absurd (omega arith)
  places_are zero (suc n) most p le allows each (maximum_reached e) =
      ap (λ b. turn b (after_item g item p) (run_places g item n (one_less most)))
      (ap is_none_left (sym (less_zero most)) ∙ e)
  places_are zero (suc n) most p le allows each (not_taken e) =
      ap (λ o. turn (is_none_left most) o (run_places g item n (one_less most))) (none_from (p + 0) p (omega arith) e)
      ∙ turn_none (is_none_left most) (run_places g item n (one_less most))
  places_are (suc k) zero most p le allows each stops = absurd (omega arith)
  places_are (suc k) (suc n) most p le allows each stops =
      ap (λ b. turn b (after_item g item p) (run_places g item n (one_less most))) (one_less-left most k allows)
      ∙ ap (λ o. turn false o (run_places g item n (one_less most)))
      (next_from (p + 0) p (omega arith) (each 0 (omega arith)))
      ∙ ap (λ qs. (p + 1) ∷ qs)
      (places_are k n (one_less most) (p + 1) (omega arith) (one_less-allows most k allows)
      (λ j h. next_from (p + suc j) (p + 1 + j) (omega arith) (each (suc j) (omega arith))) (later k n most p stops))
    where
      later : (k n : ℕ) (most : Option ℕ) (p : ℕ) → Stops g item most (suc n) (suc k) p
          → Stops g item (one_less most) n k (p + 1)
      later k n most p (all_seen e) = all_seen (omega arith)
      later k n most p (maximum_reached e) = maximum_reached (ap is_none_left (one_less-less most k) ∙ e)
      later k n most p (not_taken e) = not_taken (none_from (p + suc k) (p + 1 + k) (omega arith) e)

  -- where the tests before the last one do not reach the end
  pub reaches_last : (k : ℕ) (most : Option ℕ) (p : ℕ) → ((j : ℕ) → j < k → item_reaches g item (p + j) ≡ false)
      → run_reaches g item most p (places_after p k) ≡ (not (is_none_left (less most k)) && item_reaches g item (p + k))
  unfolding run_reaches places_after
  reaches_last zero most p each =
      ap (λ (m : Option ℕ). not (is_none_left m) && item_reaches g item p) (sym (less_zero most))
      ∙ ap (λ q. not (is_none_left (less most 0)) && item_reaches g item q) (omega arith)
  reaches_last (suc k) most p each =
      ap (λ b. b || run_reaches g item (one_less most) (p + 1) (places_after (p + 1) k))
      (reach_from false (p + 0) p (omega arith) (each 0 (omega arith)))
      ∙ reaches_last k (one_less most) (p + 1)
      (λ j h. reach_from false (p + suc j) (p + 1 + j) (omega arith) (each (suc j) (omega arith)))
      ∙ ap (λ (m : Option ℕ). not (is_none_left m) && item_reaches g item (p + 1 + k)) (one_less-less most k)
      ∙ ap (λ q. not (is_none_left (less most (suc k))) && item_reaches g item q) (omega arith)

  -- where one of them does
  pub reaches_some : (k : ℕ) (most : Option ℕ) (p j : ℕ) → j < k → item_reaches g item (p + j) ≡ true
      → run_reaches g item most p (places_after p k) ≡ true
  unfolding run_reaches places_after
  reaches_some zero most p j h e = absurd (omega arith)
  reaches_some (suc k) most p zero h e =
      ap (λ b. b || run_reaches g item (one_less most) (p + 1) (places_after (p + 1) k))
      (reach_from true (p + 0) p (omega arith) e)
  reaches_some (suc k) most p (suc j) h e =
      ap (λ b. item_reaches g item p || b) (reaches_some k (one_less most) (p + 1) j (omega arith)
      (reach_from true (p + suc j) (p + 1 + j) (omega arith) e))
      ∙ or_true (item_reaches g item p)

  -- an item that is no class tests none
  pub no_tests : (ps : List ℕ) (most : Option ℕ) (p : ℕ) → ((q : ℕ) → step_tests g item q ≡ 0)
      → run_tests g item most p ps ≡ 0
  unfolding run_tests
  no_tests [] most p none = ap (λ n. if is_none_left most then 0 else n) (none p) ∙ either_zero (is_none_left most)
  no_tests (q ∷ qs) most p none = omega (arith, none p, no_tests qs (one_less most) q none)

  -- a class tests each character of the run, and maybe one more
  pub tests_of_run : (k : ℕ) (most : Option ℕ) (p : ℕ) → ((j : ℕ) → j < k → step_tests g item (p + j) ≡ 1)
      → run_tests g item most p (places_after p k) ≡ k + (if is_none_left (less most k) then 0 else step_tests g item
      (p + k))
  unfolding run_tests places_after
  tests_of_run zero most p each =
      let first : (if is_none_left most then 0 else step_tests g item p)
      ≡ (if is_none_left (less most 0) then 0 else step_tests g item (p + 0)) =
      ap (λ (m : Option ℕ). if is_none_left m then 0 else step_tests g item p) (sym (less_zero most))
      ∙ ap (λ q. if is_none_left (less most 0) then 0 else step_tests g item q) (omega arith) in
      first ∙ omega arith
  tests_of_run (suc k) most p each =
      let one : step_tests g item p ≡ 1 = tests_from (p + 0) p 1 (omega arith) (each 0 (omega arith)) in
      let others = tests_of_run k (one_less most) (p + 1)
      (λ j h. tests_from (p + suc j) (p + 1 + j) 1 (omega arith) (each (suc j) (omega arith))) in
      let moved : (if is_none_left (less (one_less most) k) then 0 else step_tests g item (p + 1 + k))
      ≡ (if is_none_left (less most (suc k)) then 0 else step_tests g item (p + suc k)) =
      ap (λ (m : Option ℕ). if is_none_left m then 0 else step_tests g item (p + 1 + k)) (one_less-less most k)
      ∙ ap (λ q. if is_none_left (less most (suc k)) then 0 else step_tests g item q) (omega arith) in
      omega (arith, one, others, moved)
