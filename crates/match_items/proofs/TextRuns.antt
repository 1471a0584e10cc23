-- The longest run of an item, one character after another.
use Rattle.std.proofs.Common.{Bool, true, false, not, ◌&&◌, ◌||◌, ◌==◌, ◌≡◌, ℕ, zero, suc, ◌+◌, ◌-◌, ◌<◌, ◌≤◌, List}
use Rattle.std.proofs.Common.{[], ◌∷◌, Option, Some, None, length, take, drop, nat_lt, refl, sym, ap, ◌∙◌, arith}
use Rattle.std.proofs.Common.{if◌then◌else◌, cond, inl, inr}
use Rattle.std.proofs.lemmas.Bool.{cases_lt}
use Rattle.std.proofs.lemmas.Bool.Decides.{nat_tests}
use Rattle.std.proofs.lemmas.Str.{len_utf8_bounds}
use Rattle.std.proofs.Math.Bool.{and-false}
use Rattle.pat_tree.specs.declared.nodes.Item.{Item}
use Rattle.pat_tree.specs.declared.nodes.Item.TheVariants.{Char, AnyAll, NotNewline, Class}
use Rattle.uni_text.specs.Characters.{char_at, char_before, first_char, last_char}
use Rattle.match_items.specs.Scene.{Scene}
use Rattle.match_items.specs.Items.{is_end, is_none_left, one_less, takes, after_item, item_reaches, run_places}
use Rattle.match_items.specs.Items.{longest_run, run_reaches, place_before}
use Rattle.match_items.specs.Views.{end_of, maximum, step_tests, run_tests, IsWalk}
use Rattle.match_items.proofs.OneItem.{if_taken, is_end-before, is_end-at, after_item-at, after_item-end}
use Rattle.match_items.proofs.OneItem.{item_reaches-no}
use Rattle.match_items.proofs.ItemRuns.{less, either_zero}
use Rattle.match_items.proofs.Longest.{early, at_the_end, left_if}

-- An item goes forward.

char_forward : (utf : Bool) (bytes : List ℕ) (p : ℕ) → p < (char_at utf bytes p).1
char_forward false bytes p = omega arith
char_forward true bytes p = let bounds = len_utf8_bounds (first_char (drop p bytes)) in omega (arith, bounds.0)

taken_of : (b : Bool) (p q : ℕ) → if_taken b p ≡ Some q → p ≡ q
taken_of true p q e = cc
taken_of false p q e = cc

pub goes_forward : (g : Scene) (item : Item) (p q : ℕ) → after_item g item p ≡ Some q → (p < q) × (p < length g.subject)
goes_forward g item p q e = elim (cases_lt p (length g.subject)) [
  | inl h ↦
      let to : (char_at g.options.utf g.subject p).1 ≡ q =
      taken_of (takes g item p (char_at g.options.utf g.subject p).0) (char_at g.options.utf g.subject p).1 q
      (sym (after_item-at g item p (char_at g.options.utf g.subject p).0 (char_at g.options.utf g.subject p).1 h
      refl) ∙ e) in
      let less : p < (char_at g.options.utf g.subject p).1 = char_forward g.options.utf g.subject p in
      (omega (arith, to, less), h)
  | inr h ↦ let none : None ≡ Some q = sym (after_item-end g item p h) ∙ e in cc
]

-- The places of a run, from one turn to the next.

abbrev turn : Bool → Option ℕ → (ℕ → List ℕ) → List ℕ
turn b o f = elim b as (λ _. List ℕ) [ true ↦ [] | false ↦ elim o as (λ _. List ℕ) [ None ↦ [] | Some q ↦ q ∷ f q ] ]

turn_same : (b : Bool) (o : Option ℕ) (f h : ℕ → List ℕ) → ((q : ℕ) → o ≡ Some q → f q ≡ h q) → turn b o f ≡ turn b o h
turn_same true o f h e = refl
turn_same false None f h e = refl
turn_same false (Some q) f h e = ap (λ qs. q ∷ qs) (e q refl)

turn_none : (b : Bool) (f : ℕ → List ℕ) → turn b None f ≡ []
turn_none true f = refl
turn_none false f = refl

module _ (g : Scene) (item : Item) where
  -- how many places are allowed for doesn't count, if they reach the end
  enough : (n m : ℕ) (most : Option ℕ) (p : ℕ) → length g.subject - p ≤ n → length g.subject - p ≤ m
      → run_places g item n most p ≡ run_places g item m most p
  unfolding run_places
  enough zero zero most p h k = refl
  enough zero (suc m) most p h k =
      sym (ap (λ o. turn (is_none_left most) o (run_places g item m (one_less most)))
      (after_item-end g item p (omega arith)) ∙ turn_none (is_none_left most)
      (run_places g item m (one_less most)))
  enough (suc n) zero most p h k =
      ap (λ o. turn (is_none_left most) o (run_places g item n (one_less most)))
      (after_item-end g item p (omega arith)) ∙ turn_none (is_none_left most)
      (run_places g item n (one_less most))
  enough (suc n) (suc m) most p h k =
      turn_same (is_none_left most) (after_item g item p) (run_places g item n (one_less most))
      (run_places g item m (one_less most))
      (λ q e. let forward = goes_forward g item p q e in
      enough n m (one_less most) q (omega (arith, forward.0, forward.1)) (omega (arith, forward.0, forward.1)))

  one_more : (n : ℕ) (most : Option ℕ) (p q : ℕ) → is_none_left most ≡ false → after_item g item p ≡ Some q
      → run_places g item (suc n) most p ≡ q ∷ run_places g item n (one_less most) q
  unfolding run_places
  one_more n most p q left e =
      ap (λ b. turn b (after_item g item p) (run_places g item n (one_less most))) left
      ∙ ap (λ o. turn false o (run_places g item n (one_less most))) e

  no_more : (n : ℕ) (most : Option ℕ) (p : ℕ) → is_none_left most ≡ true → run_places g item n most p ≡ []
  unfolding run_places
  no_more zero most p left = refl
  no_more (suc n) most p left = ap (λ b. turn b (after_item g item p) (run_places g item n (one_less most))) left

  not_one : (n : ℕ) (most : Option ℕ) (p : ℕ) → after_item g item p ≡ None → run_places g item n most p ≡ []
  unfolding run_places
  not_one zero most p e = refl
  not_one (suc n) most p e = ap (λ o. turn (is_none_left most) o (run_places g item n (one_less most))) e
      ∙ turn_none (is_none_left most) (run_places g item n (one_less most))

  longest_next : (most : Option ℕ) (p q : ℕ) → is_none_left most ≡ false → after_item g item p ≡ Some q
      → longest_run g item most p ≡ q ∷ longest_run g item (one_less most) q
  longest_next most p q left e =
      let forward = goes_forward g item p q e in
      let some : length g.subject ≡ suc (length g.subject - 1) = omega (arith, forward.1) in
      ap (λ n. run_places g item n most p) some
      ∙ one_more (length g.subject - 1) most p q left e
      ∙ ap (λ qs. q ∷ qs) (enough (length g.subject - 1) (length g.subject) (one_less most) q
      (omega (arith, forward.0)) (omega arith))

  -- Along a run: k characters from p on are taken, up to q, with so many tests of classes.

  pub record IsAlong (most : Option ℕ) (p k q tests : ℕ) : Type 0 where
    pub ordered : p ≤ q
    pub few : k ≤ q
    pub count : length (longest_run g item most p) ≡ k + length (longest_run g item (less most k) q)
    pub to : end_of p (longest_run g item most p) ≡ end_of q (longest_run g item (less most k) q)
    pub tested : run_tests g item most p (longest_run g item most p) ≡ tests + run_tests g item (less most k) q
        (longest_run g item (less most k) q)
    pub reached : run_reaches g item most p (longest_run g item most p)
        ≡ (nat_lt p q && item_reaches g item (place_before g q) || run_reaches g item (less most k) q
        (longest_run g item (less most k) q))

  less_none : (most : Option ℕ) → less most 0 ≡ most
  less_none None = refl
  less_none (Some m) = ap Some (omega arith)

  less_more : (most : Option ℕ) (k : ℕ) → one_less (less most k) ≡ less most (k + 1)
  less_more None k = refl
  less_more (Some m) k = ap Some (omega arith)

  no_less : (p : ℕ) → nat_lt p p ≡ false
  no_less p = grind (arith, nat_tests)

  pub along_start : (most : Option ℕ) (p : ℕ) → IsAlong most p 0 p 0
  along_start most p = record {
    ordered = omega arith;
    few = omega arith;
    count = let e : length (longest_run g item most p) ≡ length (longest_run g item (less most 0) p) =
        ap (λ m. length (longest_run g item m p)) (sym (less_none most)) in omega (arith, e);
    to = ap (λ m. end_of p (longest_run g item m p)) (sym (less_none most));
    tested =
        let e : run_tests g item most p (longest_run g item most p) ≡ run_tests g item (less most 0) p
        (longest_run g item (less most 0) p) =
        ap (λ m. run_tests g item m p (longest_run g item m p)) (sym (less_none most)) in
        omega (arith, e);
    reached = ap (λ m. run_reaches g item m p (longest_run g item m p)) (sym (less_none most))
        ∙ sym (ap (λ b. b && item_reaches g item (place_before g p) || run_reaches g item (less most 0) p
        (longest_run g item (less most 0) p)) (no_less p));
  }

  tests_next : (most : Option ℕ) (p q : ℕ) (qs : List ℕ)
      → run_tests g item most p (q ∷ qs) ≡ step_tests g item p + run_tests g item (one_less most) q qs
  unfolding run_tests
  tests_next most p q qs = refl

  reaches_next : (most : Option ℕ) (p q : ℕ) (qs : List ℕ)
      → run_reaches g item most p (q ∷ qs) ≡ (item_reaches g item p || run_reaches g item (one_less most) q qs)
  unfolding run_reaches
  reaches_next most p q qs = refl

  tests_none : (most : Option ℕ) (p : ℕ) → run_tests g item most p
      [] ≡ (if is_none_left most then 0 else step_tests g item p)
  unfolding run_tests
  tests_none most p = refl

  reaches_none : (most : Option ℕ) (p : ℕ) → run_reaches g item most p
      [] ≡ (not (is_none_left most) && item_reaches g item p)
  unfolding run_reaches
  reaches_none most p = refl

  -- the character before a place before the end does not reach the end
  before_less : (q : ℕ) → 0 < q → place_before g q < q
  before_less zero h = absurd (omega arith)
  before_less (suc q) h = by_kind g.options.utf
    where
      by_kind : (utf : Bool) → (char_before utf g.subject (suc q)).1 < suc q
      by_kind false = omega arith
      by_kind true = let bounds = len_utf8_bounds (last_char (take (suc q) g.subject)) in omega (arith, bounds.0)

  earlier : (p q : ℕ) → q < length g.subject → (nat_lt p q && item_reaches g item (place_before g q)) ≡ false
  earlier p q h = elim (cases_lt p q) [
    | inl some ↦
        let less = before_less q (omega arith) in
        ap (λ b. nat_lt p q && b) (early g item (place_before g q) (omega (arith, less))) ∙ and-false (nat_lt p q)
    | inr none ↦
        let no : nat_lt p q ≡ false = grind (arith, nat_tests) in
        ap (λ b. b && item_reaches g item (place_before g q)) no
  ]

  pub along_next : (most : Option ℕ) (p k q tests r : ℕ) → IsAlong most p k q tests
      → is_none_left (less most k) ≡ false → q < length g.subject →
      after_item g item q ≡ Some r → place_before g r ≡ q → IsAlong most p (k + 1) r (tests + step_tests g item q)
  along_next most p k q tests r a left inside e back =
      let forward = goes_forward g item q r e in
      let m = less most k in
      let is : longest_run g item m q ≡ r ∷ longest_run g item (one_less m) r = longest_next m q r left e in
      let longer : one_less m ≡ less most (k + 1) = less_more most k in
      let some : nat_lt p r ≡ true = let o = a.ordered in grind (arith, nat_tests) in
      let counted : length (longest_run g item m q) ≡ suc (length (longest_run g item (less most (k + 1)) r)) =
      ap length is ∙ ap (λ n. suc (length (longest_run g item n r))) longer in
      let tried : run_tests g item m q (longest_run g item m q) ≡ step_tests g item q + run_tests g item
      (less most (k + 1)) r (longest_run g item (less most (k + 1)) r) =
      ap (run_tests g item m q) is ∙ tests_next m q r (longest_run g item (one_less m) r)
      ∙ ap (λ n. step_tests g item q + run_tests g item n r (longest_run g item n r)) longer in
      record {
        ordered = let o = a.ordered in omega (arith, forward.0);
        few = let o = a.few in omega (arith, forward.0);
        count = omega (arith, a.count, counted);
        to = a.to ∙ ap (end_of q) is ∙ ap (λ n. end_of r (longest_run g item n r)) longer;
        tested = omega (arith, a.tested, tried);
        reached = a.reached
            ∙ ap (λ b. b || run_reaches g item m q (longest_run g item m q)) (earlier p q inside)
            ∙ ap (run_reaches g item m q) is ∙ reaches_next m q r (longest_run g item (one_less m) r)
            ∙ ap (λ n. item_reaches g item q || run_reaches g item n r (longest_run g item n r)) longer
            ∙ ap (λ x. item_reaches g item x || run_reaches g item (less most (k + 1)) r
            (longest_run g item (less most (k + 1)) r)) (sym back)
            ∙ ap (λ b. b && item_reaches g item (place_before g r) || run_reaches g item (less most (k + 1)) r
            (longest_run g item (less most (k + 1)) r)) (sym some);
      }

  -- the run ends there: the maximum is reached, the subject ends, or the next character isn't taken
  pub data Ends (most : Option ℕ) (q : ℕ) : Type 0 where
    full : is_none_left most ≡ true → Ends most q
    at_end : is_none_left most ≡ false → length g.subject ≤ q → Ends most q
    refused : is_none_left most ≡ false → q < length g.subject → after_item g item q ≡ None
        → item_reaches g item q ≡ false → Ends most q

  pub step_tests-end : (q : ℕ) → length g.subject ≤ q → step_tests g item q ≡ 0
  step_tests-end q h = by_item item
    where
      by_item : (i : Item) → step_tests g i q ≡ 0
      by_item (Char c caseless) = refl
      by_item AnyAll = refl
      by_item NotNewline = refl
      by_item (Class n) = ap (λ (b : Bool). if b then 0 else 1) (is_end-at g q h)

  none_after : (m : Option ℕ) (q : ℕ) → Ends m q → longest_run g item m q ≡ []
  none_after m q (full e) = no_more (length g.subject) m q e
  none_after m q (at_end left past) = not_one (length g.subject) m q (after_item-end g item q past)
  none_after m q (refused left inside none unreached) = not_one (length g.subject) m q none

  module _ (max p k q tests : ℕ) (a : IsAlong (maximum max) p k q tests) (ends : Ends (less (maximum max) k) q) where
    none_left : longest_run g item (less (maximum max) k) q ≡ []
    none_left = none_after (less (maximum max) k) q ends

    pub ends_count : k ≡ length (longest_run g item (maximum max) p)
    ends_count = let n : length (longest_run g item (less (maximum max) k) q) ≡ 0 = ap length none_left in
        omega (arith, a.count, n)

    pub ends_to : q ≡ end_of p (longest_run g item (maximum max) p)
    ends_to = sym (a.to ∙ ap (end_of q) none_left)

    last_tests : run_tests g item (less (maximum max) k) q (longest_run g item (less (maximum max) k) q)
        ≡ (if is_none_left (less (maximum max) k) then 0 else step_tests g item q)
    last_tests = ap (run_tests g item (less (maximum max) k) q) none_left ∙ tests_none (less (maximum max) k) q

    -- no test is made where the maximum is reached or the subject ends
    pub ends_tested : step_tests g item q ≡ 0 → tests ≡ run_tests g item (maximum max) p
        (longest_run g item (maximum max) p)
    ends_tested none =
        let last : run_tests g item (less (maximum max) k) q (longest_run g item (less (maximum max) k) q) ≡ 0 =
        last_tests ∙ ap (λ n. if is_none_left (less (maximum max) k) then 0 else n) none
        ∙ either_zero (is_none_left (less (maximum max) k)) in
        omega (arith, a.tested, last)

    pub full_tested : is_none_left (less (maximum max) k) ≡ true
        → tests ≡ run_tests g item (maximum max) p (longest_run g item (maximum max) p)
    full_tested e =
        let last : run_tests g item (less (maximum max) k) q (longest_run g item (less (maximum max) k) q) ≡ 0 =
        last_tests ∙ ap (λ (b : Bool). if b then 0 else step_tests g item q) e in
        omega (arith, a.tested, last)

    pub refused_tested : is_none_left (less (maximum max) k) ≡ false
        → tests + step_tests g item q ≡ run_tests g item (maximum max) p (longest_run g item (maximum max) p)
    refused_tested e =
        let last : run_tests g item (less (maximum max) k) q (longest_run g item (less (maximum max) k) q)
        ≡ step_tests g item q =
        last_tests ∙ ap (λ (b : Bool). if b then 0 else step_tests g item q) e in
        omega (arith, a.tested, last)

    reached_is : run_reaches g item (maximum max) p (longest_run g item (maximum max) p)
        ≡ (nat_lt p q && item_reaches g item (place_before g q)
        || (not (is_none_left (less (maximum max) k)) && item_reaches g item q))
    reached_is = a.reached ∙ ap (λ b. nat_lt p q && item_reaches g item (place_before g q) || b)
        (ap (run_reaches g item (less (maximum max) k) q) none_left ∙ reaches_none (less (maximum max) k) q)

    told : (fewer : Bool) → is_none_left (less (maximum max) k) ≡ not fewer →
        (is_end g q && (fewer || nat_lt p q && item_reaches g item (place_before g q)))
        ≡ (nat_lt p q && item_reaches g item (place_before g q)
        || (not (is_none_left (less (maximum max) k)) && item_reaches g item q))
    told fewer e = elim (cases_lt q (length g.subject)) [
      | inl inside ↦
          ap (λ b. b && (fewer || nat_lt p q && item_reaches g item (place_before g q))) (is_end-before g q inside)
          ∙ sym (
          ap (λ b. b || (not (is_none_left (less (maximum max) k)) && item_reaches g item q)) (earlier p q inside)
          ∙ stopped inside ends
          )
      | inr past ↦
          ap (λ b. b && (fewer || nat_lt p q && item_reaches g item (place_before g q))) (is_end-at g q past)
          ∙ turned fewer (nat_lt p q && item_reaches g item (place_before g q))
          ∙ sym (
          ap (λ b. nat_lt p q && item_reaches g item (place_before g q)
          || (not (is_none_left (less (maximum max) k)) && b)) (at_the_end g item q past)
          ∙ ap (λ b. nat_lt p q && item_reaches g item (place_before g q) || (not b && true)) e
          )
    ]
      where
        stopped : q < length g.subject → Ends (less (maximum max) k) q
            → (not (is_none_left (less (maximum max) k)) && item_reaches g item q) ≡ false
        stopped inside (full e) = ap (λ b. not b && item_reaches g item q) e
        stopped inside (at_end left past) = absurd (omega arith)
        stopped inside (refused left before none unreached) =
            ap (λ b. not (is_none_left (less (maximum max) k)) && b) unreached
            ∙ and-false (not (is_none_left (less (maximum max) k)))

        turned : (f x : Bool) → (f || x) ≡ (x || (not (not f) && true))
        turned true true = refl
        turned true false = refl
        turned false true = refl
        turned false false = refl

    pub ends_reach : length g.subject < 4294967295 → max ≤ 4294967295 → k ≤ max → q ≤ length g.subject →
        (is_end g q && (nat_lt k max || nat_lt p q && item_reaches g item (place_before g q))) ≡ run_reaches g item
        (maximum max) p (longest_run g item (maximum max) p)
    ends_reach short few most within =
        let k_few = a.few in
        told (nat_lt k max) (left_if (max == 4294967295) max k refl few (omega arith) most) ∙ sym reached_is

  -- What a loop over characters meets.

  pub some_left : (max k : ℕ) → max ≤ 4294967295 → k < 4294967295 → k < max
      → is_none_left (less (maximum max) k) ≡ false
  some_left max k few short h =
      let more : nat_lt k max ≡ true = grind (arith, nat_tests) in
      left_if (max == 4294967295) max k refl few short (omega arith) ∙ ap not more

  pub all_taken : (max k : ℕ) → max ≤ 4294967295 → k < 4294967295 → k ≡ max → is_none_left (less (maximum max) k) ≡ true
  all_taken max k few short h =
      let no_more : nat_lt k max ≡ false = grind (arith, nat_tests) in
      left_if (max == 4294967295) max k refl few short (omega arith) ∙ ap not no_more

  pub refused_at : (most : Option ℕ) (q c r : ℕ) → is_none_left most ≡ false → q < length g.subject
      → (c, r) ≡ char_at g.options.utf g.subject q → takes g item q c ≡ false → Ends most q
  refused_at most q c r left inside is e =
      refused left inside (after_item-at g item q c r inside is ∙ ap (λ b. if_taken b r) e)
      (item_reaches-no g item q c inside e)

  pub taken_at : (q c r : ℕ) → q < length g.subject → (c, r) ≡ char_at g.options.utf g.subject q
      → takes g item q c ≡ true → after_item g item q ≡ Some r
  taken_at q c r inside is e = after_item-at g item q c r inside is ∙ ap (λ b. if_taken b r) e

  pub few_tests : (q : ℕ) → step_tests g item q ≤ 1
  few_tests q = by_item item
    where
      one_at_most : (b : Bool) → (let n : ℕ = cond b 0 1 in n) ≤ 1
      one_at_most true = omega arith
      one_at_most false = omega arith

      by_item : (i : Item) → step_tests g i q ≤ 1
      by_item (Char c caseless) = omega arith
      by_item AnyAll = omega arith
      by_item NotNewline = omega arith
      by_item (Class n) = one_at_most (is_end g q)

  pub walk_of : (max p k q tests : ℕ) → IsAlong (maximum max) p k q tests → Ends (less (maximum max) k) q →
      length g.subject < 4294967295 → max ≤ 4294967295 → k ≤ max → q ≤ length g.subject
      → IsWalk g item max p (record { count = k; to = q })
  walk_of max p k q tests a ends short few most within = record {
    count = ends_count max p k q tests a ends;
    to = ends_to max p k q tests a ends;
    at_end = ends_reach max p k q tests a ends short few most within;
  }
