-- The longest run of an item over bytes, up to the first one that it does not take, the end, or the maximum.
use Rattle.std.proofs.Common.{Bool, true, false, not, ◌&&◌, ◌||◌, ◌==◌, ◌≡◌, ℕ, ◌+◌, ◌-◌, ◌<◌, ◌≤◌, Some, None}
use Rattle.std.proofs.Common.{length, get_or, min, nat_lt, refl, sym, ap, subst, ◌∙◌, arith, if◌then◌else◌, inl, inr}
use Rattle.std.proofs.Math.Bool.{and-false}
use Rattle.std.proofs.lemmas.Bool.{cases_Bool, cases_lt}
use Rattle.std.proofs.lemmas.Bool.Decides.{nat_tests}
use Rattle.byte_lanes.specs.Places.{IsLeast}
use Rattle.pat_tree.specs.declared.nodes.Item.{Item}
use Rattle.pat_tree.specs.declared.nodes.Item.TheVariants.{Char, AnyAll, NotNewline, Class}
use Rattle.match_items.specs.Scene.{Scene, is_crlf}
use Rattle.match_items.specs.Items.{is_none_left, is_end, is_half_newline, takes, after_item, item_reaches}
use Rattle.match_items.specs.Items.{longest_run, place_before, run_reaches}
use Rattle.match_items.specs.Views.{end_of, maximum, step_tests, run_tests, span_tests}
use Rattle.match_items.proofs.OneItem.{is_end-before, is_end-at, after_item-before, after_item-end, item_reaches-no}
use Rattle.match_items.proofs.OneItem.{if_taken}
use Rattle.match_items.proofs.Places.{place_before-less}
use Rattle.match_items.proofs.ItemRuns.{places_after, less, Allows, Stops, maximum_reached, not_taken, places_are}
use Rattle.match_items.proofs.ItemRuns.{reaches_last, reaches_some, no_tests, tests_of_run, length-places}
use Rattle.match_items.proofs.ItemRuns.{end-places, or_true, or_false, either_zero}

-- a test that is not false
holds_if : (b : Bool) → (b ≡ false → ⊥) → b ≡ true
holds_if true h = refl
holds_if false h = absurd (h refl)

allows_if : (b : Bool) (max k : ℕ) → k ≤ max → Allows (if b then None else Some max) k
allows_if true max k h = tt
allows_if false max k h = h

pub left_if : (b : Bool) (max k : ℕ) → (max == 4294967295) ≡ b → max ≤ 4294967295 → k < 4294967295 → k ≤ max
    → is_none_left (less (if b then None else Some max) k) ≡ not (nat_lt k max)
left_if true max k e few short h =
    let below : nat_lt k max ≡ true = grind (arith, nat_tests) in
    sym (ap not below)
left_if false max k e few short h = grind (arith, nat_tests)

-- a byte before the last one reaches the end under no item
pub early : (g : Scene) (item : Item) (q : ℕ) → q + 1 < length g.subject → item_reaches g item q ≡ false
early g (Char c caseless) q h = is_end-before g q (omega arith)
early g AnyAll q h = is_end-before g q (omega arith)
early g NotNewline q h =
    let no_last : (q + 1 == length g.subject) ≡ false = grind (arith, nat_tests) in
    ap (λ b. b || is_half_newline g q) (is_end-before g q (omega arith))
    ∙ ap (λ b. is_crlf g.options.newline && (b && (get_or g.subject q 0 == 13))) no_last
    ∙ and-false (is_crlf g.options.newline)
early g (Class n) q h = is_end-before g q (omega arith)

pub at_the_end : (g : Scene) (item : Item) (q : ℕ) → length g.subject ≤ q → item_reaches g item q ≡ true
at_the_end g (Char c caseless) q h = is_end-at g q h
at_the_end g AnyAll q h = is_end-at g q h
at_the_end g NotNewline q h = ap (λ b. b || is_half_newline g q) (is_end-at g q h)
at_the_end g (Class n) q h = is_end-at g q h

-- what `run_len` finds
pub record Found (g : Scene) (item : Item) (max p limit to : ℕ) : Type 0 where
  pub bytes : g.options.utf ≡ false
  pub short : length g.subject < 4294967295
  pub place : p ≤ length g.subject
  pub few : max ≤ 4294967295
  pub bound : limit ≡ min (length g.subject) (p + max)
  pub least : IsLeast (λ k. takes g item k (get_or g.subject k 0) ≡ false) p limit to

twice_not : (b : Bool) → (not (not b) && true) ≡ b
twice_not true = refl
twice_not false = refl

module _ (g : Scene) (item : Item) (max p limit to : ℕ) (f : Found g item max p limit to) where
  low : p ≤ to
  low = f.least.low

  high : to ≤ limit
  high = f.least.high

  to_end : to ≤ length g.subject
  to_end = let h = high in omega arith

  to_most : to - p ≤ max
  to_most = let h = high in omega arith

  whole : p + (to - p) ≡ to
  whole = let h = low in omega arith

  reach_at : (b : Bool) (q r : ℕ) → q ≡ r → item_reaches g item q ≡ b → item_reaches g item r ≡ b
  reach_at b q r e h = let P : ℕ → Type 0 = λ n. item_reaches g item n ≡ b in subst P e h

  pub none_left : is_none_left (less (maximum max) (to - p)) ≡ not (nat_lt (to - p) max)
  none_left = let h = to_end in let few = f.short in left_if (max == 4294967295) max (to - p) refl f.few (omega arith)
      to_most

  -- at a limit before the end the maximum is reached
  full : limit ≤ to → limit < length g.subject → is_none_left (less (maximum max) (to - p)) ≡ true
  full at inner =
      let b = f.bound in
      let no_more : nat_lt (to - p) max ≡ false = grind (arith, nat_tests) in
      none_left ∙ ap not no_more

  not_full : to < limit → is_none_left (less (maximum max) (to - p)) ≡ false
  not_full before =
      let b = f.bound in
      let l = low in
      let more : nat_lt (to - p) max ≡ true = grind (arith, nat_tests) in
      none_left ∙ ap not more

  each_taken : (j : ℕ) → j < to - p → after_item g item (p + j) ≡ Some (p + j + 1)
  each_taken j h =
      let t = to_end in
      let taken : takes g item (p + j) (get_or g.subject (p + j) 0) ≡ true =
      holds_if _ (f.least.before (p + j) (omega arith) (omega arith)) in
      after_item-before g item (p + j) f.bytes (omega arith) ∙ ap (λ b. if_taken b (p + j + 1)) taken

  none_from : after_item g item to ≡ None → after_item g item (p + (to - p)) ≡ None
  none_from h = let P : ℕ → Type 0 = λ n. after_item g item n ≡ None in subst P (sym whole) h

  stops : Stops g item (maximum max) (length g.subject) (to - p) p
  stops = elim (cases_lt to limit) [
    | inl before ↦ (
        let b = f.bound in
        not_taken (none_from (after_item-before g item to f.bytes (omega arith)
        ∙ ap (λ t. if_taken t (to + 1)) (f.least.holds before)))
        )
    | inr at ↦ elim (cases_lt limit (length g.subject)) [
      | inl inner ↦ maximum_reached (full at inner)
      | inr ends ↦ not_taken (none_from (after_item-end g item to (omega arith)))
    ]
  ]

  pub run_is : longest_run g item (maximum max) p ≡ places_after p (to - p)
  run_is =
      let t = to_end in
      places_are g item (to - p) (length g.subject) (maximum max) p (omega arith)
      (allows_if (max == 4294967295) max (to - p) to_most) each_taken stops

  pub count_is : to - p ≡ length (longest_run g item (maximum max) p)
  count_is = sym (ap length run_is ∙ length-places p (to - p))

  pub to_is : to ≡ end_of p (longest_run g item (maximum max) p)
  to_is = sym (ap (end_of p) run_is ∙ end-places p (to - p) ∙ whole)

  -- a run that stops before the end does not reach it
  inner_no : to < length g.subject → run_reaches g item (maximum max) p (places_after p (to - p)) ≡ false
  inner_no inner =
      reaches_last g item (to - p) (maximum max) p (λ j h. early g item (p + j) (omega arith))
      ∙ elim (cases_lt to limit) [
        | inl before ↦ (
            ap (λ b. not (is_none_left (less (maximum max) (to - p))) && b)
            (reach_at false to (p + (to - p)) (sym whole)
            (item_reaches-no g item to (get_or g.subject to 0) inner (f.least.holds before)))
            ∙ and-false (not (is_none_left (less (maximum max) (to - p))))
            )
        | inr at ↦ (
            let h = high in
            ap (λ b. not b && item_reaches g item (p + (to - p))) (full at (omega arith))
            )
      ]

  -- one that stops at the end reaches it by the test there, where no earlier test does
  last_only : length g.subject ≤ to → ((j : ℕ) → j < to - p → item_reaches g item (p + j) ≡ false)
      → run_reaches g item (maximum max) p (places_after p (to - p)) ≡ nat_lt (to - p) max
  last_only ends each =
      reaches_last g item (to - p) (maximum max) p each
      ∙ ap (λ b. not (is_none_left (less (maximum max) (to - p))) && b)
      (reach_at true to (p + (to - p)) (sym whole) (at_the_end g item to ends))
      ∙ ap (λ b. not b && true) none_left
      ∙ twice_not (nat_lt (to - p) max)

  by_last : length g.subject ≤ to → (nat_lt (to - p) max || nat_lt p to && item_reaches g item (to - 1)) ≡ run_reaches
      g item (maximum max) p (places_after p (to - p))
  by_last ends = elim (cases_lt p to) [
    | inr none ↦ (
        let no : nat_lt p to ≡ false = grind (arith, nat_tests) in
        ap (λ b. nat_lt (to - p) max || b && item_reaches g item (to - 1)) no ∙ or_false (nat_lt (to - p) max)
        ∙ sym (last_only ends (λ j h. absurd (omega arith)))
        )
    | inl some ↦ (
        let yes : nat_lt p to ≡ true = grind (arith, nat_tests) in
        let before = ap (λ b. nat_lt (to - p) max || b && item_reaches g item (to - 1)) yes in
        before ∙ elim (cases_Bool (item_reaches g item (to - 1))) [
          | inl reached ↦ (
              ap (λ b. nat_lt (to - p) max || b) reached ∙ or_true (nat_lt (to - p) max)
              ∙ sym (reaches_some g item (to - p) (maximum max) p (to - 1 - p) (omega arith)
              (reach_at true (to - 1) (p + (to - 1 - p)) (omega arith) reached))
              )
          | inr missed ↦ (
              let t = to_end in
              ap (λ b. nat_lt (to - p) max || b) missed ∙ or_false (nat_lt (to - p) max)
              ∙ sym (last_only ends (λ j h. elim (cases_lt (j + 1) (to - p)) [
                | inl earlier ↦ early g item (p + j) (omega arith)
                | inr here ↦ reach_at false (to - 1) (p + j) (omega arith) missed
              ]))
              )
        ]
        )
  ]

  at_end_by_byte : (is_end g to && (nat_lt (to - p) max || nat_lt p to && item_reaches g item (to - 1))) ≡ run_reaches
      g item (maximum max) p (longest_run g item (maximum max) p)
  at_end_by_byte = elim (cases_lt to (length g.subject)) [
    | inl inner ↦ (
        ap (λ b. b && (nat_lt (to - p) max || nat_lt p to && item_reaches g item (to - 1))) (is_end-before g to inner)
        ∙ sym (ap (run_reaches g item (maximum max) p) run_is ∙ inner_no inner)
        )
    | inr ends ↦ (
        ap (λ b. b && (nat_lt (to - p) max || nat_lt p to && item_reaches g item (to - 1))) (is_end-at g to ends)
        ∙ by_last ends ∙ sym (ap (run_reaches g item (maximum max) p) run_is)
        )
  ]

  pub at_end_is : (is_end g to && (nat_lt (to - p) max || nat_lt p to && item_reaches g item (place_before g to)))
      ≡ run_reaches g item (maximum max) p (longest_run g item (maximum max) p)
  at_end_is = ap (λ q. is_end g to && (nat_lt (to - p) max || nat_lt p to && item_reaches g item q))
      (place_before-less g to f.bytes) ∙ at_end_by_byte

-- the test at a place, which is made before the end alone, and the last one, where the maximum is not reached
abbrev unless : Bool → ℕ → ℕ
unless b n = if b then 0 else n

abbrev as_one : Bool → ℕ
as_one b = if b then 1 else 0

class_tests : (g : Scene) (n max p limit to : ℕ) → Found g (Class n) max p limit to
    → (to - p) + (if nat_lt to limit then 1 else 0) ≡ run_tests g (Class n) (maximum max) p
    (longest_run g (Class n) (maximum max) p)
class_tests g n max p limit to f =
    let b = f.bound in
    let low = f.least.low in
    let high = f.least.high in
    let whole : p + (to - p) ≡ to = omega arith in
    let done = is_none_left (less (maximum max) (to - p)) in
    let run : run_tests g (Class n) (maximum max) p (longest_run g (Class n) (maximum max) p) ≡ (to - p) + unless done
    (unless (is_end g (p + (to - p))) 1) =
    ap (run_tests g (Class n) (maximum max) p) (run_is g (Class n) max p limit to f)
    ∙ tests_of_run g (Class n) (to - p) (maximum max) p
    (λ j h. ap (λ e. unless e 1) (is_end-before g (p + j) (omega arith))) in
    let last : as_one (nat_lt to limit) ≡ unless done (unless (is_end g to) 1) = elim (cases_lt to limit) [
      | inl before ↦ (
          let yes : nat_lt to limit ≡ true = grind (arith, nat_tests) in
          ap as_one yes ∙ sym (ap (λ e. unless e (unless (is_end g to) 1))
          (not_full g (Class n) max p limit to f before)
          ∙ ap (λ e. unless e 1) (is_end-before g to (omega arith)))
          )
      | inr at ↦ (
          let no : nat_lt to limit ≡ false = grind (arith, nat_tests) in
          ap as_one no ∙ sym (elim (cases_lt limit (length g.subject)) [
            | inl inner ↦ ap (λ e. unless e (unless (is_end g to) 1)) (full g (Class n) max p limit to f at inner)
            | inr ends ↦ ap (λ e. unless done (unless e 1)) (is_end-at g to (omega arith)) ∙ either_zero done
          ])
          )
    ] in
    ap (λ m. (to - p) + m) last ∙ ap (λ q. (to - p) + unless done (unless (is_end g q) 1)) (sym whole) ∙ sym run

no_class_tests : (g : Scene) (item : Item) (max p : ℕ) → ((q : ℕ) → step_tests g item q ≡ 0)
    → 0 ≡ run_tests g item (maximum max) p (longest_run g item (maximum max) p)
no_class_tests g item max p none = sym (no_tests g item (longest_run g item (maximum max) p) (maximum max) p none)

pub tests_are : (g : Scene) (item : Item) (max p limit to : ℕ) → Found g item max p limit to
    → span_tests item p to limit ≡ run_tests g item (maximum max) p (longest_run g item (maximum max) p)
tests_are g (Char c caseless) max p limit to f = no_class_tests g (Char c caseless) max p (λ q. refl)
tests_are g AnyAll max p limit to f = no_class_tests g AnyAll max p (λ q. refl)
tests_are g NotNewline max p limit to f = no_class_tests g NotNewline max p (λ q. refl)
tests_are g (Class n) max p limit to f = class_tests g n max p limit to f
