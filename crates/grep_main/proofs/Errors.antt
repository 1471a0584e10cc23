-- Match errors so far: an input that didn't end by too many of them leaves at most 20.
use Rattle.std.proofs.Common.{◌≡◌, ◌≢◌, ℕ, zero, suc, ◌+◌, ◌-◌, ◌<◌, ◌≤◌, ◌==◌, Bool, true, false, List, [], ◌∷◌}
use Rattle.std.proofs.Common.{length, take, map, Option, None, Some, refl, sym, ap, subst, ◌∙◌, ⊎_elim, arith}
use Rattle.std.proofs.Common.{length-append}
use Rattle.std.specs.Prelude.{⊤, filter, option_map, nat_lt}
use Rattle.std.proofs.lemmas.Bool.{cases_Bool, cond_both, eqb-false, false≢true, ltb-false}
use Rattle.std.proofs.lemmas.List.{take_all}
use Rattle.std.proofs.lemmas.List.Elements.{filter-append}
use Rattle.line_feed.specs.Rows.{Rows, Finish, Input}
use Rattle.grep_args.specs.declared.plan.GrepPlan.{GrepPlan}
use Rattle.pat_tree.specs.Pattern.{Pattern}
use Rattle.grep_output.specs.declared.shows.Treatment.{Treatment}
use Rattle.grep_output.specs.declared.shows.Treatment.TheVariants.{AsText, AsBinary, Skipped}
use Rattle.grep_output.specs.declared.state.State.{State}
use Rattle.grep_output.specs.Lines.{lines, treatment}
use Rattle.grep_output.specs.Shows.{greatest_selected, trailing}
use Rattle.grep_core.specs.grep_match.Matches.{Tried, tried_row, is_selected, has_error}
use Rattle.grep_output.specs.Scans.{Ended, at_finish, early, too_many_errors, Scan, nth_place, place_of_most}
use Rattle.grep_output.specs.Scans.{early_scan, broken_scan, scan_to, errors_left, errors_in, scan}
use Rattle.grep_output.specs.InputText.{input_text}
use Rattle.grep_main.specs.Reports.{scanned, is_broken}
use Rattle.grep_output.proofs.ScanEnds.{IsPast, count, count-one, count-none}
use Rattle.grep_output.proofs.Reached.{unselected-error}

-- whether a test holds of the line at a place
abbrev holds_at : (Tried → Bool) → List Tried → ℕ → Bool
holds_at holds [] k = false
holds_at holds (t ∷ ts) zero = holds t
holds_at holds (t ∷ ts) (suc k) = holds_at holds ts k

module _ (holds : Tried → Bool) where
  abbrev by_one : ℕ → List Tried → Bool → Option ℕ
  by_one n ts b = elim b [ true ↦ Some 0 | false ↦ option_map suc (nth_place holds (n - 1) ts) ]

  abbrev by_test : ℕ → List Tried → Bool → Option ℕ
  by_test n ts b = elim b [ true ↦ by_one n ts (n == 1) | false ↦ option_map suc (nth_place holds n ts) ]

  step : (n : ℕ) (t : Tried) (ts : List Tried) → nth_place holds n (t ∷ ts) ≡ by_test n ts (holds t)
  unfolding nth_place
  step n t ts = refl

  step-nil : (n : ℕ) → nth_place holds n [] ≡ None
  unfolding nth_place
  step-nil n = refl

  -- a property of the place of the n-th one, by the first line
  by-first : (P : Option ℕ → Type 0) (n : ℕ) (t : Tried) (ts : List Tried)
      → (holds t ≡ true → P (Some 0)) → (holds t ≡ true → n ≢ 1 → P (option_map suc (nth_place holds (n - 1) ts)))
      → (holds t ≡ false → P (option_map suc (nth_place holds n ts)))
      → P (nth_place holds n (t ∷ ts))
  by-first P n t ts first skip pass = subst P (sym (step n t ts)) (⊎_elim
      (λ (e : holds t ≡ true). subst (λ b. P (by_test n ts b)) (sym e) (⊎_elim
      (λ (f : (n == 1) ≡ true). subst (λ b. P (by_one n ts b)) (sym f) (first e))
      (λ (f : (n == 1) ≡ false). subst (λ b. P (by_one n ts b)) (sym f) (skip e (eqb-false n 1 f)))
      (cases_Bool (n == 1))))
      (λ (e : holds t ≡ false). subst (λ b. P (by_test n ts b)) (sym e) (pass e))
      (cases_Bool (holds t)))

  -- the test holds at that place
  abbrev HoldsAt : List Tried → Option ℕ → Type 0
  HoldsAt ts None = ⊤
  HoldsAt ts (Some k) = holds_at holds ts k ≡ true

  holds-later : (t : Tried) (ts : List Tried) (o : Option ℕ) → HoldsAt ts o → HoldsAt (t ∷ ts) (option_map suc o)
  holds-later t ts None h = tt
  holds-later t ts (Some k) h = h

  holds-place : (n : ℕ) (ts : List Tried) → HoldsAt ts (nth_place holds n ts)
  holds-place n [] = subst (HoldsAt []) (sym (step-nil n)) tt
  holds-place n (t ∷ ts) =
      by-first (HoldsAt (t ∷ ts)) n t ts
      (λ e. e)
      (λ e more. holds-later t ts (nth_place holds (n - 1) ts) (holds-place (n - 1) ts))
      (λ e. holds-later t ts (nth_place holds n ts) (holds-place n ts))

  holds-most : (most : Option ℕ) (ts : List Tried) → HoldsAt ts (place_of_most holds most ts)
  holds-most None ts = tt
  holds-most (Some n) ts = holds-place n ts

  count-first : (t : Tried) (ts : List Tried) → count holds (t ∷ ts) ≡ count holds (t ∷ []) + count holds ts
  count-first t ts = ap length (filter-append holds (t ∷ []) ts)
      ∙ length-append (filter holds (t ∷ [])) (filter holds ts)

  past-earlier : (m : ℕ) (o : Option ℕ) → IsPast (suc m) (option_map suc o) → IsPast m o
  past-earlier m None past = tt
  past-earlier m (Some k) past = omega arith

  -- before that place there are fewer than n
  few-before : (n m : ℕ) (ts : List Tried) → 1 ≤ n → IsPast m (nth_place holds n ts) → count holds (take m ts) < n
  few-before n zero ts some past = omega arith
  few-before n (suc m) [] some past = omega arith
  few-before n (suc m) (t ∷ ts) some past = by-first (λ o. IsPast (suc m) o → count holds (t ∷ take m ts) < n) n t ts
      (λ e past. absurd (let h : suc m ≤ 0 = past in omega arith))
      (λ e more past.
      let one = count-one holds t e in
      let few : count holds (take m ts) < n - 1 = few-before (n - 1) m ts (omega arith)
      (past-earlier m (nth_place holds (n - 1) ts) past) in
      omega (arith, count-first t (take m ts), one, few))
      (λ e past.
      let none = count-none holds t e in
      let few : count holds (take m ts) < n = few-before n m ts some (past-earlier m (nth_place holds n ts) past) in
      omega (arith, count-first t (take m ts), none, few))
      past

-- no line with a match error is selected
apart : (plan : GrepPlan) (ts : List Tried) (k : ℕ) → holds_at has_error ts k ≡ true
    → holds_at (is_selected plan) ts k ≡ true → ⊥
apart plan [] k e s = absurd (false≢true e)
apart plan (t ∷ ts) zero e s = absurd (false≢true (sym (unselected-error plan t e) ∙ s))
apart plan (t ∷ ts) (suc k) e s = apart plan ts k e s

-- after so many match errors the scan leaves at most 20, unless they were too many
abbrev is_cut : Ended → Bool
is_cut ended = elim ended [ at_finish finish ↦ false | early ↦ false | too_many_errors ↦ true ]

abbrev IsFew : ℕ → Scan → Type 0
IsFew errors s = is_cut s.ended ≡ false → errors + length (errors_in s) ≤ 20

few-to : (plan : GrepPlan) (errors : ℕ) (ts : List Tried) (finish : Finish) (following : ℕ) (e s : Option ℕ)
    → errors ≤ 20 → ((m : ℕ) → IsPast m e → count has_error (take m ts) < errors_left errors)
    → HoldsAt has_error ts e → HoldsAt (is_selected plan) ts s → IsFew errors (scan_to ts finish following e s)
few-to plan errors ts finish following None None some before at_e at_s whole =
    let few : count has_error ts < errors_left errors =
    subst (λ l. count has_error l < errors_left errors) (take_all (length ts) ts (omega arith))
    (before (length ts) tt) in
    omega arith
few-to plan errors ts finish following (Some e) None some before at_e at_s whole = absurd (false≢true (sym whole))
few-to plan errors ts finish following None (Some s) some before at_e at_s whole = let few = before (s + 1) tt in
    omega arith
few-to plan errors ts finish following (Some e) (Some s) some before at_e at_s whole =
    cond_both (nat_lt e s) (broken_scan ts e) (early_scan ts finish s following) (IsFew errors)
    (λ is whole. absurd (false≢true (sym whole)))
    (λ is whole.
    let other : s ≢ e = λ same. apart plan ts e at_e (subst (λ k. holds_at (is_selected plan) ts k ≡ true) same at_s) in
    let far : s ≤ e = ltb-false e s is in
    let few = before (s + 1) (omega arith) in
    omega arith)
    whole

few-rows : (plan : GrepPlan) (errors : ℕ) (ts : List Tried) (finish : Finish) (following : ℕ) (most : Option ℕ)
    → errors ≤ 20
    → IsFew errors (scan_to ts finish following (nth_place has_error (errors_left errors) ts)
    (place_of_most (is_selected plan) most ts))
few-rows plan errors ts finish following most some =
    few-to plan errors ts finish following (nth_place has_error (errors_left errors) ts)
    (place_of_most (is_selected plan) most ts) some
    (λ m past. few-before has_error (errors_left errors) m ts (omega arith) past)
    (holds-place has_error (errors_left errors) ts)
    (holds-most (is_selected plan) most ts)

few-scan : (plan : GrepPlan) (patterns : List Pattern) (errors : ℕ) (treated : Treatment) (found : Rows) → errors ≤ 20
    → IsFew errors (scan plan patterns errors treated found)
few-scan plan patterns errors Skipped found some whole = omega arith
few-scan plan patterns errors AsText found some whole =
    few-rows plan errors (map (tried_row plan patterns) found.rows) found.finish (trailing plan AsText)
    (greatest_selected plan AsText) some whole
few-scan plan patterns errors AsBinary found some whole =
    few-rows plan errors (map (tried_row plan patterns) found.rows) found.finish (trailing plan AsBinary)
    (greatest_selected plan AsBinary) some whole

-- the match errors that an input leaves
pub few-errors : (plan : GrepPlan) (patterns : List Pattern) (name : List ℕ) (before : State) (input : Input)
    → before.errors ≤ 20
    → is_broken (scanned (input_text plan patterns name before input)) ≡ false
    → (input_text plan patterns name before input).state.errors ≤ 20
unfolding input_text
few-errors plan patterns name before input some whole =
    few-scan plan patterns before.errors (treatment plan input) (lines plan input) some whole
