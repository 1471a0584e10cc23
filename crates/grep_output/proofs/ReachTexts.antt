-- What is written of lines that are shown, where further ones follow.
use Rattle.std.proofs.Common.{◌≡◌, ◌≢◌, ℕ, ◌+◌, ◌-◌, ◌<◌, ◌≤◌, Bool, true, false, ◌||◌, ◌&&◌, not, List, [], ◌∷◌}
use Rattle.std.proofs.Common.{◌++◌, length, map, refl, sym, ap, ◌∙◌, subst, arith, append_assoc}
use Rattle.std.specs.Prelude.{nat_lt, flat_map, codes}
use Rattle.std.specs.List.{AllByRecursion}
use Rattle.std.proofs.lemmas.Bool.{lt-ltb, or_right, and_left, and_right, not_from_true}
use Rattle.std.proofs.lemmas.List.{map-append}
use Rattle.line_feed.specs.Rows.{Row}
use Rattle.grep_args.specs.declared.plan.GrepPlan.{GrepPlan}
use Rattle.grep_output.specs.Context.{Shown, shown_row, all_shown, parts_groups}
use Rattle.tool_io.specs.Texts.{line, text_if}
use Rattle.grep_output.specs.Texts.{line_text, lines_text}
use Rattle.grep_output.specs.Course.{AreNumbered, line_as}
use Rattle.grep_output.proofs.ReachRows.{has, or_none, every-map, has-here, has-append_left, has-append_right}
use Rattle.grep_output.proofs.ReachRows.{has-append_none, numbered-range}

-- each row has the one before it among them
pub continues : (h : ℕ) (pre xs : List Row) → has h pre ≡ true → AreNumbered (h + 1) xs
    → AllByRecursion (λ (v : Row). has (v.number - 1) (pre ++ xs) ≡ true) xs
continues h pre [] there are = tt
continues h pre (x ∷ xs) there are =
    let first = are.0 in
    let earlier : x.number - 1 ≡ h = omega arith in (
      ap (λ k. has k (pre ++ x ∷ xs)) earlier ∙ has-append_left h pre (x ∷ xs) there,
      subst (λ l. AllByRecursion (λ (v : Row). has (v.number - 1) l ≡ true) xs) (append_assoc pre (x ∷ []) xs)
          (continues (h + 1) (pre ++ x ∷ []) xs (has-append_right (h + 1) pre (x ∷ []) (has-here (h + 1) x [] first))
          are.1),
    )

-- the rows shown before stay as they are
pub old_same : (sel more all xs : List Row) (m : ℕ) → ((k : ℕ) → k ≤ m → has k more ≡ has k sel)
    → AllByRecursion (λ (v : Row). m < v.number) xs
    → (us : List Row) → AllByRecursion (λ (u : Row). u.number ≤ m) us
    → map (shown_row more (all ++ xs)) us ≡ map (shown_row sel all) us
old_same sel more all xs m same above [] below = refl
old_same sel more all xs m same above (u ∷ us) below =
    let low = below.0 in
    let made : Bool → Bool → Shown = λ s b. record { row = u; is_selected = s; begins_group = not b } in
    let selected : has u.number more ≡ has u.number sel = same u.number low in
    let begins : has (u.number - 1) (all ++ xs) ≡ has (u.number - 1) all =
    has-append_none (u.number - 1) all xs
    (every-map (λ (v : Row). m < v.number) (λ (v : Row). v.number ≢ (u.number - 1)) (λ v l e. omega arith) xs above) in
    λ i. made (selected i) (begins i) ∷ old_same sel more all xs m same above us below.1 i

module _ (plan : GrepPlan) (name : List ℕ) where
  -- the line between groups
  abbrev pub parting : Bool → Bool → List ℕ
  parting later begins = text_if (later && (begins && parts_groups plan)) (line (codes "--"))

  pub lines_text-append : (later : Bool) (xs ys : List Shown)
      → lines_text plan name later (xs ++ ys) ≡ lines_text plan name later xs ++ lines_text plan name
      (later || nat_lt 0 (length xs)) ys
  lines_text-append later [] ys = ap (λ b. lines_text plan name b ys) (sym (or_none later false refl))
  lines_text-append later (x ∷ xs) ys =
      let head = parting later x.begins_group in
      let here = line_text plan name x in
      let rest = lines_text plan name true xs in
      let last = lines_text plan name true ys in
      ap (λ l. (head ++ here) ++ l) (lines_text-append true xs ys)
      ∙ sym (append_assoc (head ++ here) rest last)
      ∙ ap (λ b. ((head ++ here) ++ rest) ++ lines_text plan name b ys)
      (sym (or_right later (nat_lt 0 (length (x ∷ xs))) (lt-ltb 0 (length (x ∷ xs)) (omega arith))))

  -- a row of these rows, by whether it is selected
  abbrev pub plain_line : List Row → Row → List ℕ
  plain_line sel v = line_as plan name (has v.number sel) v

  pub no_parting : (later b : Bool) → b ≡ true → parting later (not b) ≡ []
  no_parting later b e = ap (λ c. text_if c (line (codes "--")))
      (and_right later (not b && parts_groups plan) (and_left (not b) (parts_groups plan) (not_from_true b e)))

  -- rows that each go on a group
  pub continuing : (later : Bool) (sel all xs : List Row)
      → AllByRecursion (λ (v : Row). has (v.number - 1) all ≡ true) xs
      → lines_text plan name later (map (shown_row sel all) xs) ≡ flat_map (plain_line sel) xs
  continuing later sel all [] go_on = refl
  continuing later sel all (x ∷ xs) go_on =
      ap (λ l. (l ++ plain_line sel x) ++ lines_text plan name true (map (shown_row sel all) xs))
      (no_parting later (has (x.number - 1) all) go_on.0)
      ∙ ap (λ l. plain_line sel x ++ l) (continuing true sel all xs go_on.1)

  -- rows in order after those that are shown: at most the first begins a group
  pub new_text : (later : Bool) (sel pre xs : List Row) (h : ℕ) → 0 < length xs → AreNumbered (h + 1) xs
      → lines_text plan name later (map (shown_row sel (pre ++ xs)) xs) ≡ parting later (not (has h pre)) ++ flat_map
      (plain_line sel) xs
  new_text later sel pre [] h some are = absurd (omega arith)
  new_text later sel pre (x ∷ xs) h some are =
      let first = are.0 in
      let earlier : x.number - 1 ≡ h = omega arith in
      let all = pre ++ x ∷ xs in
      let before : has (x.number - 1) all ≡ has h pre =
      ap (λ k. has k all) earlier
      ∙ has-append_none h pre (x ∷ xs)
      (every-map (λ (v : Row). (h + 1 ≤ v.number) × (v.number < h + 1 + length (x ∷ xs))) (λ (v : Row). v.number ≢ h)
      (λ v range e. omega arith) (x ∷ xs) (numbered-range (h + 1) (x ∷ xs) are)) in
      let go_on : AllByRecursion (λ (v : Row). has (v.number - 1) all ≡ true) xs =
      subst (λ l. AllByRecursion (λ (v : Row). has (v.number - 1) l ≡ true) xs) (append_assoc pre (x ∷ []) xs)
      (continues (h + 1) (pre ++ x ∷ []) xs (has-append_right (h + 1) pre (x ∷ []) (has-here (h + 1) x [] first))
      are.1) in
      let head = parting later (not (has h pre)) in
      ap (λ b. (parting later (not b) ++ plain_line sel x) ++ lines_text plan name true (map (shown_row sel all) xs))
      before
      ∙ ap (λ l. (head ++ plain_line sel x) ++ l) (continuing true sel all xs go_on)
      ∙ append_assoc head (plain_line sel x) (flat_map (plain_line sel) xs)

  -- all, where rows in order are shown after those that were shown
  pub extended : (later : Bool) (sel more shown xs : List Row) (h : ℕ) → 0 < length xs → AreNumbered (h + 1) xs
      → AllByRecursion (λ (u : Row). u.number ≤ h) shown
      → ((k : ℕ) → k ≤ h → has k more ≡ has k sel)
      → lines_text plan name later (all_shown more (shown ++ xs)) ≡ lines_text plan name later (all_shown sel shown)
      ++ (parting (later || nat_lt 0 (length (all_shown sel shown))) (not (has h shown)) ++ flat_map (plain_line more)
      xs)
  extended later sel more shown xs h some are below same =
      let above : AllByRecursion (λ (v : Row). h < v.number) xs =
      every-map (λ (v : Row). (h + 1 ≤ v.number) × (v.number < h + 1 + length xs)) (λ (v : Row). h < v.number)
      (λ v range. omega arith) xs (numbered-range (h + 1) xs are) in
      let old : map (shown_row more (shown ++ xs)) shown ≡ all_shown sel shown =
      old_same sel more shown xs h same above shown below in
      let new = map (shown_row more (shown ++ xs)) xs in
      ap (λ l. lines_text plan name later l) (map-append (shown_row more (shown ++ xs)) shown xs
      ∙ ap (λ l. l ++ new) old)
      ∙ lines_text-append later (all_shown sel shown) new
      ∙ ap (λ l. lines_text plan name later (all_shown sel shown) ++ l)
      (new_text (later || nat_lt 0 (length (all_shown sel shown))) more shown xs h some are)
