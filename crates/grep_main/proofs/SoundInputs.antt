-- Inputs that are there with their ends, and have few match errors: none of them fails.
use Rattle.std.proofs.Common.{◌≡◌, ◌≢◌, ℕ, zero, suc, ◌+◌, ◌≤◌, Bool, true, false, ◌||◌, nat_le, nat_lt}
use Rattle.std.proofs.Common.{if◌then◌else◌, List, [], ◌∷◌, length, take, drop, map, Option, None, Some, refl, sym}
use Rattle.std.proofs.Common.{ap, subst, ◌∙◌, ◌⊎◌, ⊎_elim, inl, inr, arith, length-append}
use Rattle.std.specs.Prelude.{filter, sum_by, slice_range, All}
use Rattle.std.specs.List.{list_any}
use Rattle.std.proofs.lemmas.Bool.{cond_both, false≢true}
use Rattle.std.proofs.lemmas.List.Elements.{filter-append}
use Rattle.std.proofs.lemmas.List.Sums.{sum_by-cons}
use Rattle.byte_lanes.specs.declared.line_end.EndKind.{EndKind}
use Rattle.byte_lanes.specs.Newlines.{newline_len}
use Rattle.line_feed.specs.Rows.{Row, Rows, Input, End, Finish, At, Long, rows_within, rows_from, last_rows}
use Rattle.line_feed.specs.Rows.{none_for, ahead, has_no_row, first_newline}
use Rattle.grep_args.specs.declared.plan.GrepPlan.{GrepPlan}
use Rattle.pat_tree.specs.Pattern.{Pattern}
use Rattle.tool_io.specs.Asked.{Asked}
use Rattle.grep_core.specs.grep_match.Matches.{Tried, tried_row, is_selected, has_error}
use Rattle.grep_core.specs.grep_match.PatternTexts.{line_end}
use Rattle.grep_output.specs.declared.shows.Treatment.{Treatment}
use Rattle.grep_output.specs.declared.shows.Treatment.TheVariants.{AsText, AsBinary, Skipped}
use Rattle.grep_output.specs.declared.state.State.{State}
use Rattle.grep_output.specs.Lines.{lines, treatment}
use Rattle.grep_output.specs.Shows.{greatest_selected, trailing}
use Rattle.grep_output.specs.Scans.{Ended, at_finish, early, too_many_errors, Scan, nth_place, place_of_most}
use Rattle.grep_output.specs.Scans.{scan_to, errors_left, scan}
use Rattle.grep_output.specs.Scans as scans
use Rattle.grep_output.specs.InputText.{input_text}
use Rattle.grep_output.proofs.ScanEnds.{count, nth-none}
use Rattle.grep_main.specs.Laws.{IsWhole, errors_in}
use Rattle.grep_main.specs.PatternFiles.{shown_name}
use Rattle.grep_main.specs.Reports.{Report, scanned, is_broken, state_after_report, report_on, report_of, reports}
use Rattle.grep_main.specs.ToolText.{is_failed, has_failed}

-- The rows of bytes with an end finish there, or before a row that is too long.

abbrev IsEnd : Finish → Type 0
IsEnd finish = (finish ≡ At End) ⊎ ((n : ℕ) × (finish ≡ Long n))

last-end : (kind : EndKind) (max number offset : ℕ) (bytes : List ℕ)
    → IsEnd (last_rows kind max number offset bytes End).finish
last-end kind max number offset [] = inl refl
last-end kind max number offset (b ∷ bytes) =
    cond_both (nat_lt max (length (b ∷ bytes))) (none_for (Long number))
    (ahead (record { bytes = b ∷ bytes; newline = []; number = number; offset = offset }) (none_for (At End)))
    (λ (r : Rows). IsEnd r.finish) (λ is. inr (number, refl)) (λ is. inl refl)

rows-end : (most : ℕ) (kind : EndKind) (max number offset : ℕ) (bytes : List ℕ)
    → IsEnd (rows_within most kind max number offset bytes End).finish
unfolding rows_within
rows-end zero kind max number offset bytes = last-end kind max number offset bytes
rows-end (suc most) kind max number offset bytes =
    let k = first_newline kind bytes in
    let behind = k + newline_len kind bytes k in
    let row : Row = record {
      bytes = take k bytes;
      newline = slice_range bytes k behind;
      number = number;
      offset = offset;
    } in
    let more = rows_within most kind max (number + 1) (offset + behind) (drop behind bytes) End in
    let later = if nat_lt max k then none_for (Long number) else ahead row more in
    cond_both (has_no_row kind bytes End k) (last_rows kind max number offset bytes End) later
    (λ (r : Rows). IsEnd r.finish)
    (λ is. last-end kind max number offset bytes)
    (λ is. cond_both (nat_lt max k) (none_for (Long number)) (ahead row more) (λ (r : Rows). IsEnd r.finish)
    (λ long. inr (number, refl))
    (λ short. rows-end most kind max (number + 1) (offset + behind) (drop behind bytes)))

whole-finish : (plan : GrepPlan) (input : Input) → input.ending ≡ End → ((n : ℕ) → (lines plan input).finish ≢ Long n)
    → (lines plan input).finish ≡ At End
whole-finish plan input ends short = ⊎_elim
    (λ (at : (lines plan input).finish ≡ At End). at)
    (λ (long : (n : ℕ) × ((lines plan input).finish ≡ Long n)). absurd (short long.0 long.1))
    (subst (λ e. IsEnd (rows_from (line_end plan) plan.max_buffer_size 1 0 input.bytes e).finish) (sym ends)
    (rows-end (length input.bytes) (line_end plan) plan.max_buffer_size 1 0 input.bytes))

-- The first lines have no more match errors than all.

count-first : (t : Tried) (ts : List Tried) → count has_error (t ∷ ts) ≡ count has_error (t ∷ []) + count has_error ts
count-first t ts = ap length (filter-append has_error (t ∷ []) ts)
    ∙ length-append (filter has_error (t ∷ [])) (filter has_error ts)

count-take : (n : ℕ) (ts : List Tried) → count has_error (take n ts) ≤ count has_error ts
count-take zero ts = omega arith
count-take (suc n) [] = omega arith
count-take (suc n) (t ∷ ts) = omega (arith, count-first t (take n ts), count-first t ts, count-take n ts)

-- What a scan comes to that finishes at the end of its lines: it hasn't failed, and has so many match errors at most.

abbrev is_cut : Ended → Bool
is_cut ended = elim ended [ at_finish finish ↦ false | early ↦ false | too_many_errors ↦ true ]

abbrev IsWell : Ended → Type 0
IsWell ended = (is_failed ended ≡ false) × (is_cut ended ≡ false)

record WellScan (most : ℕ) (s : Scan) : Type 0 where
  ended : IsWell s.ended
  errors : length (scans.errors_in s) ≤ most

module _ (plan : GrepPlan) (ts : List Tried) (finish : Finish) (ends : finish ≡ At End) where
  at-end : IsWell (at_finish finish)
  at-end = (ap (λ f. is_failed (at_finish f)) ends, refl)

  well-to : (following : ℕ) (s : Option ℕ) → WellScan (count has_error ts) (scan_to ts finish following None s)
  well-to following None = record { ended = at-end; errors = omega arith }
  well-to following (Some place) = record {
    ended = cond_both (nat_le (place + 1 + following) (length ts)) early (at_finish finish) IsWell
        (λ is. (refl, refl)) (λ is. at-end);
    errors = count-take (place + 1) ts;
  }

  well-rows : (errors following : ℕ) (most : Option ℕ) → errors + count has_error ts ≤ 20
      → WellScan (count has_error ts) (scan_to ts finish following (nth_place has_error (errors_left errors) ts)
      (place_of_most (is_selected plan) most ts))
  well-rows errors following most few =
      subst (λ e. WellScan (count has_error ts)
      (scan_to ts finish following e (place_of_most (is_selected plan) most ts)))
      (sym (nth-none has_error (errors_left errors) ts (omega (arith, few))))
      (well-to following (place_of_most (is_selected plan) most ts))

module _ (plan : GrepPlan) (patterns : List Pattern) where
  abbrev errors_of : Asked → ℕ
  errors_of a = errors_in plan patterns a.input

  well-scan : (errors : ℕ) (treated : Treatment) (found : Rows) → found.finish ≡ At End
      → errors + count has_error (map (tried_row plan patterns) found.rows) ≤ 20
      → WellScan (count has_error (map (tried_row plan patterns) found.rows)) (scan plan patterns errors treated found)
  well-scan errors Skipped found ends few = record { ended = (refl, refl); errors = omega arith }
  well-scan errors AsText found ends few = well-rows plan (map (tried_row plan patterns) found.rows) found.finish ends
      errors (trailing plan AsText) (greatest_selected plan AsText) few
  well-scan errors AsBinary found ends few = well-rows plan (map (tried_row plan patterns) found.rows) found.finish
      ends errors (trailing plan AsBinary) (greatest_selected plan AsBinary) few

  -- a report of an input that hasn't failed
  record WellReport (most : ℕ) (s : State) (r : Report) : Type 0 where
    whole : is_broken r ≡ false
    sound : has_failed r ≡ false
    errors : (state_after_report s r).errors ≤ s.errors + most

  well-input : (name : List ℕ) (s : State) (input : Input) → (lines plan input).finish ≡ At End
      → s.errors + errors_in plan patterns (Some input) ≤ 20
      → WellReport (errors_in plan patterns (Some input)) s (scanned (input_text plan patterns name s input))
  unfolding input_text
  well-input name s input ends few =
      let well = well-scan s.errors (treatment plan input) (lines plan input) ends few in record {
        whole = well.ended.1;
        sound = well.ended.0;
        errors = let most = well.errors in omega arith;
      }

  well-report : (s : State) (a : Asked) → IsWhole plan a → s.errors + errors_in plan patterns a.input ≤ 20
      → WellReport (errors_in plan patterns a.input) s (report_of plan patterns s a)
  well-report s a is few =
      let of_given : Option Input → Type 0 = λ given. s.errors + errors_in plan patterns given ≤ 20
      → WellReport (errors_in plan patterns given) s (report_on plan patterns s a.target given) in
      subst of_given (sym is.there) (well-input (shown_name plan a.target) s is.input
      (whole-finish plan is.input is.ends is.short)) few

  -- none of these inputs fails
  pub all-well : (given : List Asked) (s : State) → All (IsWhole plan) given → s.errors + sum_by errors_of given ≤ 20
      → list_any has_failed (reports plan patterns given s) ≡ false
  unfolding reports
  all-well [] s is few = refl
  all-well (a ∷ given) s is few =
      let r = report_of plan patterns s a in
      let parts = sum_by-cons errors_of a given in
      let well = well-report s a (is 0 a (omega arith)) (omega (arith, few, parts)) in
      cond_both (is_broken r) (r ∷ []) (r ∷ reports plan patterns given (state_after_report s r))
      (λ l. list_any has_failed l ≡ false)
      (λ broken. absurd (false≢true (sym well.whole ∙ broken)))
      (λ other. ap (λ b. b || list_any has_failed (reports plan patterns given (state_after_report s r))) well.sound
      ∙ all-well given (state_after_report s r) (λ k d less. is (suc k) d (omega (arith, less)))
      (let most = well.errors in omega (arith, few, parts)))
