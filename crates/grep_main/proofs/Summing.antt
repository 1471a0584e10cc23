-- The inputs of a run, one after another, and what they come to.
use Rattle.std.proofs.Common.{◌≡◌, ◌≢◌, refl, sym, ap, subst, ◌∙◌, arith, ℕ, ◌+◌, ◌≤◌, ◌<◌, ◌^◌, Bool, true, false}
use Rattle.std.proofs.Common.{◌||◌, ◌&&◌, not, cond, if◌then◌else◌, nat_lt, List, [], ◌∷◌, ◌++◌, length, take, drop}
use Rattle.std.proofs.Common.{get_or, flat_map, Option, None, Some, Result, Ok, Err, append_assoc, append-nil}
use Rattle.std.proofs.Common.{length-append, codes, decimal, ◌*◌}
use Rattle.std.specs.Prelude.{filter}
use Rattle.std.specs.List.{list_any}
use Rattle.std.proofs.lemmas.Bool.{false≢true}
use Rattle.std.proofs.lemmas.List.{take-append-drop, take_more}
use Rattle.std.proofs.lemmas.List.Concat.{flat_map-append}
use Rattle.std.proofs.lemmas.List.Elements.{filter-append}
use Rattle.std.proofs.lemmas.List.Folds.{list_any-append}
use Rattle.std.proofs.lemmas.List.Sums.{sum_by_push}
use Rattle.pcre_io.specs.Told.{Told, Kept}
use Rattle.pcre_io.specs.Files.{Contents}
use Rattle.pcre_io.specs.declared.traits.IoError.{IoError}
use Rattle.pcre_io.specs.declared.traits.IoError.TheVariants as io
use Rattle.line_feed.specs.Rows.{Input}
use Rattle.grep_args.specs.declared.plan.GrepPlan.{GrepPlan}
use Rattle.grep_output.specs.declared.ended.Ended.{Ended}
use Rattle.grep_output.specs.declared.ended.Ended.TheVariants as told
use Rattle.grep_output.specs.declared.ended.FileEnd.{FileEnd}
use Rattle.grep_output.specs.declared.ended.Stop.{Stop}
use Rattle.grep_output.specs.declared.ended.Stop.TheVariants.{SinkFault, TooManyErrors, Memory}
use Rattle.grep_core.specs.grep_match.declared.modes.Mode.TheVariants.{Counts}
use Rattle.grep_output.specs.declared.shows.Treatment.{Treatment}
use Rattle.grep_output.specs.declared.shows.Treatment.TheVariants.{AsText, AsBinary, Skipped}
use Rattle.grep_output.specs.declared.state.State.{State}
use Rattle.tool_io.specs.declared.target.Target.{Target}
use Rattle.tool_io.specs.Absent.{AbsentBy}
use Rattle.tool_io.specs.Asked.{Asked, asked, is_standard}
use Rattle.grep_main.specs.PatternFiles.{shown_name, is_given}
use Rattle.pat_tree.specs.Pattern.{Pattern}
use Rattle.grep_output.specs.Ends.{ended_of, stop_of}
use Rattle.grep_output.specs.InputText.{Written, input_text, first_state, out_text, shown_out, end_out}
use Rattle.grep_output.specs.Lines.{lines, treatment}
use Rattle.grep_core.specs.grep_match.Modes.{mode, is_with, is_matching}
use Rattle.grep_output.specs.Shows.{is_told, show_in, tells_binary}
use Rattle.grep_output.specs.Scans as meant
use Rattle.grep_output.specs.Scans.{Scan, at_finish, early, too_many_errors, scan, selected_in}
use Rattle.tool_io.specs.Texts.{line, text_if}
use Rattle.grep_main.specs.Reports.{Report, scanned, missing, is_broken, state_after_report, report_of, reports}
use Rattle.grep_main.specs.ToolText.{is_failed, has_failed, selected_by, total_of, status_of, out_of, err_of, writes}
use Rattle.grep_main.specs.ToolText.{count_lines, total_after, last_text, outcome_of}
use Rattle.tool_io.specs.Prints.{Wrote, Breaks}
use Rattle.tool_io.specs.Writes.{Writes}
use Rattle.tool_io.proofs.Writing.{prefix-front}
use Rattle.tool_io.proofs.Printing.{wrote-none, wrote-more, wrote-breaks, wrote-out}
use Rattle.grep_core.proofs.FileTexts.{breaks-out}
use Rattle.grep_main.proofs.Errors.{few-errors}
use Rattle.grep_main.specs.declared.sum.Sum.{Sum}
use Rattle.tool_io.specs.Takes.{Takes, TakesAll}
use Rattle.grep_main.specs.Searches.{ReportsTo, ReportsTargetFrom}
use Rattle.grep_main.specs.RunsBy.{RunsBy}
use Rattle.grep_main.specs.Sums.{SumIs, SumsTo, adds_end, one_if, writes_count}
use Rattle.tool_io.proofs.Taking.{takes-none, takes-more, takes-end, takes-rest}
use Rattle.tool_io.proofs.Absence.{absent-none, absent-join, absent-then, rest-there}
use Rattle.grep_main.specs.Leaves.{Either, LeavesIt, LeavesAll, LeavesTarget, TiesBy, Unless, Uses}
use Rattle.std.proofs.KnownBytes.{Consumes-nil}
use Rattle.tool_io.specs.Printed.{printed}

or_none : (b : Bool) → (b || false) ≡ b
or_none true = refl
or_none false = refl

or_all : (b : Bool) → (b || true) ≡ true
or_all true = refl
or_all false = refl

or_second : (a b : Bool) → (a || b) ≡ false → b ≡ false
or_second true b e = absurd (false≢true (sym e))
or_second false b e = e

plus_zero : (n : ℕ) → n ≡ n + 0
plus_zero n = omega arith

-- Reports, and one more.

any-more : (p : Report → Bool) (rs : List Report) (r : Report) → list_any p (rs ++ r ∷ []) ≡ (list_any p rs || p r)
any-more p rs r = list_any-append p rs (r ∷ []) ∙ ap (λ b. list_any p rs || b) (or_none (p r))

text-more : (text : Report → List ℕ) (rs : List Report) (r : Report)
    → flat_map text (rs ++ r ∷ []) ≡ flat_map text rs ++ text r
text-more text rs r = flat_map-append text rs (r ∷ []) ∙ ap (λ l. flat_map text rs ++ l) (append-nil (text r))

count-more : (rs : List Report) (r : Report) → count_lines (rs ++ r ∷ []) ≡ count_lines rs + one_if (writes r)
count-more rs r = ap length (filter-append writes rs (r ∷ []))
    ∙ length-append (filter writes rs) (filter writes (r ∷ [])) ∙ ap (λ n. count_lines rs + n) (by_test (writes r))
  where
    by_test : (b : Bool) → length (cond b (r ∷ []) []) ≡ one_if b
    by_test true = refl
    by_test false = refl

-- what reports leave to the next input
abbrev pub states_after : List Report → State → State
states_after [] s = s
states_after (r ∷ rs) s = states_after rs (state_after_report s r)

states-more : (rs : List Report) (r : Report) (s : State)
    → states_after (rs ++ r ∷ []) s ≡ state_after_report (states_after rs s) r
states-more [] r s = refl
states-more (x ∷ rs) r s = states-more rs r (state_after_report s x)

module _ (plan : GrepPlan) (patterns : List Pattern) where
  -- a report, and those after it
  abbrev follow : Bool → Report → List Asked → State → List Report
  follow broken r given s = if broken then r ∷ [] else r ∷ reports plan patterns given (state_after_report s r)

  reports-first : (a : Asked) (given : List Asked) (s : State)
      → reports plan patterns (a ∷ given) s ≡ follow (is_broken (report_of plan patterns s a))
      (report_of plan patterns s a) given s
  unfolding reports
  reports-first a given s = refl

  reports-none : (s : State) → reports plan patterns [] s ≡ []
  unfolding reports
  reports-none s = refl

  -- a match error ends the run
  reports-broken : (a : Asked) (given : List Asked) (s : State) → is_broken (report_of plan patterns s a) ≡ true
      → reports plan patterns (a ∷ given) s ≡ report_of plan patterns s a ∷ []
  reports-broken a given s is = reports-first a given s ∙ ap (λ b. follow b (report_of plan patterns s a) given s) is

  reports-some : (a : Asked) (given : List Asked) (s : State)
      → (more : List Report) × (reports plan patterns (a ∷ given) s ≡ report_of plan patterns s a ∷ more)
  reports-some a given s = let some = by_test (is_broken (report_of plan patterns s a)) in
      (some.0, reports-first a given s ∙ some.1)
    where
      by_test : (b : Bool) → (more : List Report)
          × (follow b (report_of plan patterns s a) given s ≡ report_of plan patterns s a ∷ more)
      by_test true = ([], refl)
      by_test false = (reports plan patterns given (state_after_report s (report_of plan patterns s a)), refl)

  -- the inputs after others, none of which ended the run
  Goes : List Asked → List Asked → State → Type 0
  Goes given more s =
      list_any is_broken (reports plan patterns given s) ≡ false
      → reports plan patterns (given ++ more) s ≡ reports plan patterns given s ++ reports plan patterns more
      (states_after (reports plan patterns given s) s)

  goes-first : (r : Report) (given more : List Asked) (s : State) (b : Bool) → is_broken r ≡ b
      → Goes given more (state_after_report s r) → list_any is_broken (follow b r given s) ≡ false
      → follow b r (given ++ more) s ≡ follow b r given s ++ reports plan patterns more
      (states_after (follow b r given s) s)
  unfolding Goes
  goes-first r given more s true is goes whole = absurd (false≢true (sym whole ∙ ap (λ b. b || false) is))
  goes-first r given more s false is goes whole = ap (λ l. r ∷ l) (goes (or_second (is_broken r) _ whole))

  reports-more : (given more : List Asked) (s : State) → Goes given more s
  unfolding Goes reports
  reports-more [] more s whole = refl
  reports-more (a ∷ given) more s whole =
      let r = report_of plan patterns s a in
      goes-first r given more s (is_broken r) refl (reports-more given more (state_after_report s r)) whole

  -- A whole run.
  abbrev pub all : List Asked → List Report
  all given = reports plan patterns given first_state

  all-more : (given more : List Asked) (s : State) → list_any is_broken (all given) ≡ false
      → s ≡ states_after (all given) first_state → all (given ++ more) ≡ all given ++ reports plan patterns more s
  unfolding Goes
  all-more given more s whole is = reports-more given more first_state whole
      ∙ ap (λ x. all given ++ reports plan patterns more x) (sym is)

  all-one : (given : List Asked) (a : Asked) (s : State) → list_any is_broken (all given) ≡ false
      → s ≡ states_after (all given) first_state → all (given ++ a ∷ []) ≡ all given ++ report_of plan patterns s
      a ∷ []
  all-one given a s whole is = all-more given (a ∷ []) s whole is
      ∙ ap (λ l. all given ++ l) (reports-first a [] s ∙ by_test (is_broken (report_of plan patterns s a)))
    where
      by_test : (b : Bool) → follow b (report_of plan patterns s a) [] s ≡ report_of plan patterns s a ∷ []
      by_test true = refl
      by_test false = ap (λ l. report_of plan patterns s a ∷ l)
          (reports-none (state_after_report s (report_of plan patterns s a)))

-- Where counts are written, the text of an input isn't empty exactly where its count is written.
module _ (plan : GrepPlan) (patterns : List Pattern) (name : List ℕ) where
  given-if : (b : Bool) (text : List ℕ) → is_given (text_if b (line text)) ≡ b
  given-if true [] = refl
  given-if true (x ∷ text) = refl
  given-if false text = refl

  counts-untold : (treated : Treatment) → tells_binary treated Counts ≡ false
  counts-untold AsText = refl
  counts-untold AsBinary = refl
  counts-untold Skipped = refl

  out-whole : (told_so has_shown : Bool) (found : Scan) (ended : Ended)
      → out_text plan name told_so has_shown found (ended_of ended) ≡ shown_out plan name
      (show_in told_so (mode plan)) has_shown found ++ end_out plan name (mode plan) told_so
      (length (selected_in plan found))
  out-whole told_so has_shown found told.End = refl
  out-whole told_so has_shown found told.Early = refl
  out-whole told_so has_shown found told.ReadFault = refl
  out-whole told_so has_shown found (told.TooLong line) = refl
  out-whole told_so has_shown found told.TooMuch = refl

  out-counted : (treated : Treatment) (has_shown : Bool) (found : Scan) (ended : Ended) → mode plan ≡ Counts
      → is_given (out_text plan name (is_told plan treated) has_shown found (ended_of ended)) ≡ writes_count plan
      (length (selected_in plan found))
  out-counted treated has_shown found ended m =
      let n = length (selected_in plan found) in
      let untold : is_told plan treated ≡ false = ap (tells_binary treated) m ∙ counts-untold treated in
      ap is_given
      (out-whole (is_told plan treated) has_shown found ended
      ∙ (λ i. shown_out plan name (show_in (untold i) (m i)) has_shown found ++ end_out plan name (m i) (untold i) n))
      ∙ given-if (writes_count plan n) (text_if (is_with plan.names || is_matching plan.names) (name ++ codes ":")
      ++ decimal n)

  input-counted : (s : State) (input : Input) (ended : Ended) → mode plan ≡ Counts
      → (input_text plan patterns name s input).ended ≡ ended_of ended
      → is_given (input_text plan patterns name s input).out ≡ writes_count plan
      (input_text plan patterns name s input).selected
  unfolding input_text
  input-counted s input ended m is =
      let treated = treatment plan input in
      let found = scan plan patterns s.errors treated (lines plan input) in
      ap (λ x. is_given (out_text plan name (is_told plan treated) s.has_shown found x)) is
      ∙ out-counted treated s.has_shown found ended m

  input-total : (s : State) (input : Input)
      → (input_text plan patterns name s input).state.total ≡ s.total
      + (input_text plan patterns name s input).selected
  unfolding input_text
  input-total s input = refl

-- What is told of one input.

abbrev pub told_of : Option FileEnd → ℕ
told_of None = 0
told_of (Some end) = end.selected

abbrev ended_broken : meant.Ended → Bool
ended_broken ended = elim ended [ at_finish finish ↦ false | early ↦ false | too_many_errors ↦ true ]

ended-whole : (ended : Ended) → ended_broken (ended_of ended) ≡ false
ended-whole told.End = refl
ended-whole told.Early = refl
ended-whole told.ReadFault = refl
ended-whole (told.TooLong line) = refl
ended-whole told.TooMuch = refl

module _ (plan : GrepPlan) where
  abbrev TellsScan : Written → FileEnd → Type 0
  TellsScan w end = (end.selected ≡ w.selected) × (w.ended ≡ ended_of end.ended)
      × (mode plan ≡ Counts → is_given w.out ≡ writes_count plan w.selected)

  abbrev Tells : Report → Option FileEnd → Type 0
  Tells (scanned w) (Some end) = TellsScan w end
  Tells (scanned w) None = ⊥
  Tells (missing text) (Some end) = ⊥
  Tells (missing text) None = Unit {0}

  scan-whole : (w : Written) (end : FileEnd) → w.ended ≡ ended_of end.ended → is_broken (scanned w) ≡ false
  scan-whole w end is = ap ended_broken is ∙ ended-whole end.ended

  sum-more : (rs : List Report) (r : Report) (sum : Sum) (end : Option FileEnd) → SumIs plan rs sum → Tells r end
      → SumIs plan (rs ++ r ∷ []) (adds_end plan sum end)
  sum-more rs (scanned w) sum (Some end) is tells = record {
    whole = any-more is_broken rs (scanned w) ∙ (λ i. is.whole i || scan-whole w end tells.1 i);
    failed = (λ i. is.failed i || is_failed (sym tells.1 i)) ∙ sym (any-more has_failed rs (scanned w));
    counts = λ m. ((λ i. is.counts m i + one_if ((ap (writes_count plan) tells.0 ∙ sym (tells.2 m)) i))
        ∙ sym (count-more rs (scanned w)));
    total = (λ i. is.total i + tells.0 i) ∙ sym (sum_by_push selected_by rs (scanned w));
  }
  sum-more rs (scanned w) sum None is tells = absurd tells
  sum-more rs (missing text) sum (Some end) is tells = absurd tells
  sum-more rs (missing text) sum None is tells = record {
    whole = any-more is_broken rs (missing text) ∙ (λ i. is.whole i || false);
    failed = sym (any-more has_failed rs (missing text) ∙ or_all (list_any has_failed rs));
    counts = λ m. (is.counts m ∙ plus_zero (count_lines rs) ∙ sym (count-more rs (missing text)));
    total = is.total ∙ plus_zero (total_of rs) ∙ sym (sum_by_push selected_by rs (missing text));
  }

  total-more : (sum : Sum) (end : Option FileEnd) → (adds_end plan sum end).total ≡ sum.total + told_of end
  total-more sum None = plus_zero sum.total
  total-more sum (Some end) = refl

  pub counts-bound : (sum sum_new : Sum) (end : Option FileEnd) (n : ℕ) → sum_new ≡ adds_end plan sum end
      → sum.counts ≤ n → sum_new.counts ≤ n + 1
  counts-bound sum sum_new end n is few = subst (λ (x : Sum). x.counts ≤ n + 1) (sym is) (by_end end)
    where
      by_test : (b : Bool) → sum.counts + one_if b ≤ n + 1
      by_test true = omega arith
      by_test false = omega arith

      by_end : (end : Option FileEnd) → (adds_end plan sum end).counts ≤ n + 1
      by_end None = omega arith
      by_end (Some end) = by_test (writes_count plan end.selected)

  pub total-bound : (sum sum_new : Sum) (end : Option FileEnd) (n : ℕ) → sum_new ≡ adds_end plan sum end
      → sum.total ≤ n * 2 ^ 64 → told_of end < 2 ^ 64 → sum_new.total ≤ (n + 1) * 2 ^ 64
  total-bound sum sum_new end n is few small = let more = ap (λ (x : Sum). x.total) is ∙ total-more sum end in
      omega (arith, more, few, small)

-- One more target was searched.
module _ (plan : GrepPlan) (patterns : List Pattern) (s s_new : State) (target : Target)
    (out out_new err err_new : Kept) where
  abbrev report : Option Input → Report
  report given = report_of plan patterns s (asked target given)

  -- it didn't end the run
  record Comes (r : Report) (end : Option FileEnd) : Type 0 where
    pub wrote : Wrote (out_of r) (err_of r) (printed out err) (printed out_new err_new)
    pub tells : Tells plan r end
    pub state : s_new ≡ state_after_report s r
    pub total : s_new.total ≡ s.total + told_of end
    pub errors : s.errors ≤ 20 → s_new.errors ≤ 20

  comes : (given : Option Input) (end : Option FileEnd)
      → ReportsTo (report given) s s_new (printed out err) (printed out_new err_new) (Ok end)
      → Comes (report given) end
  comes None None h = record {
    wrote = h.0;
    tells = tt;
    state = h.1;
    total = ap (λ (x : State). x.total) h.1 ∙ plus_zero s.total;
    errors = λ few. subst (λ (x : State). x.errors ≤ 20) (sym h.1) few;
  }
  comes None (Some end) h = absurd h
  comes (Some input) None h = absurd h
  comes (Some input) (Some end) h =
      let name = shown_name plan target in
      let w = input_text plan patterns name s input in record {
        wrote = h.wrote;
        tells = (h.selected, h.ended, λ m. input-counted plan patterns name s input end.ended m h.ended);
        state = h.state;
        total = ap (λ (x : State). x.total) h.state ∙ input-total plan patterns name s input
            ∙ ap (λ n. s.total + n) (sym h.selected);
        errors = λ few. subst (λ (x : State). x.errors ≤ 20) (sym h.state)
            (few-errors plan patterns name s input few (scan-whole plan w end h.ended));
      }

  -- it had too many match errors
  comes-last : (given : Option Input) → ReportsTo (report given) s s_new (printed out err) (printed out_new err_new)
      (Err TooManyErrors) → Wrote (out_of (report given)) (err_of (report given)) (printed out err)
      (printed out_new err_new) × (is_broken (report given) ≡ true)
  comes-last None h = absurd h
  comes-last (Some input) h = (h.0, ap ended_broken h.1)

  -- a part of it was written
  comes-part : (given : Option Input) (stop : Stop) → stop ≢ TooManyErrors
      → ReportsTo (report given) s s_new (printed out err) (printed out_new err_new) (Err stop)
      → Breaks (out_of (report given)) (err_of (report given)) (printed out err) (printed out_new err_new)
      (stop ≡ SinkFault)
  comes-part given TooManyErrors other h = absurd (other refl)
  comes-part None SinkFault other h = h
  comes-part None Memory other h = h
  comes-part (Some input) SinkFault other h = h
  comes-part (Some input) Memory other h = h

-- a part of a text is a part of a longer one
breaks-longer : {out_old out_new err_old err_new : Kept} (a b c d : List ℕ) (stop : Stop)
    → Breaks a b (printed out_old err_old) (printed out_new err_new) (stop ≡ SinkFault)
    → Breaks (a ++ c) (b ++ d) (printed out_old err_old) (printed out_new err_new) (stop ≡ SinkFault)
breaks-longer {out_old} {out_new} {err_old} {err_new} a b c d stop h = record {
  out = prefix-front out_old.held out_new.held a c h.out;
  err = prefix-front err_old.held err_new.held b d h.err;
  cause = h.cause;
  steady = h.steady;
}

-- What is left of standard input.

-- nothing was read of it
leaves-none : (t : Told) (r : Report) → LeavesIt t t r
leaves-none t (scanned w) = λ _. ([], Consumes-nil t.left, omega arith)
leaves-none t (missing text) = tt

either-of : (b : Bool) (p q : Type 0) → p → q → Either b p q
either-of true p q x y = x
either-of false p q x y = y

either-true : (b : Bool) (p q : Type 0) → b ≡ true → p → Either b p q
either-true true p q is x = x
either-true false p q is x = absurd (false≢true is)

either-false : (b : Bool) (p q : Type 0) → b ≡ false → q → Either b p q
either-false true p q is x = absurd (false≢true (sym is))
either-false false p q is x = x

-- a scan that too many match errors broke off didn't end early
ended-late : (ended : meant.Ended) → ended_broken ended ≡ true → ended ≢ early
ended-late ended is so = absurd (false≢true (sym (ap ended_broken so) ∙ is))

leaves-broken : (before after : Told) (r : Report) → is_broken r ≡ true → LeavesIt before after r
leaves-broken before after (scanned w) is = λ so. absurd (ended-late w.ended is so)
leaves-broken before after (missing text) is = tt

module _ (plan : GrepPlan) (patterns : List Pattern) where
  pub leaves-unread : (t : Told) (given : List Asked) (s : State) → LeavesAll t t plan patterns given s
  leaves-unread t [] s = tt
  leaves-unread t (a ∷ given) s =
      let r = report_of plan patterns s a in
      either-of (is_standard a.target) (LeavesIt t t r) (LeavesAll t t plan patterns given (state_after_report s r))
      (leaves-none t r) (leaves-unread t given (state_after_report s r))

  abbrev ended_with : Option FileEnd → Result (Option FileEnd) Stop
  ended_with end = Ok end

  -- after these inputs, and whatever inputs are to come
  abbrev pub Leaving : Bool → Bool → Told → Told → List Asked → State → Type 0
  Leaving true is_used before now given s = Unit {0}
  Leaving false false before now given s =
      (now ≡ before) × ((after : Told) (more : List Asked) → LeavesAll before after plan patterns more s → LeavesAll
      before after plan patterns (given ++ more) first_state)
  Leaving false true before now given s = (more : List Asked)
      → LeavesAll before now plan patterns (given ++ more) first_state

  leaving-none : (was_used : Bool) (t : Told) (s : State) → s ≡ first_state → Leaving was_used was_used t t [] s
  leaving-none true t s is = tt
  leaving-none false t s is = (refl, λ after more h. subst (LeavesAll t after plan patterns more) is h)

  leaving-end : (was_used is_used : Bool) (before now : Told) (given : List Asked) (s : State)
      → Leaving was_used is_used before now given s
      → Unless was_used (LeavesAll before now plan patterns given first_state)
  leaving-end true is_used before now given s had = tt
  leaving-end false false before now given s had = subst (λ t. LeavesAll before t plan patterns given first_state)
      (sym had.0) (leaves-unread before given first_state)
  leaving-end false true before now given s had = subst (λ l. LeavesAll before now plan patterns l first_state)
      (append-nil given) (had [])

  -- one more target
  module _ (before mid after : Told) (contents : Option Contents) (given : List Asked) (a : Asked) (s : State) where
    abbrev here : Report
    here = report_of plan patterns s a

    -- standard input was used before
    leaving-used : (is_used : Bool) → Leaving false true before mid given s
        → Takes true is_used mid after contents (a.target ∷ []) (a ∷ []) → (more : List Asked)
        → LeavesAll before after plan patterns ((given ++ a ∷ []) ++ more) first_state
    leaving-used is_used had takes more =
        subst (λ l. LeavesAll before after plan patterns l first_state) (sym (append_assoc given (a ∷ []) more))
        (subst (λ t. LeavesAll before t plan patterns (given ++ a ∷ more) first_state) (sym takes.1) (had (a ∷ more)))

    -- it is standard input
    leaving-here : is_standard a.target ≡ true → Leaving false false before mid given s → LeavesIt before after here
        → (more : List Asked) → LeavesAll before after plan patterns ((given ++ a ∷ []) ++ more) first_state
    leaving-here is had leaves more =
        subst (λ l. LeavesAll before after plan patterns l first_state) (sym (append_assoc given (a ∷ []) more))
        (had.1 after (a ∷ more) (either-true (is_standard a.target) (LeavesIt before after here)
        (LeavesAll before after plan patterns more (state_after_report s here)) is leaves))

    -- it is another one
    leaving-past : is_standard a.target ≡ false → Leaving false false before mid given s
        → (later : Told) (more : List Asked) → LeavesAll before later plan patterns more (state_after_report s here)
        → LeavesAll before later plan patterns ((given ++ a ∷ []) ++ more) first_state
    leaving-past is had later more h =
        subst (λ l. LeavesAll before later plan patterns l first_state) (sym (append_assoc given (a ∷ []) more))
        (had.1 later (a ∷ more) (either-false (is_standard a.target) (LeavesIt before later here)
        (LeavesAll before later plan patterns more (state_after_report s here)) is h))

    leaving-more : (was_used mid_used is_used : Bool) (s_new : State) (end : Option FileEnd)
        → Leaving was_used mid_used before mid given s → Takes mid_used is_used mid after contents (a.target ∷ [])
        (a ∷ [])
        → Uses (is_standard a.target) mid_used is_used mid after → s_new ≡ state_after_report s here
        → LeavesTarget mid_used (is_standard a.target) mid after here (ended_with end)
        → Leaving was_used is_used before after (given ++ a ∷ []) s_new
    leaving-more true mid_used is_used s_new end had takes uses next leaves = tt
    leaving-more false true true s_new end had takes uses next leaves = leaving-used true had takes
    leaving-more false true false s_new end had takes uses next leaves = absurd (false≢true takes.0)
    leaving-more false false is_used s_new end had takes uses next leaves =
        by_test (is_standard a.target) refl uses leaves
      where
        by_test : (b : Bool) → is_standard a.target ≡ b → Uses b false is_used mid after
            → LeavesTarget false b mid after here (ended_with end)
            → Leaving false is_used before after (given ++ a ∷ []) s_new
        by_test true is uses leaves =
            subst (λ b. Leaving false b before after (given ++ a ∷ []) s_new) (sym uses)
            (leaving-here is had (subst (λ t. LeavesIt t after here) had.0 leaves))
        by_test false is uses leaves =
            subst (λ b. Leaving false b before after (given ++ a ∷ []) s_new) (sym uses.0) (
              uses.1 ∙ had.0,
              λ later more h. leaving-past is had later more
                  (subst (LeavesAll before later plan patterns more) next h),
            )

    -- it had too many match errors
    leaving-stop : (was_used mid_used is_used : Bool) → Leaving was_used mid_used before mid given s
        → Takes mid_used is_used mid after contents (a.target ∷ []) (a ∷ [])
        → Uses (is_standard a.target) mid_used is_used mid after
        → is_broken here ≡ true → (more : List Asked)
        → Unless was_used (LeavesAll before after plan patterns ((given ++ a ∷ []) ++ more) first_state)
    leaving-stop true mid_used is_used had takes uses broken more = tt
    leaving-stop false true is_used had takes uses broken more = leaving-used is_used had takes more
    leaving-stop false false is_used had takes uses broken more = by_test (is_standard a.target) refl uses
      where
        by_test : (b : Bool) → is_standard a.target ≡ b → Uses b false is_used mid after
            → LeavesAll before after plan patterns ((given ++ a ∷ []) ++ more) first_state
        by_test true is uses = leaving-here is had (leaves-broken before after here broken) more
        by_test false is uses = subst (λ t. LeavesAll before t plan patterns ((given ++ a ∷ []) ++ more) first_state)
            (sym (uses.1 ∙ had.0)) (leaves-unread before ((given ++ a ∷ []) ++ more) first_state)

    -- a write was refused
    leaving-cut : (was_used mid_used is_used : Bool) → Leaving was_used mid_used before mid given s
        → Takes mid_used is_used mid after contents (a.target ∷ []) (a ∷ [])
        → Uses (is_standard a.target) mid_used is_used mid after
        → LeavesTarget {T = Option FileEnd} mid_used (is_standard a.target) mid after here (Err SinkFault)
        → (more : List Asked)
        → Unless was_used (LeavesAll before after plan patterns ((given ++ a ∷ []) ++ more) first_state)
    leaving-cut true mid_used is_used had takes uses leaves more = tt
    leaving-cut false true is_used had takes uses leaves more = leaving-used is_used had takes more
    leaving-cut false false is_used had takes uses leaves more = by_test (is_standard a.target) refl uses leaves
      where
        by_test : (b : Bool) → is_standard a.target ≡ b → Uses b false is_used mid after
            → LeavesTarget {T = Option FileEnd} false b mid after here (Err SinkFault)
            → LeavesAll before after plan patterns ((given ++ a ∷ []) ++ more) first_state
        by_test true is uses leaves = leaving-here is had (subst (λ t. LeavesIt t after here) had.0 leaves) more
        by_test false is uses leaves =
            subst (λ t. LeavesAll before t plan patterns ((given ++ a ∷ []) ++ more) first_state)
            (sym (uses.1 ∙ had.0)) (leaves-unread before ((given ++ a ∷ []) ++ more) first_state)

-- The first targets of a run.
module _ (plan : GrepPlan) (patterns : List Pattern) (contents : Option Contents) (first : ℕ) (was_used : Bool)
    (before : Told) (out_old err_old : Kept) where
  -- they were searched
  pub record Searched (list : List Target) (last : ℕ) (is_used : Bool) (now : Told) (s : State) (sum : Sum)
      (out err : Kept) : Type 0 where
    pub given : List Asked
    pub takes : Takes was_used is_used before now contents list given
    pub wrote : Wrote (flat_map out_of (all plan patterns given)) (flat_map err_of (all plan patterns given))
        (printed out_old err_old) (printed out err)
    pub sums : SumIs plan (all plan patterns given) sum
    pub state : s ≡ states_after (all plan patterns given) first_state
    pub errors : s.errors ≤ 20
    pub total : s.total ≡ sum.total
    pub absent : AbsentBy contents first last given
    pub leaves : Leaving plan patterns was_used is_used before now given s

  pub searched-none : (s : State) → s ≡ first_state → Searched [] first was_used before s
      (record { has_failed = false; counts = 0; total = 0 }) out_old err_old
  unfolding reports
  searched-none s is = record {
    given = [];
    takes = takes-none was_used before contents;
    wrote = wrote-none (printed out_old err_old);
    sums = record { whole = refl; failed = refl; counts = λ _. refl; total = refl };
    state = is;
    errors = let none = ap (λ (x : State). x.errors) is in omega (arith, none);
    total = ap (λ (x : State). x.total) is;
    absent = absent-none contents first first;
    leaves = leaving-none plan patterns was_used before s is;
  }

  -- what the targets come to where nothing is searched after these
  abbrev pub Ends : List Target → ℕ → Told → Kept → Kept → Result Sum Stop → Type 0
  Ends list last after out err result =
      (given : List Asked) × TakesAll was_used before after contents list given
      × SumsTo plan (all plan patterns given) (printed out_old err_old) (printed out err) result
      × TiesBy contents first last given result
      (Unless was_used (LeavesAll before after plan patterns given first_state))

  pub searched-all : (list : List Target) (last : ℕ) (is_used : Bool) (after : Told) (s : State) (sum : Sum)
      (out err : Kept) → Searched list last is_used after s sum out err → Ends list last after out err (Ok sum)
  searched-all list last is_used after s sum out err had = (
    had.given,
    takes-end was_used is_used before after contents list had.given had.takes,
    (had.wrote, had.sums),
    record {
      absent = had.absent;
      leaves = leaving-end plan patterns was_used is_used before after had.given s had.leaves;
    },
  )

  module _ (list : List Target) (target : Target) (mid_faults last : ℕ) (earlier : first ≤ mid_faults)
      (later : mid_faults ≤ last) (mid_used is_used : Bool) (mid after : Told) (s s_new : State) (sum : Sum)
      (out out_new err err_new : Kept)
      (had : Searched list mid_faults mid_used mid s sum out err) where
    abbrev so_far : List Report
    so_far = all plan patterns had.given

    -- one more target
    module _ (end : Option FileEnd) (came : ReportsTargetFrom plan patterns target contents mid_faults last mid_used
        is_used mid after s s_new (printed out err) (printed out_new err_new) (Ok end)) where
      abbrev a : Asked
      a = asked target came.given

      abbrev r : Report
      r = report_of plan patterns s a

      abbrev one : Comes plan patterns s s_new target out out_new err err_new r end
      one = comes plan patterns s s_new target out out_new err err_new came.given end came.reports

      all_is : all plan patterns (had.given ++ a ∷ []) ≡ so_far ++ r ∷ []
      all_is = all-one plan patterns had.given a s had.sums.whole had.state

      wrote_all : Wrote (flat_map out_of (so_far ++ r ∷ [])) (flat_map err_of (so_far ++ r ∷ []))
          (printed out_old err_old) (printed out_new err_new)
      wrote_all =
          subst (λ l. Wrote l (flat_map err_of (so_far ++ r ∷ [])) (printed out_old err_old)
          (printed out_new err_new)) (sym (text-more out_of so_far r))
          (subst (λ l. Wrote (flat_map out_of so_far ++ out_of r) l (printed out_old err_old)
          (printed out_new err_new)) (sym (text-more err_of so_far r))
          (wrote-more (flat_map out_of so_far) (flat_map err_of so_far) (out_of r) (err_of r) had.wrote one.wrote))

      searched-more : Searched (list ++ target ∷ []) last is_used after s_new (adds_end plan sum end) out_new err_new
      searched-more = record {
        given = had.given ++ a ∷ [];
        takes = takes-more was_used mid_used is_used before mid after contents list (target ∷ []) had.given (a ∷ [])
            had.takes came.takes;
        wrote = subst (λ l. Wrote (flat_map out_of l) (flat_map err_of l) (printed out_old err_old)
            (printed out_new err_new)) (sym all_is) wrote_all;
        sums = subst (λ l. SumIs plan l (adds_end plan sum end)) (sym all_is)
            (sum-more plan so_far r sum end had.sums one.tells);
        state = one.state ∙ ap (λ x. state_after_report x r) had.state ∙ sym (states-more so_far r first_state)
            ∙ ap (λ l. states_after l first_state) (sym all_is);
        errors = one.errors had.errors;
        total = one.total ∙ ap (λ n. n + told_of end) had.total ∙ sym (total-more plan sum end);
        absent = absent-then contents first mid_faults last had.given (a ∷ []) earlier later had.absent came.absent;
        leaves = leaving-more plan patterns before mid after contents had.given a s was_used mid_used is_used s_new
            end had.leaves came.takes came.uses one.state came.leaves;
      }

      pub searched-next : (next : List Target) (sum_new : Sum) → next ≡ list ++ target ∷ []
          → sum_new ≡ adds_end plan sum end → Searched next last is_used after s_new sum_new out_new err_new
      searched-next next sum_new next_is sum_is =
          subst (λ x. Searched next last is_used after s_new x out_new err_new) (sym sum_is)
          (subst (λ l. Searched l last is_used after s_new (adds_end plan sum end) out_new err_new) (sym next_is)
          searched-more)

    -- the run stops at this target
    module _ (rest : List Target) (stop : Stop)
        (came : ReportsTargetFrom plan patterns target contents mid_faults last mid_used is_used mid after s s_new
        (printed out err) (printed out_new err_new) (Err stop)) where
      abbrev b : Asked
      b = asked target came.given

      abbrev q : Report
      q = report_of plan patterns s b

      stop_here : TakesAll was_used before after contents (list ++ target ∷ []) (had.given ++ b ∷ [])
      stop_here =
          takes-end was_used is_used before after contents (list ++ target ∷ []) (had.given ++ b ∷ [])
          (takes-more was_used mid_used is_used before mid after contents list (target ∷ []) had.given (b ∷ [])
          had.takes came.takes)

      stop_takes : (more : List Asked) × TakesAll was_used before after contents ((list ++ target ∷ []) ++ rest)
          ((had.given ++ b ∷ []) ++ more) × AbsentBy contents first last ((had.given ++ b ∷ []) ++ more)
      stop_takes =
          let taken = takes-rest was_used before after contents (list ++ target ∷ []) rest (had.given ++ b ∷ [])
          stop_here in (
            taken.0,
            taken.1,
            absent-join contents first last (had.given ++ b ∷ []) taken.0
                (absent-then contents first mid_faults last had.given (b ∷ []) earlier later had.absent came.absent)
                (rest-there contents first last was_used before after (list ++ target ∷ []) rest (had.given ++ b ∷ [])
                stop_here),
          )

      stop_leaves : stop ≡ TooManyErrors → (more : List Asked)
          → Unless was_used (LeavesAll before after plan patterns ((had.given ++ b ∷ []) ++ more) first_state)
      stop_leaves is more =
          let broken = comes-last plan patterns s s_new target out out_new err err_new came.given
          (subst (λ x. ReportsTo q s s_new (printed out err) (printed out_new err_new) (Err x)) is came.reports)
          in
          leaving-stop plan patterns before mid after contents had.given b s was_used mid_used is_used had.leaves
          came.takes came.uses broken.1 more

      cut_leaves : stop ≡ SinkFault → (more : List Asked)
          → Unless was_used (LeavesAll before after plan patterns ((had.given ++ b ∷ []) ++ more) first_state)
      cut_leaves is more =
          leaving-cut plan patterns before mid after contents had.given b s was_used mid_used is_used had.leaves
          came.takes came.uses
          (subst (λ x. LeavesTarget {T = Option FileEnd} mid_used (is_standard target) mid after q (Err x)) is
          came.leaves) more

      all_stop : (more : List Asked) → all plan patterns ((had.given ++ b ∷ []) ++ more) ≡ so_far ++ reports plan
          patterns (b ∷ more) s
      all_stop more = ap (all plan patterns) (append_assoc had.given (b ∷ []) more)
          ∙ all-more plan patterns had.given (b ∷ more) s had.sums.whole had.state

      stop_last : stop ≡ TooManyErrors → (more : List Asked)
          → SumsTo plan (all plan patterns ((had.given ++ b ∷ []) ++ more)) (printed out_old err_old)
          (printed out_new err_new) (Err TooManyErrors)
      stop_last is more =
          let last = comes-last plan patterns s s_new target out out_new err err_new came.given
          (subst (λ x. ReportsTo q s s_new (printed out err) (printed out_new err_new) (Err x)) is came.reports)
          in
          let all_is = all_stop more ∙ ap (λ l. so_far ++ l) (reports-broken plan patterns b more s last.1) in
          subst (λ l. SumsTo plan l (printed out_old err_old) (printed out_new err_new) (Err TooManyErrors))
          (sym all_is) (
            subst (λ l. Wrote l (flat_map err_of (so_far ++ q ∷ [])) (printed out_old err_old)
                (printed out_new err_new)) (sym (text-more out_of so_far q))
                (subst (λ l. Wrote (flat_map out_of so_far ++ out_of q) l (printed out_old err_old)
                (printed out_new err_new)) (sym (text-more err_of so_far q))
                (wrote-more (flat_map out_of so_far) (flat_map err_of so_far) (out_of q) (err_of q) had.wrote last.0)),
            any-more is_broken so_far q ∙ ap (λ x. list_any is_broken so_far || x) last.1
                ∙ or_all (list_any is_broken so_far),
          )

      stop_part : stop ≢ TooManyErrors → (more : List Asked)
          → Breaks (flat_map out_of (all plan patterns ((had.given ++ b ∷ []) ++ more)))
          (flat_map err_of (all plan patterns ((had.given ++ b ∷ []) ++ more))) (printed out_old err_old)
          (printed out_new err_new) (stop ≡ SinkFault)
      stop_part other more =
          let part = comes-part plan patterns s s_new target out out_new err err_new came.given stop other
          came.reports in
          let some = reports-some plan patterns b more s in
          let all_is : all plan patterns ((had.given ++ b ∷ []) ++ more) ≡ so_far ++ (q ∷ some.0) = all_stop more
          ∙ ap (λ l. so_far ++ l) some.1 in
          let whole = wrote-breaks (flat_map out_of so_far) (flat_map err_of so_far)
          (out_of q ++ flat_map out_of some.0) (err_of q ++ flat_map err_of some.0) had.wrote (stop ≡ SinkFault)
          (breaks-longer (out_of q) (err_of q) (flat_map out_of some.0) (flat_map err_of some.0) stop part) in
          subst (λ l. Breaks (flat_map out_of l) (flat_map err_of l) (printed out_old err_old)
          (printed out_new err_new) (stop ≡ SinkFault)) (sym all_is)
          (subst (λ l. Breaks l (flat_map err_of (so_far ++ q ∷ some.0)) (printed out_old err_old)
          (printed out_new err_new) (stop ≡ SinkFault)) (sym (flat_map-append out_of so_far (q ∷ some.0)))
          (subst (λ l. Breaks (flat_map out_of so_far ++ flat_map out_of (q ∷ some.0)) l (printed out_old err_old)
          (printed out_new err_new) (stop ≡ SinkFault)) (sym (flat_map-append err_of so_far (q ∷ some.0)))
          whole))

    stops-so : (rest : List Target) (stop : Stop)
        (came : ReportsTargetFrom plan patterns target contents mid_faults last mid_used is_used mid after s s_new
        (printed out err) (printed out_new err_new) (Err stop))
        → Ends ((list ++ target ∷ []) ++ rest) last after out_new err_new (Err stop)
    stops-so rest SinkFault came = let more = stop_takes rest SinkFault came in (
      (had.given ++ asked target came.given ∷ []) ++ more.0,
      more.1,
      stop_part rest SinkFault came (λ e. cc) more.0,
      record {
        absent = more.2;
        leaves = cut_leaves rest SinkFault came refl more.0;
      },
    )
    stops-so rest TooManyErrors came = let more = stop_takes rest TooManyErrors came in (
      (had.given ++ asked target came.given ∷ []) ++ more.0,
      more.1,
      stop_last rest TooManyErrors came refl more.0,
      record { absent = more.2; leaves = stop_leaves rest TooManyErrors came refl more.0 },
    )
    stops-so rest Memory came = let more = stop_takes rest Memory came in (
      (had.given ++ asked target came.given ∷ []) ++ more.0,
      more.1,
      stop_part rest Memory came (λ e. cc) more.0,
      record { absent = more.2; leaves = tt },
    )

    pub searched-stops : (every rest : List Target) (stop : Stop) (result : Result Sum Stop)
        → (list ++ target ∷ []) ++ rest ≡ every → result ≡ Err stop
        → ReportsTargetFrom plan patterns target contents mid_faults last mid_used is_used mid after s s_new
        (printed out err) (printed out_new err_new) (Err stop) → Ends every last after out_new err_new result
    searched-stops every rest stop result is same came =
        subst (λ l. Ends l last after out_new err_new result) is
        (subst (Ends ((list ++ target ∷ []) ++ rest) last after out_new err_new) (sym same)
        (stops-so rest stop came))

-- the first targets, one of them, and those after it are all
pub list-parted : (list : List Target) (i : ℕ) (d : Target) → i < length list
    → (take i list ++ get_or list i d ∷ []) ++ drop (i + 1) list ≡ list
list-parted list i d within = ap (λ l. l ++ drop (i + 1) list) (sym (take_more list i d within))
    ∙ take-append-drop (i + 1) list

-- What the reports come to.

ended-failed : (ended : meant.Ended) → ended_broken ended ≡ true → is_failed ended ≡ true
ended-failed (at_finish finish) e = absurd (false≢true e)
ended-failed early e = absurd (false≢true e)
ended-failed too_many_errors e = refl

first-failed : (r : Report) → is_broken r ≡ true → has_failed r ≡ true
first-failed (scanned w) e = ended-failed w.ended e
first-failed (missing text) e = refl

either-failed : (r : Report) (rs : List Report) (b : Bool) → is_broken r ≡ b
    → (list_any is_broken rs ≡ true → list_any has_failed rs ≡ true) → (b || list_any is_broken rs) ≡ true
    → (has_failed r || list_any has_failed rs) ≡ true
either-failed r rs true is more e = ap (λ x. x || list_any has_failed rs) (first-failed r is)
either-failed r rs false is more e = ap (λ x. has_failed r || x) (more e) ∙ or_all (has_failed r)

-- an input that ended the run has failed
failed-broken : (rs : List Report) → list_any is_broken rs ≡ true → list_any has_failed rs ≡ true
failed-broken [] e = e
failed-broken (r ∷ rs) e = either-failed r rs (is_broken r) refl (failed-broken rs) e

module _ (plan : GrepPlan) (rs : List Report) where
  abbrev outs : List ℕ
  outs = flat_map out_of rs

  abbrev errs : List ℕ
  errs = flat_map err_of rs

  abbrev last : List ℕ
  last = last_text plan rs

  -- no total is written of a run that a match error ended
  last-none : list_any is_broken rs ≡ true → last ≡ []
  last-none e = ap (λ b. text_if (plan.total_count && not b) (total_after plan rs (mode plan))) e
      ∙ by_test plan.total_count
    where
      by_test : (b : Bool) → text_if (b && false) (total_after plan rs (mode plan)) ≡ []
      by_test true = refl
      by_test false = refl

  module _ (out_old out_mid err_old err : Kept) where
    -- the total was written after them
    pub outcome-whole : (out_new : Kept) (sum : Sum) (u : Unit {0}) (status : ℕ)
        → SumsTo plan rs (printed out_old err_old) (printed out_mid err) (Ok sum) → Writes last out_mid out_new (Ok u)
        → status ≡ status_of rs
        → RunsBy (outcome_of plan rs) (printed out_old err_old) (printed out_new err) (Ok status)
    outcome-whole out_new sum u status sums w is = (
      subst (λ l. Wrote (outs ++ last) l (printed out_old err_old) (printed out_new err)) (append-nil errs)
          (wrote-more outs errs last [] sums.0 (wrote-out last out_mid out_new err u w)),
      is,
    )

    refused : (out_new : Kept) (fault : IoError) → Breaks (outs ++ last) errs (printed out_old err_old)
        (printed out_new err) ((stop_of fault) ≡ SinkFault)
        → RunsBy (outcome_of plan rs) (printed out_old err_old) (printed out_new err) (Err (stop_of fault))
    refused out_new io.Failed h = h
    refused out_new io.Memory h = h

    -- it was refused
    pub outcome-refused : (out_new : Kept) (sum : Sum) (fault : IoError) (result : Result ℕ Stop)
        → result ≡ Err (stop_of fault) → SumsTo plan rs (printed out_old err_old) (printed out_mid err) (Ok sum)
        → Writes {T = Unit {0}} last out_mid out_new (Err fault)
        → RunsBy (outcome_of plan rs) (printed out_old err_old) (printed out_new err) result
    outcome-refused out_new sum fault result same sums w =
        subst (RunsBy (outcome_of plan rs) (printed out_old err_old) (printed out_new err)) (sym same)
        (refused out_new fault
        (subst (λ l. Breaks (outs ++ last) l (printed out_old err_old) (printed out_new err)
        ((stop_of fault) ≡ SinkFault)) (append-nil errs)
        (wrote-breaks outs errs last [] sums.0 (stop_of fault ≡ SinkFault)
        (breaks-out last [] out_mid out_new err fault w))))

    stopped : (stop : Stop) → SumsTo plan rs (printed out_old err_old) (printed out_mid err) (Err stop)
        → RunsBy (outcome_of plan rs) (printed out_old err_old) (printed out_mid err) (Err stop)
    stopped SinkFault h = record {
      out = prefix-front out_old.held out_mid.held outs last h.out;
      err = h.err;
      cause = h.cause;
      steady = h.steady;
    }
    stopped Memory h = record {
      out = prefix-front out_old.held out_mid.held outs last h.out;
      err = h.err;
      cause = h.cause;
      steady = h.steady;
    }
    stopped TooManyErrors h = (
      subst (λ l. Wrote l errs (printed out_old err_old) (printed out_mid err))
          (sym (ap (λ l. outs ++ l) (last-none h.1) ∙ append-nil outs)) h.0,
      ap (λ b. if b then 2 else if nat_lt 0 (total_of rs) then 0 else 1) (failed-broken rs h.1),
    )

    -- the run stopped before
    pub outcome-stopped : (stop : Stop) (result : Result ℕ Stop) → result ≡ Err stop
        → SumsTo plan rs (printed out_old err_old) (printed out_mid err) (Err stop)
        → RunsBy (outcome_of plan rs) (printed out_old err_old) (printed out_mid err) result
    outcome-stopped stop result same h =
        subst (RunsBy (outcome_of plan rs) (printed out_old err_old) (printed out_mid err)) (sym same)
        (stopped stop h)
