-- The scan of a text, block by block: what is left of it, and what was written.
use Rattle.std.proofs.Common.{◌≡◌, ◌≢◌, ◌∙◌, ℕ, zero, suc, ◌+◌, ◌-◌, ◌<◌, ◌≤◌, ◌==◌, Bool, true, false, ◌&&◌, List, []}
use Rattle.std.proofs.Common.{◌∷◌, ◌++◌, length, take, drop, map, flat_map, Option, Some, None, Result, Ok, Err, refl}
use Rattle.std.proofs.Common.{sym, ap, subst, arith, ⊎_elim, append-nil, append_assoc, length-append}
use Rattle.std.specs.Prelude.{nat_le, filter, if◌then◌else◌}
use Rattle.std.proofs.lemmas.Bool.{cases_Bool, cases_lt, lt-ltb, le-ltb, le-leb, ne_eqb, and_left}
use Rattle.line_feed.specs.Rows.{Row, Finish}
use Rattle.grep_args.specs.declared.plan.GrepPlan.{GrepPlan}
use Rattle.pat_tree.specs.Pattern.{Pattern}
use Rattle.grep_multi.specs.grep_match.Compiled.{patterns_in}
use Rattle.grep_multi.specs.grep_match.Matches.{is_selected, has_error}
use Rattle.grep_multi.specs.declared.cut.LineStart.{LineStart}
use Rattle.grep_multi.specs.Blocks.{TriedBlock, blocks_from, blocks_in, first_bad, lines_before, matches_at}
use Rattle.grep_multi.specs.Blocks.{matches_end, taken_with, unsearched}
use Rattle.grep_output.specs.declared.ended.Ended.{Ended}
use Rattle.grep_output.specs.declared.ended.Ended.TheVariants as told
use Rattle.grep_output.specs.declared.ended.Stop.{Stop}
use Rattle.grep_output.specs.declared.ended.Stop.TheVariants.{SinkFault, TooManyErrors, Memory}
use Rattle.grep_output.specs.declared.shows.Show.{Show}
use Rattle.grep_output.specs.declared.shows.Show.TheVariants as show
use Rattle.grep_output.specs.Ends.{ended_of}
use Rattle.grep_output.specs.Messages.{error_message}
use Rattle.grep_output.specs.Scans.{at_finish, early, too_many_errors}
use Rattle.grep_output.specs.Shows.{lines_after}
use Rattle.grep_output.proofs.Extends.{error-unselected}
use Rattle.grep_core.specs.Turns.{is_full}
use Rattle.tool_io.specs.Prints.{Wrote, Breaks}
use Rattle.tool_io.specs.Printed.{Printed}
use Rattle.tool_io.proofs.Printing.{wrote-more, wrote-breaks, wrote-none}
use Rattle.grep_blocks.specs.declared.job.Job.{Job}
use Rattle.grep_blocks.specs.declared.job.Course.{Course}
use Rattle.grep_blocks.specs.declared.job.Next.TheVariants.{Block, Context}
use Rattle.grep_blocks.specs.BlockScan.{BlockScan, scan_from, scan_done, scan_ahead, scan_broken, scan_last, lines_in}
use Rattle.grep_blocks.specs.BlockScan.{tried_of, selected_in, errors_in}
use Rattle.grep_blocks.specs.BlockText.{out_from, rest_out, shown_out}
use Rattle.grep_blocks.specs.Steps.{IsGap, TakesIt, TakesLast, all_rows, rows_at}
use Rattle.grep_blocks.specs.Scanned.{IsRest, ScansAll, errors_at, out_at, scan_at}
use Rattle.tool_io.proofs.Writing.{prefix-front}
use Rattle.grep_blocks.proofs.Walking.{take-all, drop-more, drop-zero, drop-past, drop-front, none-left}

-- The blocks of lines have these lines.
module _ (plan : GrepPlan) (patterns : List Pattern) (text : List ℕ) where
  lines-from : (place : ℕ) (rows : List Row)
      → lines_before place rows ++ lines_in (blocks_from plan patterns text place rows) ≡ rows
  unfolding blocks_from
  lines-from place [] = refl
  lines-from place (row ∷ rows) =
      let m = matches_at plan patterns text row rows in
      let skipped = blocks_from plan patterns text place rows in
      let taken = taken_with row rows m ∷ blocks_from plan patterns text (matches_end m) rows in
      ⊎_elim
      (λ (before : row.offset < place).
      let is = lt-ltb row.offset place before in
      (λ i. (if is i then row ∷ lines_before place rows else []) ++ lines_in (if is i then skipped else taken))
      ∙ ap (λ l. row ∷ l) (lines-from place rows))
      (λ (at : place ≤ row.offset).
      let is = le-ltb row.offset place at in
      (λ i. (if is i then row ∷ lines_before place rows else []) ++ lines_in (if is i then skipped else taken))
      ∙ ap (λ l. row ∷ l) (lines-from (matches_end m) rows))
      (cases_lt row.offset place)

  none-before : (rows : List Row) → lines_before 0 rows ≡ []
  none-before [] = refl
  none-before (row ∷ rows) =
      ap (λ b. if b then row ∷ lines_before 0 rows else []) (le-ltb row.offset 0 (omega arith))

  lines-unsearched : (place : ℕ) (rows : List Row) → lines_in (map (unsearched place) rows) ≡ rows
  lines-unsearched place [] = refl
  lines-unsearched place (row ∷ rows) = ap (λ l. row ∷ l) (lines-unsearched place rows)

  by_bad : Option ℕ → List Row → List TriedBlock
  by_bad bad rows = elim bad [
    | None ↦ blocks_from plan patterns text 0 rows
    | Some place ↦ map (unsearched place) rows
  ]

  lines-by : (bad : Option ℕ) (rows : List Row) → lines_in (by_bad bad rows) ≡ rows
  unfolding by_bad
  lines-by None rows =
      ap (λ l. l ++ lines_in (blocks_from plan patterns text 0 rows)) (sym (none-before rows)) ∙ lines-from 0 rows
  lines-by (Some place) rows = lines-unsearched place rows

  pub block-lines : (rows : List Row) → lines_in (blocks_in plan patterns text rows) ≡ rows
  unfolding by_bad
  block-lines rows = lines-by (first_bad plan text) rows

  none-by : (bad : Option ℕ) → by_bad bad [] ≡ []
  unfolding by_bad blocks_from
  none-by None = refl
  none-by (Some place) = refl

  pub no-blocks : blocks_in plan patterns text [] ≡ []
  unfolding by_bad
  no-blocks = none-by (first_bad plan text)

-- The scan of a block and those behind it.
module _ (plan : GrepPlan) (most : Option ℕ) (after : ℕ) (finish : Finish) (errors selected : ℕ) (b : TriedBlock)
    (bs : List TriedBlock) where
  abbrev scan_all : ℕ → ℕ → List TriedBlock → BlockScan
  scan_all = scan_from plan most after finish

  by_tests : Bool → Bool → Bool → Bool → BlockScan
  by_tests error last chosen full = elim error [
    | true ↦ elim last [ true ↦ scan_broken b | false ↦ scan_ahead b (scan_all (errors + 1) selected bs) ]
    | false ↦
        elim chosen [
          | true ↦
              elim full [
                | true ↦ scan_last plan most after finish b (lines_in bs)
                | false ↦ scan_ahead b (scan_all errors (selected + 1) bs)
              ]
          | false ↦ scan_ahead b (scan_all errors selected bs)
        ]
  ]

  scan-step : scan_all errors selected (b ∷ bs)
      ≡ by_tests (has_error (tried_of b)) (nat_le 20 errors) (is_selected plan (tried_of b))
      (is_full most (selected + 1))
  unfolding scan_from by_tests
  scan-step = refl

  pub scan-broken : has_error (tried_of b) ≡ true → nat_le 20 errors ≡ true
      → scan_all errors selected (b ∷ bs) ≡ scan_broken b
  unfolding by_tests
  scan-broken e l = scan-step
      ∙ (λ i. by_tests (e i) (l i) (is_selected plan (tried_of b)) (is_full most (selected + 1)))

  pub scan-error : has_error (tried_of b) ≡ true → nat_le 20 errors ≡ false
      → scan_all errors selected (b ∷ bs) ≡ scan_ahead b (scan_all (errors + 1) selected bs)
  unfolding by_tests
  scan-error e l = scan-step
      ∙ (λ i. by_tests (e i) (l i) (is_selected plan (tried_of b)) (is_full most (selected + 1)))

  pub scan-full : has_error (tried_of b) ≡ false → is_selected plan (tried_of b) ≡ true
      → is_full most (selected + 1) ≡ true
      → scan_all errors selected (b ∷ bs) ≡ scan_last plan most after finish b (lines_in bs)
  unfolding by_tests
  scan-full e s f = scan-step ∙ (λ i. by_tests (e i) (nat_le 20 errors) (s i) (f i))

  pub scan-chosen : has_error (tried_of b) ≡ false → is_selected plan (tried_of b) ≡ true
      → is_full most (selected + 1) ≡ false
      → scan_all errors selected (b ∷ bs) ≡ scan_ahead b (scan_all errors (selected + 1) bs)
  unfolding by_tests
  scan-chosen e s f = scan-step ∙ (λ i. by_tests (e i) (nat_le 20 errors) (s i) (f i))

  pub scan-passed : has_error (tried_of b) ≡ false → is_selected plan (tried_of b) ≡ false
      → scan_all errors selected (b ∷ bs) ≡ scan_ahead b (scan_all errors selected bs)
  unfolding by_tests
  scan-passed e s = scan-step ∙ (λ i. by_tests (e i) (nat_le 20 errors) (s i) (is_full most (selected + 1)))

pub scan-end : (plan : GrepPlan) (most : Option ℕ) (after : ℕ) (finish : Finish) (errors selected : ℕ)
    → scan_from plan most after finish errors selected [] ≡ scan_done (at_finish finish)
unfolding scan_from
scan-end plan most after finish errors selected = refl

-- What is shown of a block and those behind it.
module _ (plan : GrepPlan) (name text : List ℕ) (lines : List Row) (has_shown : Bool) (shows : Show)
    (following : List Row) (is_first : Bool) (gap : List Row) where
  abbrev out_all : Bool → List Row → List TriedBlock → List ℕ
  out_all = out_from plan name text lines has_shown shows following

  pub out-end : out_all is_first gap [] ≡ rest_out plan name text lines has_shown shows is_first (gap ++ following)
  unfolding out_from
  out-end = refl

  module _ (b : TriedBlock) (bs : List TriedBlock) where
    by_chosen : Bool → List ℕ
    by_chosen chosen = elim chosen [
      | true ↦ shown_out plan name text lines has_shown shows is_first gap b ++ out_all false [] bs
      | false ↦ out_all is_first (gap ++ b.lines) bs
    ]

    out-step : out_all is_first gap (b ∷ bs) ≡ by_chosen (is_selected plan (tried_of b))
    unfolding out_from by_chosen
    out-step = refl

    pub out-chosen : is_selected plan (tried_of b) ≡ true
        → out_all is_first gap (b ∷ bs)
        ≡ shown_out plan name text lines has_shown shows is_first gap b ++ out_all false [] bs
    unfolding by_chosen
    out-chosen e = out-step ∙ ap by_chosen e

    pub out-passed : is_selected plan (tried_of b) ≡ false
        → out_all is_first gap (b ∷ bs) ≡ out_all is_first (gap ++ b.lines) bs
    unfolding by_chosen
    out-passed e = out-step ∙ ap by_chosen e

gap-more : (job : Job) (gap from behind : LineStart) (rows lines : List Row) → IsGap job gap from rows
    → IsGap job from behind lines → IsGap job gap behind (rows ++ lines)
gap-more job gap from behind rows lines g h = record {
  lines = g.lines ∙ ap (λ l. rows ++ l) h.lines ∙ sym (append_assoc rows lines (rows_at job behind));
  many = h.many ∙ (let long = length-append rows lines in let many = g.many in omega arith);
}

pub gap-none : (job : Job) (at : LineStart) → IsGap job at at []
gap-none job at = record { lines = refl; many = omega arith }

rest-more : (job : Job) (from behind : LineStart) (lines : List Row) → IsRest job from → IsGap job from behind lines
    → IsRest job behind
rest-more job from behind lines rest g =
    let all = all_rows job in
    sym (drop-zero (length lines - length lines) (rows_at job behind) (omega arith))
    ∙ past-lines
    ∙ ap (drop (length lines)) (sym g.lines ∙ rest)
    ∙ drop-more (length lines) from.lines all
    ∙ ap (λ n. drop n all) (sym g.many)
  where
    past-lines : drop (length lines - length lines) (rows_at job behind) ≡ drop (length lines) (lines ++ rows_at job behind)
    past-lines = drop-zero (length lines - length lines) (rows_at job behind) (omega arith)
        ∙ ap (λ l. l ++ rows_at job behind) (sym (drop-past lines (length lines) (omega arith)))
        ∙ sym (drop-front lines (rows_at job behind) (length lines) (omega arith))

-- How a scan stands: what is left of it, and what was written.
module _ (job : Job) (finish : Finish) where
  abbrev plan : GrepPlan
  plan = job.search.plan.now

  abbrev scan_of : Course → BlockScan
  scan_of c = scan_at job finish c

  pub record Left (old now : Course) (before mid : Printed) (gap : List Row) : Type 0 where
    pub is_gap : IsGap job now.gap now.from gap
    pub rest : IsRest job now.from
    pub front_out : List ℕ
    pub front_err : List ℕ
    pub out : front_out ++ out_at job (now.selected == 0) gap (scan_of now) ≡ out_at job (old.selected == 0) []
        (scan_of old)
    pub err : front_err ++ errors_at job (scan_of now) ≡ errors_at job (scan_of old)
    pub wrote : Wrote front_out front_err before mid
    pub ended : (scan_of now).ended ≡ (scan_of old).ended
    pub selected : now.selected + length (selected_in plan (scan_of now))
        ≡ old.selected + length (selected_in plan (scan_of old))
    pub errors : now.errors + length (errors_in (scan_of now)) ≡ old.errors + length (errors_in (scan_of old))

  -- nothing was taken yet
  pub left-begun : (old : Course) (before : Printed) → old.from ≡ record { at = 0; lines = 0 }
      → old.gap ≡ record { at = 0; lines = 0 } → Left old old before before []
  left-begun old before from gap = record {
    is_gap = subst (λ at. IsGap job at old.from []) (from ∙ sym gap) (gap-none job old.from);
    rest = subst (λ at. IsRest job at) (sym from) refl;
    front_out = [];
    front_err = [];
    out = refl;
    err = refl;
    wrote = wrote-none before;
    ended = refl;
    selected = refl;
    errors = refl;
  }

  -- A write was refused, or memory lacked, where this may still be written.
  pub left-breaks : {old now : Course} {before mid after : Printed} {gap : List Row} (is_refused : Type 0)
      (out err out_more err_more : List ℕ) → Left old now before mid gap
      → out_at job (now.selected == 0) gap (scan_of now) ≡ out ++ out_more
      → errors_at job (scan_of now) ≡ err ++ err_more → Breaks out err mid after is_refused
      → Breaks (out_at job (old.selected == 0) [] (scan_of old)) (errors_at job (scan_of old)) before after is_refused
  left-breaks {old} {now} {before} {mid} {after} {gap} is_refused out err out_more err_more left is_out is_err breaks =
      subst (λ l. Breaks l (errors_at job (scan_of old)) before after is_refused)
      (append_assoc left.front_out out out_more ∙ ap (λ l. left.front_out ++ l) (sym is_out) ∙ left.out)
      (subst (λ l. Breaks ((left.front_out ++ out) ++ out_more) l before after is_refused)
      (append_assoc left.front_err err err_more ∙ ap (λ l. left.front_err ++ l) (sym is_err) ∙ left.err)
      (breaks-longer (left.front_out ++ out) (left.front_err ++ err) out_more err_more
      (wrote-breaks left.front_out left.front_err out err left.wrote is_refused breaks)))
    where
      breaks-longer : {old new : Printed} {is_refused : Type 0} (out err out_more err_more : List ℕ)
          → Breaks out err old new is_refused → Breaks (out ++ out_more) (err ++ err_more) old new is_refused
      breaks-longer {old} {new} {is_refused} out err out_more err_more b = record {
        out = prefix-front old.out.held new.out.held out out_more b.out;
        err = prefix-front old.err.held new.err.held err err_more b.err;
        cause = b.cause;
        steady = b.steady;
      }

  -- all that was left was written
  pub left-done : {old now new : Course} {before mid after : Printed} {gap : List Row} (out err : List ℕ)
      → Left old now before mid gap
      → out_at job (now.selected == 0) gap (scan_of now) ≡ out → errors_at job (scan_of now) ≡ err
      → Wrote out err mid after
      → new.selected ≡ now.selected + length (selected_in plan (scan_of now))
      → new.errors ≡ now.errors + length (errors_in (scan_of now))
      → ScansAll job (scan_of old) old new before after
  left-done {old} {now} {new} {before} {mid} {after} {gap} out err left is_out is_err wrote selected errors = record {
    wrote = subst (λ l. Wrote l (errors_at job (scan_of old)) before after)
        (ap (λ l. left.front_out ++ l) (sym is_out) ∙ left.out)
        (subst (λ l. Wrote (left.front_out ++ out) l before after)
        (ap (λ l. left.front_err ++ l) (sym is_err) ∙ left.err)
        (wrote-more left.front_out left.front_err out err left.wrote wrote));
    selected = selected ∙ left.selected;
    errors = errors ∙ left.errors;
  }

  count-in : (holds : TriedBlock → Bool) (b : TriedBlock) (bs : List TriedBlock) → holds b ≡ true
      → length (filter holds (b ∷ bs)) ≡ length (filter holds bs) + 1
  count-in holds b bs e = ap (λ c. length (if c then b ∷ filter holds bs else filter holds bs)) e
      ∙ (let h : suc (length (filter holds bs)) ≡ length (filter holds bs) + 1 = omega arith in h)

  count-out : (holds : TriedBlock → Bool) (b : TriedBlock) (bs : List TriedBlock) → holds b ≡ false
      → length (filter holds (b ∷ bs)) ≡ length (filter holds bs)
  count-out holds b bs e = ap (λ c. length (if c then b ∷ filter holds bs else filter holds bs)) e

  -- The next block.
  module _ {old now : Course} {before mid : Printed} {gap : List Row} (left : Left old now before mid gap)
      (b : TriedBlock) (behind : LineStart)
      (blocks : blocks_in plan (patterns_in job.search.patterns.now) job.search.text.now (rows_at job now.from)
      ≡ b ∷ blocks_in plan (patterns_in job.search.patterns.now) job.search.text.now (rows_at job behind))
      (lines : IsGap job now.from behind b.lines) where
    abbrev bs : List TriedBlock
    bs = blocks_in plan (patterns_in job.search.patterns.now) job.search.text.now (rows_at job behind)

    abbrev after_lines : ℕ
    after_lines = lines_after job.show plan.after_context

    abbrev is_first : Bool
    is_first = now.selected == 0

    abbrev shown : List ℕ
    shown = shown_out plan job.name.now job.search.text.now (all_rows job) job.has_shown job.show is_first gap b

    abbrev said : List ℕ
    said = error_message job.name.now (tried_of b)

    is-step : scan_of now ≡ scan_from plan job.most after_lines finish now.errors now.selected (b ∷ bs)
    is-step = ap (scan_from plan job.most after_lines finish now.errors now.selected) blocks

    -- it is left out, and others follow
    module _ (errors : ℕ) where
      abbrev passed : Course
      passed = record { from = behind; gap = now.gap; selected = now.selected; errors = errors }

      left-passed : {after : Printed} → is_selected plan (tried_of b) ≡ false
          → scan_of now ≡ scan_ahead b (scan_of passed)
          → errors + length (errors_in (scan_of passed))
          ≡ now.errors + length (errors_in (scan_ahead b (scan_of passed)))
          → Wrote [] said mid after → Left old passed before after (gap ++ b.lines)
      left-passed e is count wrote = record {
        is_gap = gap-more job now.gap now.from behind gap b.lines left.is_gap lines;
        rest = rest-more job now.from behind b.lines left.rest lines;
        front_out = left.front_out ++ [];
        front_err = left.front_err ++ said;
        out =
            append_assoc left.front_out [] (out_at job is_first (gap ++ b.lines) (scan_of passed))
            ∙ ap (λ l. left.front_out ++ l)
            (sym (ap (out_at job is_first gap) is
            ∙ out-passed plan job.name.now job.search.text.now (all_rows job) job.has_shown job.show
            (scan_of passed).following is_first gap b (scan_of passed).within e))
            ∙ left.out;
        err =
            append_assoc left.front_err said (errors_at job (scan_of passed))
            ∙ ap (λ l. left.front_err ++ l) (sym (ap (errors_at job) is)) ∙ left.err;
        wrote = wrote-more left.front_out left.front_err [] said left.wrote wrote;
        ended = sym (ap (λ (s : BlockScan). s.ended) is) ∙ left.ended;
        selected =
            ap (λ n. now.selected + n)
            (sym (count-out (λ t. is_selected plan (tried_of t)) b (scan_of passed).tried e)
            ∙ sym (ap (λ s. length (selected_in plan s)) is))
            ∙ left.selected;
        errors = count ∙ sym (ap (λ s. now.errors + length (errors_in s)) is) ∙ left.errors;
      }

    -- it is selected, and others follow
    abbrev chosen : Course
    chosen = record { from = behind; gap = behind; selected = now.selected + 1; errors = now.errors }

    not_first : (now.selected + 1 == 0) ≡ false
    not_first = ne_eqb (now.selected + 1) 0 (omega arith)

    left-chosen : {after : Printed} → is_selected plan (tried_of b) ≡ true → has_error (tried_of b) ≡ false
        → scan_of now ≡ scan_ahead b (scan_of chosen)
        → Wrote shown said mid after → Left old chosen before after []
    left-chosen e none is wrote = record {
      is_gap = gap-none job behind;
      rest = rest-more job now.from behind b.lines left.rest lines;
      front_out = left.front_out ++ shown;
      front_err = left.front_err ++ said;
      out =
          append_assoc left.front_out shown (out_at job (now.selected + 1 == 0) [] (scan_of chosen))
          ∙ ap (λ f. left.front_out ++ (shown ++ out_at job f [] (scan_of chosen))) not_first
          ∙ ap (λ l. left.front_out ++ l)
          (sym (ap (out_at job is_first gap) is
          ∙ out-chosen plan job.name.now job.search.text.now (all_rows job) job.has_shown job.show
          (scan_of chosen).following is_first gap b (scan_of chosen).within e))
          ∙ left.out;
      err =
          append_assoc left.front_err said (errors_at job (scan_of chosen))
          ∙ ap (λ l. left.front_err ++ l) (sym (ap (errors_at job) is)) ∙ left.err;
      wrote = wrote-more left.front_out left.front_err shown said left.wrote wrote;
      ended = sym (ap (λ (s : BlockScan). s.ended) is) ∙ left.ended;
      selected =
          (let one = count-in (λ t. is_selected plan (tried_of t)) b (scan_of chosen).tried e in
          let h : now.selected + 1 + length (selected_in plan (scan_of chosen))
          ≡ now.selected + length (selected_in plan (scan_ahead b (scan_of chosen))) = omega arith in h)
          ∙ sym (ap (λ s. now.selected + length (selected_in plan s)) is)
          ∙ left.selected;
      errors =
          ap (λ n. now.errors + n)
          (sym (count-out (λ t. has_error (tried_of t)) b (scan_of chosen).tried none)
          ∙ sym (ap (λ s. length (errors_in s)) is))
          ∙ left.errors;
    }

    -- it was taken, and others follow
    pub left-more : {new : Course} {after : Printed} → TakesIt job b gap behind now new mid after Block
        → (more : List Row) × Left old new before after more
    left-more {new} {after} takes = ⊎_elim
        (λ (e : has_error (tried_of b) ≡ true).
        let un = error-unselected plan (tried_of b) e in
        let less : nat_le 20 now.errors ≡ false = ap (λ t. t && nat_le 20 now.errors) (sym e) ∙ takes.errors in
        let to : new ≡ passed (now.errors + 1) = takes.stands ∙ (λ i. record {
          from = behind;
          gap = if un i then behind else now.gap;
          selected = if un i then now.selected + 1 else now.selected;
          errors = if e i then now.errors + 1 else now.errors;
        }) in
        let is = is-step ∙ scan-error plan job.most after_lines finish now.errors now.selected b bs e less in
        let one = count-in (λ t. has_error (tried_of t)) b (scan_of (passed (now.errors + 1))).tried e in (
          gap ++ b.lines,
          subst (λ c. Left old c before after (gap ++ b.lines)) (sym to)
              (left-passed (now.errors + 1) un is
              (let h : now.errors + 1 + length (errors_in (scan_of (passed (now.errors + 1))))
              ≡ now.errors + length (errors_in (scan_ahead b (scan_of (passed (now.errors + 1))))) = omega arith in h)
              (subst (λ t. Wrote (if t then shown else []) said mid after) un takes.wrote)),
        ))
        (λ (e : has_error (tried_of b) ≡ false). ⊎_elim
        (λ (s : is_selected plan (tried_of b) ≡ true).
        let open_ended : is_full job.most (now.selected + 1) ≡ false = not-full takes.answer s in
        let to : new ≡ chosen = takes.stands ∙ (λ i. record {
          from = behind;
          gap = if s i then behind else now.gap;
          selected = if s i then now.selected + 1 else now.selected;
          errors = if e i then now.errors + 1 else now.errors;
        }) in
        let is = is-step ∙ scan-chosen plan job.most after_lines finish now.errors now.selected b bs e s open_ended in (
          [],
          subst (λ c. Left old c before after []) (sym to)
              (left-chosen s e is (subst (λ t. Wrote (if t then shown else []) said mid after) s takes.wrote)),
        ))
        (λ (s : is_selected plan (tried_of b) ≡ false).
        let to : new ≡ passed now.errors = takes.stands ∙ (λ i. record {
          from = behind;
          gap = if s i then behind else now.gap;
          selected = if s i then now.selected + 1 else now.selected;
          errors = if e i then now.errors + 1 else now.errors;
        }) in
        let is = is-step ∙ scan-passed plan job.most after_lines finish now.errors now.selected b bs e s in (
          gap ++ b.lines,
          subst (λ c. Left old c before after (gap ++ b.lines)) (sym to)
              (left-passed now.errors s is
              (ap (λ n. now.errors + n)
              (sym (count-out (λ t. has_error (tried_of t)) b (scan_of (passed now.errors)).tried e)))
              (subst (λ t. Wrote (if t then shown else []) said mid after) s takes.wrote)),
        ))
        (cases_Bool (is_selected plan (tried_of b))))
        (cases_Bool (has_error (tried_of b)))
      where
        not-full : Block ≡ (if is_selected plan (tried_of b) && is_full job.most (now.selected + 1) then Context
            else Block) → is_selected plan (tried_of b) ≡ true → is_full job.most (now.selected + 1) ≡ false
        not-full answer s = ⊎_elim
            (λ (f : is_full job.most (now.selected + 1) ≡ true).
            absurd (let h : Block ≡ Context = answer ∙ (λ i. if s i && f i then Context else Block) in cc))
            (λ (f : is_full job.most (now.selected + 1) ≡ false). f)
            (cases_Bool (is_full job.most (now.selected + 1)))

    -- Its match error is the last one: the lines since the last selected block are shown, and nothing more.
    rest_gap : List ℕ
    rest_gap = rest_out plan job.name.now job.search.text.now (all_rows job) job.has_shown job.show is_first gap

    out-broken : has_error (tried_of b) ≡ true → nat_le 20 now.errors ≡ true
        → out_at job is_first gap (scan_of now) ≡ rest_gap
    unfolding rest_gap
    out-broken e l =
        ap (out_at job is_first gap)
        (is-step ∙ scan-broken plan job.most after_lines finish now.errors now.selected b bs e l)
        ∙ out-end plan job.name.now job.search.text.now (all_rows job) job.has_shown job.show [] is_first gap
        ∙ ap (rest_out plan job.name.now job.search.text.now (all_rows job) job.has_shown job.show is_first)
        (append-nil gap)

    pub left-last : {new : Course} {after : Printed} → TakesLast job b gap behind now new mid after
        → ScansAll job (scan_of old) old new before after × ((scan_of old).ended ≡ too_many_errors)
    unfolding rest_gap
    left-last {new} {after} takes =
        let e : has_error (tried_of b) ≡ true = and-left (has_error (tried_of b)) (nat_le 20 now.errors) takes.errors in
        let l : nat_le 20 now.errors ≡ true = and-right (has_error (tried_of b)) (nat_le 20 now.errors) takes.errors in
        let un = error-unselected plan (tried_of b) e in
        let is = is-step ∙ scan-broken plan job.most after_lines finish now.errors now.selected b bs e l in
        let one = count-in (λ t. has_error (tried_of t)) b [] e in
        let none = count-out (λ t. is_selected plan (tried_of t)) b [] un in
        let picked = ap (λ s. length (selected_in plan s)) is in
        let failed = ap (λ s. length (errors_in s)) is in
        let same : new.selected ≡ now.selected = ap (λ (c : Course). c.selected) takes.stands in
        let more : new.errors ≡ now.errors + 1 = ap (λ (c : Course). c.errors) takes.stands in (
          left-done rest_gap said left (out-broken e l)
              (ap (errors_at job) is ∙ append-nil said) takes.wrote
              (omega arith) (omega arith),
          sym left.ended ∙ ap (λ (s : BlockScan). s.ended) is,
        )
      where
        and-left : (a c : Bool) → (a && c) ≡ true → a ≡ true
        and-left true c h = refl
        and-left false c h = h

        and-right : (a c : Bool) → (a && c) ≡ true → c ≡ true
        and-right true c h = h
        and-right false c h = absurd (let k : false ≡ true = h in cc)

    -- what is written of it is the first part of what is left
    out-chosen-front : has_error (tried_of b) ≡ false → is_selected plan (tried_of b) ≡ true
        → (more : List ℕ) × (out_at job is_first gap (scan_of now) ≡ shown ++ more)
    out-chosen-front e s = ⊎_elim
        (λ (f : is_full job.most (now.selected + 1) ≡ true). (
          _,
          ap (out_at job is_first gap)
              (is-step ∙ scan-full plan job.most after_lines finish now.errors now.selected b bs e s f)
              ∙ out-chosen plan job.name.now job.search.text.now (all_rows job) job.has_shown job.show
              (take after_lines (lines_in bs)) is_first gap b [] s,
        ))
        (λ (f : is_full job.most (now.selected + 1) ≡ false). (
          _,
          ap (out_at job is_first gap)
              (is-step ∙ scan-chosen plan job.most after_lines finish now.errors now.selected b bs e s f)
              ∙ out-chosen plan job.name.now job.search.text.now (all_rows job) job.has_shown job.show
              (scan_of chosen).following is_first gap b (scan_of chosen).within s,
        ))
        (cases_Bool (is_full job.most (now.selected + 1)))

    errors-front : (more : List ℕ) × (errors_at job (scan_of now) ≡ said ++ more)
    errors-front = ⊎_elim
        (λ (e : has_error (tried_of b) ≡ true). ⊎_elim
        (λ (l : nat_le 20 now.errors ≡ true). (
          _,
          ap (errors_at job) (is-step ∙ scan-broken plan job.most after_lines finish now.errors now.selected b bs e l),
        ))
        (λ (l : nat_le 20 now.errors ≡ false). (
          _,
          ap (errors_at job) (is-step ∙ scan-error plan job.most after_lines finish now.errors now.selected b bs e l),
        ))
        (cases_Bool (nat_le 20 now.errors)))
        (λ (e : has_error (tried_of b) ≡ false). ⊎_elim
        (λ (s : is_selected plan (tried_of b) ≡ true). ⊎_elim
        (λ (f : is_full job.most (now.selected + 1) ≡ true). (
          _,
          ap (errors_at job) (is-step ∙ scan-full plan job.most after_lines finish now.errors now.selected b bs e s f),
        ))
        (λ (f : is_full job.most (now.selected + 1) ≡ false). (
          _,
          ap (errors_at job)
              (is-step ∙ scan-chosen plan job.most after_lines finish now.errors now.selected b bs e s f),
        ))
        (cases_Bool (is_full job.most (now.selected + 1))))
        (λ (s : is_selected plan (tried_of b) ≡ false). (
          _,
          ap (errors_at job) (is-step ∙ scan-passed plan job.most after_lines finish now.errors now.selected b bs e s),
        ))
        (cases_Bool (is_selected plan (tried_of b))))
        (cases_Bool (has_error (tried_of b)))

    -- a write was refused in it
    pub left-cut : {after : Printed} (is_refused : Type 0)
        → Breaks (if has_error (tried_of b) && nat_le 20 now.errors then rest_out plan job.name.now job.search.text.now
        (all_rows job) job.has_shown job.show is_first gap
        else if is_selected plan (tried_of b) then shown else []) said mid after is_refused
        → Breaks (out_at job (old.selected == 0) [] (scan_of old)) (errors_at job (scan_of old)) before after is_refused
    unfolding rest_gap
    left-cut {after} is_refused breaks =
        let errors = errors-front in
        ⊎_elim
        (λ (e : has_error (tried_of b) ≡ true). ⊎_elim
        (λ (l : nat_le 20 now.errors ≡ true).
        left-breaks is_refused rest_gap said [] errors.0 left (out-broken e l ∙ sym (append-nil rest_gap)) errors.1
        (subst (λ t. Breaks t said mid after is_refused)
        (λ i. if e i && l i then rest_gap else if is_selected plan (tried_of b) then shown else []) breaks))
        (λ (l : nat_le 20 now.errors ≡ false).
        let un = error-unselected plan (tried_of b) e in
        left-breaks is_refused [] said _ errors.0 left refl errors.1
        (subst (λ t. Breaks t said mid after is_refused)
        (λ i. if e i && l i then rest_gap else if un i then shown else []) breaks))
        (cases_Bool (nat_le 20 now.errors)))
        (λ (e : has_error (tried_of b) ≡ false). ⊎_elim
        (λ (s : is_selected plan (tried_of b) ≡ true).
        let front = out-chosen-front e s in
        left-breaks is_refused shown said front.0 errors.0 left front.1 errors.1
        (subst (λ t. Breaks t said mid after is_refused)
        (λ i. if e i && nat_le 20 now.errors then rest_gap else if s i then shown else []) breaks))
        (λ (s : is_selected plan (tried_of b) ≡ false).
        left-breaks is_refused [] said _ errors.0 left refl errors.1
        (subst (λ t. Breaks t said mid after is_refused)
        (λ i. if e i && nat_le 20 now.errors then rest_gap else if s i then shown else []) breaks))
        (cases_Bool (is_selected plan (tried_of b))))
        (cases_Bool (has_error (tried_of b)))

    -- It is the last block that may be selected.
    pub record Full (new : Course) (after : Printed) : Type 0 where
      pub out : out_at job is_first gap (scan_of now)
          ≡ shown ++ rest_out plan job.name.now job.search.text.now (all_rows job) job.has_shown job.show false
          (take after_lines (rows_at job behind))
      pub err : errors_at job (scan_of now) ≡ said
      pub wrote : Wrote shown said mid after
      pub ended : (scan_of old).ended
          ≡ (if nat_le after_lines (length (rows_at job behind)) then early else at_finish finish)
      pub stands : new ≡ chosen
      pub selected : new.selected ≡ now.selected + length (selected_in plan (scan_of now))
      pub errors : new.errors ≡ now.errors + length (errors_in (scan_of now))

    pub left-full : {new : Course} {after : Printed} → TakesIt job b gap behind now new mid after Context
        → Full new after
    left-full {new} {after} takes =
        let s : is_selected plan (tried_of b) ≡ true = is-chosen in
        let f : is_full job.most (now.selected + 1) ≡ true = is-full in
        let e : has_error (tried_of b) ≡ false = no-error s in
        let is = is-step ∙ scan-full plan job.most after_lines finish now.errors now.selected b bs e s f in
        let rows = block-lines plan (patterns_in job.search.patterns.now) job.search.text.now (rows_at job behind) in
        let to : new ≡ chosen = takes.stands ∙ (λ i. record {
          from = behind;
          gap = if s i then behind else now.gap;
          selected = if s i then now.selected + 1 else now.selected;
          errors = if e i then now.errors + 1 else now.errors;
        }) in
        let one = count-in (λ t. is_selected plan (tried_of t)) b [] s in
        let none = count-out (λ t. has_error (tried_of t)) b [] e in
        let picked = ap (λ s. length (selected_in plan s)) is in
        let failed = ap (λ s. length (errors_in s)) is in
        let count : new.selected ≡ now.selected + 1 = ap (λ (c : Course). c.selected) to in
        let same : new.errors ≡ now.errors = ap (λ (c : Course). c.errors) to in
        record {
          out =
              ap (out_at job is_first gap) is
              ∙ out-chosen plan job.name.now job.search.text.now (all_rows job) job.has_shown job.show
              (take after_lines (lines_in bs)) is_first gap b [] s
              ∙ ap (λ l. shown ++ l)
              (out-end plan job.name.now job.search.text.now (all_rows job) job.has_shown job.show
              (take after_lines (lines_in bs)) false []
              ∙ ap (λ l. rest_out plan job.name.now job.search.text.now (all_rows job) job.has_shown job.show false
              (take after_lines l)) rows);
          err = ap (errors_at job) is ∙ append-nil said;
          wrote = subst (λ t. Wrote (if t then shown else []) said mid after) s takes.wrote;
          ended =
              sym left.ended ∙ ap (λ (s : BlockScan). s.ended) is
              ∙ ap (λ l. if nat_le after_lines (length l) then early else at_finish finish) rows;
          stands = to;
          selected = omega arith;
          errors = omega arith;
        }
      where
        answer : Context ≡ (if is_selected plan (tried_of b) && is_full job.most (now.selected + 1) then Context
            else Block)
        answer = takes.answer

        is-chosen : is_selected plan (tried_of b) ≡ true
        is-chosen = ⊎_elim (λ (s : is_selected plan (tried_of b) ≡ true). s)
            (λ (s : is_selected plan (tried_of b) ≡ false). absurd (let h : Context ≡ Block = answer
            ∙ (λ i. if s i && is_full job.most (now.selected + 1) then Context else Block) in cc))
            (cases_Bool (is_selected plan (tried_of b)))

        is-full : is_full job.most (now.selected + 1) ≡ true
        is-full = ⊎_elim (λ (f : is_full job.most (now.selected + 1) ≡ true). f)
            (λ (f : is_full job.most (now.selected + 1) ≡ false). absurd (let h : Context ≡ Block = answer
            ∙ (λ i. if is-chosen i && f i then Context else Block) in cc))
            (cases_Bool (is_full job.most (now.selected + 1)))

        no-error : is_selected plan (tried_of b) ≡ true → has_error (tried_of b) ≡ false
        no-error s = ⊎_elim
            (λ (e : has_error (tried_of b) ≡ true).
            absurd (let h : true ≡ false = sym s ∙ error-unselected plan (tried_of b) e in cc))
            (λ (e : has_error (tried_of b) ≡ false). e)
            (cases_Bool (has_error (tried_of b)))

  -- No block is left.
  module _ {old now : Course} {before mid : Printed} {gap : List Row} (left : Left old now before mid gap)
      (past : length job.search.text.now ≤ now.from.at) where
    done-is : scan_of now ≡ scan_done (at_finish finish)
    done-is =
        ap (scan_from plan job.most (lines_after job.show plan.after_context) finish now.errors now.selected)
        (ap (blocks_in plan (patterns_in job.search.patterns.now) job.search.text.now) (none-left job now.from past)
        ∙ no-blocks plan (patterns_in job.search.patterns.now) job.search.text.now)
        ∙ scan-end plan job.most (lines_after job.show plan.after_context) finish now.errors now.selected

    pub done-out : out_at job (now.selected == 0) gap (scan_of now)
        ≡ rest_out plan job.name.now job.search.text.now (all_rows job) job.has_shown job.show (now.selected == 0)
        (take (now.from.lines - now.gap.lines) (rows_at job now.gap))
    done-out =
        let many = left.is_gap.many in
        ap (out_at job (now.selected == 0) gap) done-is
        ∙ out-end plan job.name.now job.search.text.now (all_rows job) job.has_shown job.show [] (now.selected == 0) gap
        ∙ ap (rest_out plan job.name.now job.search.text.now (all_rows job) job.has_shown job.show (now.selected == 0))
        (append-nil gap
        ∙ sym (ap (take (now.from.lines - now.gap.lines)) left.is_gap.lines
        ∙ take-all gap (rows_at job now.from) (now.from.lines - now.gap.lines) (omega arith)))

    pub done-err : errors_at job (scan_of now) ≡ []
    done-err = ap (errors_at job) done-is

    pub done-ended : (scan_of old).ended ≡ at_finish finish
    done-ended = sym left.ended ∙ ap (λ (s : BlockScan). s.ended) done-is

    pub done-selected : now.selected ≡ now.selected + length (selected_in plan (scan_of now))
    done-selected = let none = ap (λ s. length (selected_in plan s)) done-is in omega arith

    pub done-errors : now.errors ≡ now.errors + length (errors_in (scan_of now))
    done-errors = let none = ap (λ s. length (errors_in s)) done-is in omega arith
