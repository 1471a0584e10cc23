-- How a scan ends, or is cut off.
use Rattle.std.proofs.Common.{◌≡◌, ◌≢◌, ◌∙◌, ℕ, ◌+◌, ◌-◌, ◌<◌, ◌≤◌, ◌==◌, Bool, true, false, List, [], ◌∷◌, ◌++◌}
use Rattle.std.proofs.Common.{length, take, drop, Result, Ok, Err, refl, sym, ap, subst, arith, ⊎_elim, append-nil, ◌&&◌}
use Rattle.std.specs.Prelude.{nat_le, if◌then◌else◌}
use Rattle.std.proofs.lemmas.Bool.{cases_lt, cond_both, le-leb, leb-false, ne_eqb}
use Rattle.pcre_io.specs.Told.{Kept}
use Rattle.pcre_io.specs.declared.traits.IoError.{IoError}
use Rattle.pcre_io.specs.declared.traits.IoError.TheVariants as io
use Rattle.line_feed.specs.Rows.{Row, Finish}
use Rattle.grep_multi.specs.grep_match.Compiled.{patterns_in}
use Rattle.grep_multi.specs.grep_match.Found.{Listed}
use Rattle.grep_multi.specs.grep_match.Matches.{is_selected, has_error}
use Rattle.grep_multi.specs.Blocks.{TriedBlock}
use Rattle.grep_multi.specs.declared.blocks.Block.{Block as Lines}
use Rattle.grep_multi.specs.declared.cut.LineStart.{LineStart}
use Rattle.grep_multi.specs.Given.{Gives}
use Rattle.grep_multi.proofs.Cutting.{first-at, lines-end}
use Rattle.grep_output.specs.declared.ended.Ended.{Ended}
use Rattle.grep_output.specs.declared.ended.Stop.{Stop}
use Rattle.grep_output.specs.declared.ended.Stop.TheVariants.{SinkFault, TooManyErrors, Memory}
use Rattle.grep_output.specs.declared.shows.Show.{Show}
use Rattle.grep_output.specs.declared.shows.Show.TheVariants as show
use Rattle.grep_output.specs.Ends.{ended_of, stop_of}
use Rattle.grep_output.specs.Scans.{at_finish, early}
use Rattle.grep_output.specs.Shows.{lines_after}
use Rattle.grep_blocks.proofs.Turning.{memory-fault, told-by}
use Rattle.tool_io.specs.Prints.{Wrote, Breaks}
use Rattle.tool_io.specs.Printed.{Printed, printed}
use Rattle.tool_io.specs.Writes.{Writes}
use Rattle.tool_io.proofs.Printing.{breaks-none, breaks-out, wrote-breaks, wrote-more, wrote-out}
use Rattle.grep_blocks.specs.declared.job.Job.{Job}
use Rattle.grep_blocks.specs.declared.job.Course.{Course}
use Rattle.grep_blocks.specs.declared.job.Next.{Next}
use Rattle.grep_blocks.specs.declared.job.Next.TheVariants.{Block, Context}
use Rattle.grep_blocks.specs.BlockScan.{BlockScan, tried_of}
use Rattle.grep_blocks.specs.BlockText.{rest_out, shown_out}
use Rattle.grep_output.specs.Messages.{error_message}
use Rattle.grep_blocks.specs.Steps.{IsGap, IsStart, TakesBlock, TakesIt, TakesLast, all_rows, rows_at}
use Rattle.grep_blocks.specs.Scanned.{IsBegun, IsReady, Keeps, ScansTo, errors_at, out_at, scan_at}
use Rattle.grep_blocks.proofs.Parting.{head-is}
use Rattle.grep_blocks.proofs.Scanning.{Left, Full, left-breaks, left-cut, left-done, left-full, left-last, left-more}
use Rattle.grep_blocks.proofs.Scanning.{done-ended, done-err, done-errors, done-out, done-selected}

-- what the searches give is some lines
given_some : (job : Job) (from behind : LineStart) (lines : List Row) → from.at < length job.search.text.now
    → from.at < behind.at → rows_at job from ≡ lines ++ rows_at job behind → 0 < length lines
given_some job from behind [] some less same =
    let first = first-at job.search.kind job.search.text.now from some in
    absurd (⊎_elim
    (λ (there : behind.at < length job.search.text.now).
    let next = first-at job.search.kind job.search.text.now behind there in
    let one = head-is (sym first.1.1.0 ∙ same ∙ next.1.1.0) in
    let at = sym first.1.1.1 ∙ ap (λ (r : Row). r.offset) one ∙ next.1.1.1 in
    omega (arith, less, at))
    (λ (past : length job.search.text.now ≤ behind.at).
    let none = ap length (sym first.1.1.0 ∙ same ∙ lines-end job.search.kind job.search.text.now behind past) in
    omega (arith, none))
    (cases_lt behind.at (length job.search.text.now)))
given_some job from behind (row ∷ rows) some less same = omega arith

module _ (job : Job) where
  pub keeps-begun : (c : Course) → length job.search.text.now < 4294967295 → IsBegun job c → Keeps job c
  keeps-begun c short begun =
      let none : LineStart = record { at = 0; lines = 0 } in
      let start : IsStart job none = record { within = omega arith; few = omega arith; short = short } in
      let from = ap (λ (at : LineStart). at.lines) begun.from in
      let gap = ap (λ (at : LineStart). at.lines) begun.gap in
      record {
        from = subst (IsStart job) (sym begun.from) start;
        gap = subst (IsStart job) (sym begun.gap) start;
        ordered = omega (arith, from, gap);
        selected = omega (arith, begun.selected);
        errors = begun.errors;
      }

  pub ready-is : (c : Course) (list : Listed) (block : Lines) → Keeps job c → c.from.at < length job.search.text.now
      → Gives job.search.kind job.search.plan.now (patterns_in job.search.patterns.now) job.search.text.now c.from list
      block → IsReady job c block.reach.behind
  ready-is c list block keeps some gives = record {
    keeps = keeps;
    some = some;
    next =
        (let more = given_some job c.from block.reach.behind gives.tried.lines some gives.some gives.lines in
        omega (arith, more, gives.many));
  }

  -- how a scan ends behind its last context
  pub no-after : (shows : Show) (after n : ℕ) (ended : Ended) → shows ≢ show.Lines
      → early ≡ (if nat_le (lines_after shows after) n then early else ended_of ended)
  no-after show.Lines after n ended other = absurd (other refl)
  no-after show.Parts after n ended other = ap (λ b. if b then early else ended_of ended) (sym (le-leb 0 n (omega arith)))
  no-after show.Nothing after n ended other =
      ap (λ b. if b then early else ended_of ended) (sym (le-leb 0 n (omega arith)))

  pub rest-after : (shows : Show) (after : ℕ) (rows lines : List Row) (name text : List ℕ)
      → rest_out job.search.plan.now name text lines job.has_shown shows false (take after rows)
      ≡ rest_out job.search.plan.now name text lines job.has_shown shows false (take (lines_after shows after) rows)
  rest-after show.Lines after rows lines name text = refl
  rest-after show.Parts after rows lines name text = refl
  rest-after show.Nothing after rows lines name text = refl

module _ (job : Job) (finish : Finish) (old now : Course) (before mid : Printed) (gap : List Row)
    (left : Left job finish old now before mid gap) where
  abbrev s : BlockScan
  s = scan_at job finish old

  -- memory lacked in a search
  pub scans-lacks : (new : Course) → ScansTo job s old new before mid (Err Memory)
  scans-lacks new =
      left-breaks job finish (Memory ≡ SinkFault) [] [] _ _ left refl refl
      (breaks-none [] [] mid (Memory ≡ SinkFault) memory-fault)

  -- the next block, where the searches gave it
  module _ (list : Listed) (block : Lines)
      (gives : Gives job.search.kind job.search.plan.now (patterns_in job.search.patterns.now) job.search.text.now
      now.from list block) where
    abbrev lines : IsGap job now.from block.reach.behind gives.tried.lines
    lines = record { lines = gives.lines; many = gives.many }

    pub more-left : (new : Course) (after : Printed)
        → TakesIt job gives.tried gap block.reach.behind now new mid after Block
        → (more : List Row) × Left job finish old new before after more
    more-left new after takes =
        left-more job finish left gives.tried block.reach.behind gives.blocks lines takes

    pub scans-stops : (new : Course) (after : Printed) (stop : Stop)
        → TakesBlock job gives.tried gap block.reach.behind now new mid after (Err stop)
        → ScansTo job s old new before after (Err stop)
    scans-stops new after TooManyErrors takes =
        left-last job finish left gives.tried block.reach.behind gives.blocks lines takes
    scans-stops new after SinkFault takes =
        left-cut job finish left gives.tried block.reach.behind gives.blocks lines (SinkFault ≡ SinkFault) takes
    scans-stops new after Memory takes =
        left-cut job finish left gives.tried block.reach.behind gives.blocks lines (Memory ≡ SinkFault) takes

    -- it is the last one that may be selected
    module _ (new : Course) (out0 out1 err : Kept)
        (takes : TakesIt job gives.tried gap block.reach.behind now new mid (printed out0 err) Context) where
      abbrev full : Full job finish left gives.tried block.reach.behind gives.blocks lines new (printed out0 err)
      full = left-full job finish left gives.tried block.reach.behind gives.blocks lines takes

      abbrev shown : List ℕ
      shown = shown_out job.search.plan.now job.name.now job.search.text.now (all_rows job) job.has_shown job.show
          (now.selected == 0) gap gives.tried

      abbrev said : List ℕ
      said = error_message job.name.now (tried_of gives.tried)

      abbrev behind_text : List ℕ
      behind_text = rest_out job.search.plan.now job.name.now job.search.text.now (all_rows job) job.has_shown job.show
          (new.selected == 0) (take job.search.plan.now.after_context (rows_at job new.gap))

      behind-is : behind_text ≡ rest_out job.search.plan.now job.name.now job.search.text.now (all_rows job)
          job.has_shown job.show false
          (take (lines_after job.show job.search.plan.now.after_context) (rows_at job block.reach.behind))
      behind-is =
          (λ i. rest_out job.search.plan.now job.name.now job.search.text.now (all_rows job) job.has_shown job.show
          (later i) (take job.search.plan.now.after_context (rows_at job (at i))))
          ∙ rest-after job job.show job.search.plan.now.after_context (rows_at job block.reach.behind) (all_rows job)
          job.name.now job.search.text.now
        where
          later : (new.selected == 0) ≡ false
          later = ap (λ (c : Course). c.selected == 0) full.stands ∙ ne_eqb (now.selected + 1) 0 (omega arith)

          at : new.gap ≡ block.reach.behind
          at = ap (λ (c : Course). c.gap) full.stands

      pub full-cut : (fault : IoError) → Writes {T = Unit {0}} behind_text out0 out1 (Err fault)
          → ScansTo job s old new before (printed out1 err) (Err (stop_of fault))
      full-cut fault w = cut fault
          (left-breaks job finish (stop_of fault ≡ SinkFault) (shown ++ behind_text) said [] [] left
          (full.out ∙ ap (λ l. shown ++ l) (sym behind-is) ∙ sym (append-nil (shown ++ behind_text)))
          (full.err ∙ sym (append-nil said))
          (subst (λ l. Breaks (shown ++ behind_text) l mid (printed out1 err) (stop_of fault ≡ SinkFault))
          (append-nil said)
          (wrote-breaks shown said behind_text [] full.wrote (stop_of fault ≡ SinkFault)
          (breaks-out behind_text [] out0 out1 err fault (stop_of fault ≡ SinkFault) (told-by fault) w))))
        where
          cut : (fault : IoError) → Breaks (out_at job (old.selected == 0) [] s) (errors_at job s) before
              (printed out1 err) (stop_of fault ≡ SinkFault)
              → ScansTo job s old new before (printed out1 err) (Err (stop_of fault))
          cut io.Failed h = h
          cut io.Memory h = h

      pub full-ends : (u : Unit {0}) (ended : Ended) → Writes behind_text out0 out1 (Ok u)
          → ended_of job.finish ≡ at_finish finish
          → ended_of ended ≡ (if nat_le (lines_after job.show job.search.plan.now.after_context)
          (length (rows_at job new.from)) then early else ended_of job.finish)
          → ScansTo job s old new before (printed out1 err) (Ok ended)
      full-ends u ended w finishes ends = (
        left-done job finish (shown ++ behind_text) said left (full.out ∙ ap (λ l. shown ++ l) (sym behind-is)) full.err
            (subst (λ l. Wrote (shown ++ behind_text) l mid (printed out1 err)) (append-nil said)
            (wrote-more shown said behind_text [] full.wrote (wrote-out behind_text out0 out1 err u w)))
            full.selected full.errors,
        full.ended
            ∙ (λ i. if nat_le (lines_after job.show job.search.plan.now.after_context)
            (length (rows_at job (ap (λ (c : Course). c.from) (sym full.stands) i))) then early else sym finishes i)
            ∙ sym ends,
      )

  -- no block is left
  module _ (past : length job.search.text.now ≤ now.from.at) (out0 out1 err : Kept) (is : mid ≡ printed out0 err) where
    abbrev rest_text : List ℕ
    rest_text = rest_out job.search.plan.now job.name.now job.search.text.now (all_rows job) job.has_shown job.show
        (now.selected == 0) (take (now.from.lines - now.gap.lines) (rows_at job now.gap))

    pub done-cut : (new : Course) (fault : IoError) → Writes {T = Unit {0}} rest_text out0 out1 (Err fault)
        → ScansTo job s old new before (printed out1 err) (Err (stop_of fault))
    done-cut new fault w = cut fault
        (left-breaks job finish (stop_of fault ≡ SinkFault) rest_text [] [] [] left
        (done-out job finish left past ∙ sym (append-nil rest_text)) (done-err job finish left past)
        (subst (λ p. Breaks rest_text [] p (printed out1 err) (stop_of fault ≡ SinkFault)) (sym is)
        (breaks-out rest_text [] out0 out1 err fault (stop_of fault ≡ SinkFault) (told-by fault) w)))
      where
        cut : (fault : IoError) → Breaks (out_at job (old.selected == 0) [] s) (errors_at job s) before
            (printed out1 err) (stop_of fault ≡ SinkFault)
            → ScansTo job s old new before (printed out1 err) (Err (stop_of fault))
        cut io.Failed h = h
        cut io.Memory h = h

    pub done-ends : (u : Unit {0}) → Writes rest_text out0 out1 (Ok u) → ended_of job.finish ≡ at_finish finish
        → ScansTo job s old now before (printed out1 err) (Ok job.finish)
    done-ends u w finishes = (
      left-done job finish rest_text [] left (done-out job finish left past) (done-err job finish left past)
          (subst (λ p. Wrote rest_text [] p (printed out1 err)) (sym is) (wrote-out rest_text out0 out1 err u w))
          (done-selected job finish left past) (done-errors job finish left past),
      done-ended job finish left past ∙ sym finishes,
    )

-- the numbers behind a block
pub keeps-more : (job : Job) (b : TriedBlock) (gap : List Row) (behind : LineStart) (now new : Course)
    (before after : Printed) (next : Next) → Keeps job now → IsStart job behind → now.from.lines < behind.lines
    → TakesIt job b gap behind now new before after next → Keeps job new
keeps-more job b gap behind now new before after next keeps start less takes =
    let chosen = is_selected job.search.plan.now (tried_of b) in
    let error = has_error (tried_of b) in
    let fits : Keeps job (record {
      from = behind;
      gap = if chosen then behind else now.gap;
      selected = if chosen then now.selected + 1 else now.selected;
      errors = if error then now.errors + 1 else now.errors;
    }) = record {
      from = start;
      gap = cond_both chosen behind now.gap (λ at. IsStart job at) (λ e. start) (λ e. keeps.gap);
      ordered = cond_both chosen behind now.gap (λ (at : LineStart). at.lines ≤ behind.lines) (λ e. omega arith)
          (λ e. omega (arith, keeps.ordered, less));
      selected = cond_both chosen (now.selected + 1) now.selected (λ n. n ≤ behind.lines)
          (λ e. omega (arith, keeps.selected, less)) (λ e. omega (arith, keeps.selected, less));
      errors = cond_both error (now.errors + 1) now.errors (λ n. n ≤ 20)
          (λ e. (let few = leb-false 20 now.errors (ap (λ t. t && nat_le 20 now.errors) (sym e) ∙ takes.errors) in
          omega (arith, few)))
          (λ e. keeps.errors);
    } in
    subst (Keeps job) (sym takes.stands) fits

pub is-block : (next : Next) → next ≢ Context → next ≡ Block
is-block Block other = refl
is-block Context other = absurd (other refl)
