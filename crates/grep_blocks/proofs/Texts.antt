-- What is written of a text that is held, from its scan on.
use Rattle.std.proofs.Common.{◌≡◌, ◌≢◌, ◌∙◌, ℕ, ◌+◌, Bool, true, false, ◌&&◌, ◌||◌, List, [], ◌++◌, length, flat_map, Option}
use Rattle.std.proofs.Common.{Result, Ok, Err, refl, sym, ap, subst, append-nil, codes}
use Rattle.std.specs.Prelude.{nat_lt, if◌then◌else◌}
use Rattle.pcre_io.specs.Told.{Kept}
use Rattle.pcre_io.specs.declared.traits.IoError.{IoError}
use Rattle.pcre_io.specs.declared.traits.IoError.TheVariants as io
use Rattle.byte_lanes.specs.declared.line_end.EndKind.{EndKind}
use Rattle.line_feed.specs.Rows.{Input, Ending, Finish, At, End, Fault, Limit, input_with}
use Rattle.grep_args.specs.declared.plan.GrepPlan.{GrepPlan}
use Rattle.pat_tree.specs.Pattern.{Pattern}
use Rattle.grep_multi.specs.grep_match.declared.modes.Mode.{Mode}
use Rattle.grep_multi.specs.grep_match.Compiled.{patterns_in}
use Rattle.grep_multi.specs.grep_match.Modes.{mode}
use Rattle.grep_multi.specs.grep_match.PatternTexts.{line_end}
use Rattle.grep_multi.specs.Blocks.{blocks_in}
use Rattle.grep_multi.specs.Given.{lines_at}
use Rattle.grep_multi.specs.Held.{held_by, is_fault}
use Rattle.grep_output.specs.declared.ended.Ended.{Ended}
use Rattle.grep_output.specs.declared.ended.Ended.TheVariants as told
use Rattle.grep_output.specs.declared.ended.FileEnd.{FileEnd}
use Rattle.grep_output.specs.declared.ended.Stop.{Stop}
use Rattle.grep_output.specs.declared.ended.Stop.TheVariants.{SinkFault, TooManyErrors, Memory}
use Rattle.grep_output.specs.declared.shows.Show.{Show}
use Rattle.grep_output.specs.declared.shows.Treatment.{Treatment}
use Rattle.grep_output.specs.declared.shows.Treatment.TheVariants.{AsText, AsBinary, Skipped}
use Rattle.grep_output.specs.declared.state.State.{State}
use Rattle.grep_output.specs.Course.{is_lines}
use Rattle.grep_output.specs.Ends.{ended_of, stop_of}
use Rattle.grep_output.specs.InputText.{Written, end_out}
use Rattle.grep_output.specs.Lines.{treatment}
use Rattle.grep_output.specs.Messages.{ended_message, error_message, message}
use Rattle.grep_output.specs.Scans as meant
use Rattle.grep_output.specs.Scans.{at_finish, early, too_many_errors}
use Rattle.grep_output.specs.Shows.{greatest_selected, is_told, lines_after, most_selected, show_in, tells_binary}
use Rattle.grep_core.specs.OneInput.{GrepsAll, GrepsTo, WritesBoth}
use Rattle.tool_io.specs.Prints.{Wrote, Breaks}
use Rattle.tool_io.specs.Printed.{Printed, printed}
use Rattle.tool_io.specs.Writes.{Writes}
use Rattle.tool_io.proofs.Printing.{breaks-err, wrote-breaks, wrote-err, wrote-more}
use Rattle.tool_io.proofs.Writing.{prefix-front}
use Rattle.grep_blocks.specs.declared.job.Job.{Job}
use Rattle.grep_blocks.specs.BlockScan.{BlockScan, scan_from, selected_in, errors_in, tried_of}
use Rattle.grep_blocks.specs.BlockText as text
use Rattle.grep_blocks.specs.BlockText.{block_text, out_from, out_by, text_out, written_by}
use Rattle.grep_blocks.specs.Scanned.{Counts, CountsTo, errors_at, out_at, scan_by, state_after}
use Rattle.grep_blocks.proofs.Turning.{told-by}

-- a job is made for an input
pub record Made (plan : GrepPlan) (patterns : List Pattern) (name bytes : List ℕ) (s : State) (input : Input)
    (treated : Treatment) (job : Job) : Type 0 where
  pub plan_is : job.search.plan.now ≡ plan
  pub patterns_is : patterns_in job.search.patterns.now ≡ patterns
  pub name_is : job.name.now ≡ name
  pub text_is : job.search.text.now ≡ bytes
  pub bytes_is : bytes ≡ held_by (line_end plan) input.bytes input.ending
  pub kind_is : job.search.kind ≡ line_end plan
  pub has_is : job.has_shown ≡ s.has_shown
  pub treated_is : treated ≡ treatment plan (input_with bytes input.ending)
  pub show_is : job.show ≡ show_in (is_told plan treated) (mode plan)
  pub most_is : job.most ≡ greatest_selected plan treated

module _ (plan : GrepPlan) (patterns : List Pattern) (name bytes : List ℕ) (s : State) (input : Input)
    (treated : Treatment) (job : Job) (made : Made plan patterns name bytes s input treated job) where
  abbrev finish : Finish
  finish = At input.ending

  abbrev is_binary_told : Bool
  is_binary_told = is_told plan treated

  abbrev shows : Show
  shows = show_in is_binary_told (mode plan)

  abbrev found : BlockScan
  found = text.scan plan patterns name s input.bytes bytes finish treated

  abbrev written : Written
  written = written_by plan patterns name s input.bytes bytes finish is_binary_told found

  -- it is what is meant
  pub text-is : written ≡ block_text plan patterns name s input
  unfolding block_text
  text-is =
      (λ i. written_by plan patterns name s input.bytes bytes finish (is_told plan (made.treated_is i))
      (text.scan plan patterns name s input.bytes bytes finish (made.treated_is i)))
      ∙ (λ i. written_by plan patterns name s input.bytes (made.bytes_is i) finish
      (is_told plan (treatment plan (input_with (made.bytes_is i) input.ending)))
      (text.scan plan patterns name s input.bytes (made.bytes_is i) finish
      (treatment plan (input_with (made.bytes_is i) input.ending))))

  -- the scan
  scan_with : GrepPlan → List Pattern → List ℕ → EndKind → Show → Option ℕ → BlockScan
  scan_with p ps t kind sh most =
      scan_from p most (lines_after sh p.after_context) finish s.errors 0
      (blocks_in p ps t (lines_at kind t (record { at = 0; lines = 0 })))

  scan-cases : (t : Treatment) → job.show ≡ show_in (is_told plan t) (mode plan) → job.most ≡ greatest_selected plan t
      → scan_by job finish t s ≡ text.scan plan patterns name s input.bytes bytes finish t
  unfolding scan_with
  scan-cases AsText sh most = λ i. scan_with (made.plan_is i) (made.patterns_is i) (made.text_is i) (made.kind_is i) (sh i) (most i)
  scan-cases AsBinary sh most = λ i. scan_with (made.plan_is i) (made.patterns_is i) (made.text_is i) (made.kind_is i) (sh i) (most i)
  scan-cases Skipped sh most = refl

  scan-is : scan_by job finish treated s ≡ found
  scan-is = scan-cases treated made.show_is made.most_is

  out-is : out_at job true [] found ≡ text_out plan patterns name s input.bytes bytes finish shows found
  out-is = λ i. out_from (made.plan_is i) (made.name_is i) (made.text_is i)
      (lines_at (made.kind_is i) (made.text_is i) (record { at = 0; lines = 0 })) (made.has_is i) (made.show_is i)
      found.following true [] found.within

  abbrev errors : List ℕ
  errors = flat_map (λ b. error_message name (tried_of b)) found.tried

  errors-is : errors_at job found ≡ errors
  errors-is = ap (λ (n : List ℕ). flat_map (λ b. error_message n (tried_of b)) found.tried) made.name_is

  state-is : state_after job s found ≡ written.state
  state-is = λ i. record {
    errors = s.errors + length (errors_in found);
    total = s.total + length (selected_in (made.plan_is i) found);
    has_shown = s.has_shown || is_lines (made.show_is i) && nat_lt 0 (length (selected_in (made.plan_is i) found));
  }

  abbrev shown : List ℕ
  shown = text_out plan patterns name s input.bytes bytes finish shows found

  abbrev out_with : meant.Ended → List ℕ
  out_with ended = out_by plan patterns name s input.bytes bytes finish is_binary_told found ended

  abbrev told_out : ℕ → List ℕ
  told_out n = end_out plan name (mode plan) is_binary_told n

  out-ended : (ended : Ended)
      → out_with (ended_of ended) ≡ shown ++ told_out (length (selected_in plan found))
  out-ended told.End = refl
  out-ended told.Early = refl
  out-ended told.ReadFault = refl
  out-ended (told.TooLong line) = refl
  out-ended told.TooMuch = refl

  out-front : (ended : meant.Ended) → (more : List ℕ) × (out_with ended ≡ shown ++ more)
  out-front (at_finish f) = (_, refl)
  out-front early = (_, refl)
  out-front too_many_errors = ([], sym (append-nil shown))

  counted : (s_new : State) (old new : Printed) (r : Result FileEnd Stop)
      → CountsTo job (scan_by job finish treated s) s s_new old new r → CountsTo job found s s_new old new r
  counted s_new old new r h = subst (λ x. CountsTo job x s s_new old new r) scan-is h

  wrote-is : {old new : Printed} → Wrote (out_at job true [] found) (errors_at job found) old new
      → Wrote shown errors old new
  wrote-is {old} {new} w = subst (λ l. Wrote l errors old new) out-is
      (subst (λ l. Wrote (out_at job true [] found) l old new) errors-is w)

  -- all was written
  pub greps-all : (s_new : State) (old mid new : Printed) (end : FileEnd)
      → CountsTo job (scan_by job finish treated s) s s_new old mid (Ok end)
      → Wrote (told_out end.selected) (ended_message plan.no_messages name (ended_of end.ended)) mid new
      → GrepsAll written s_new old new end
  greps-all s_new old mid new end h w =
      let c = counted s_new old mid (Ok end) h in
      let count : end.selected ≡ length (selected_in plan found) =
      c.1 ∙ ap (λ (p : GrepPlan). length (selected_in p found)) made.plan_is in
      record {
        wrote = subst (λ l. Wrote l written.err old new)
            (ap (λ n. shown ++ told_out n) count ∙ sym (out-ended end.ended) ∙ ap out_with (sym c.2))
            (subst (λ l. Wrote (shown ++ told_out end.selected) l old new)
            (ap (λ e. errors ++ ended_message plan.no_messages name e) (sym c.2))
            (wrote-more shown errors (told_out end.selected)
            (ended_message plan.no_messages name (ended_of end.ended)) (wrote-is c.0.wrote) w));
        selected = count;
        ended = c.2;
        state = c.0.state ∙ state-is;
      }

  to-stop : (s_new : State) (old new : Printed) (fault : IoError)
      → Breaks written.out written.err old new (stop_of fault ≡ SinkFault)
      → GrepsTo written s_new old new (Err (stop_of fault))
  to-stop s_new old new io.Failed h = h
  to-stop s_new old new io.Memory h = h

  -- what is told at the end was refused
  pub greps-untold : (s_new : State) (old mid new : Printed) (end : FileEnd) (fault : IoError)
      → CountsTo job (scan_by job finish treated s) s s_new old mid (Ok end)
      → Breaks (told_out end.selected) (ended_message plan.no_messages name (ended_of end.ended)) mid new
      (stop_of fault ≡ SinkFault)
      → GrepsTo written s_new old new (Err (stop_of fault))
  greps-untold s_new old mid new end fault h b =
      let c = counted s_new old mid (Ok end) h in
      let count : end.selected ≡ length (selected_in plan found) =
      c.1 ∙ ap (λ (p : GrepPlan). length (selected_in p found)) made.plan_is in
      to-stop s_new old new fault
      (subst (λ l. Breaks l written.err old new (stop_of fault ≡ SinkFault))
      (ap (λ n. shown ++ told_out n) count ∙ sym (out-ended end.ended) ∙ ap out_with (sym c.2))
      (subst (λ l. Breaks (shown ++ told_out end.selected) l old new (stop_of fault ≡ SinkFault))
      (ap (λ e. errors ++ ended_message plan.no_messages name e) (sym c.2))
      (wrote-breaks shown errors (told_out end.selected) (ended_message plan.no_messages name (ended_of end.ended))
      (wrote-is c.0.wrote) (stop_of fault ≡ SinkFault) b)))

  -- there were too many match errors
  pub greps-many : (s_new : State) (old : Printed) (out err0 err1 : Kept) (u : Unit {0})
      → CountsTo job (scan_by job finish treated s) s s_new old (printed out err0) (Err TooManyErrors)
      → Writes (message (codes "too many match errors")) err0 err1 (Ok u)
      → GrepsTo written s_new old (printed out err1) (Err TooManyErrors)
  greps-many s_new old out err0 err1 u h w =
      let c = counted s_new old (printed out err0) (Err TooManyErrors) h in (
        subst (λ l. Wrote l written.err old (printed out err1)) (append-nil shown ∙ ap out_with (sym c.1))
            (subst (λ l. Wrote (shown ++ []) l old (printed out err1))
            (ap (λ e. errors ++ ended_message plan.no_messages name e) (sym c.1))
            (wrote-more shown errors [] (message (codes "too many match errors")) (wrote-is c.0.wrote)
            (wrote-err (message (codes "too many match errors")) out err0 err1 u w))),
        c.1,
        c.0.state ∙ state-is,
      )

  pub greps-unsaid : (s_new : State) (old : Printed) (out err0 err1 : Kept) (fault : IoError)
      → CountsTo job (scan_by job finish treated s) s s_new old (printed out err0) (Err TooManyErrors)
      → Writes {T = Unit {0}} (message (codes "too many match errors")) err0 err1 (Err fault)
      → GrepsTo written s_new old (printed out err1) (Err (stop_of fault))
  greps-unsaid s_new old out err0 err1 fault h w =
      let c = counted s_new old (printed out err0) (Err TooManyErrors) h in
      to-stop s_new old (printed out err1) fault
      (subst (λ l. Breaks l written.err old (printed out err1) (stop_of fault ≡ SinkFault))
      (append-nil shown ∙ ap out_with (sym c.1))
      (subst (λ l. Breaks (shown ++ []) l old (printed out err1) (stop_of fault ≡ SinkFault))
      (ap (λ e. errors ++ ended_message plan.no_messages name e) (sym c.1))
      (wrote-breaks shown errors [] (message (codes "too many match errors")) (wrote-is c.0.wrote)
      (stop_of fault ≡ SinkFault)
      (breaks-err [] (message (codes "too many match errors")) out err0 err1 fault (stop_of fault ≡ SinkFault)
      (told-by fault) w))))

  -- the scan was cut off
  pub greps-cut : (s_new : State) (old new : Printed) (is_refused : Type 0)
      → Breaks (out_at job true [] (scan_by job finish treated s)) (errors_at job (scan_by job finish treated s)) old new
      is_refused
      → Breaks written.out written.err old new is_refused
  greps-cut s_new old new is_refused h =
      let more = out-front found.ended in
      let b = subst (λ l. Breaks l errors old new is_refused) out-is
      (subst (λ l. Breaks (out_at job true [] found) l old new is_refused) errors-is
      (subst (λ x. Breaks (out_at job true [] x) (errors_at job x) old new is_refused) scan-is h)) in
      subst (λ l. Breaks l written.err old new is_refused) (sym more.1)
      (record {
        out = prefix-front old.out.held new.out.held shown more.0 b.out;
        err = prefix-front old.err.held new.err.held errors (ended_message plan.no_messages name found.ended) b.err;
        cause = b.cause;
        steady = b.steady;
      })

pub ending-is : (e : Ending) → e ≢ Limit → (if is_fault e then Fault else End) ≡ e
ending-is End other = refl
ending-is Fault other = refl
ending-is Limit other = absurd (other refl)
