use Rattle.std.proofs.Common.{◌≡◌, ◌∙◌, Ok, Err, refl, sym, ap, subst, rules}
use Rattle.std.specs.Prelude.{if◌then◌else◌}
use Rattle.line_feed.specs.Rows.{Input, At, End, Fault}
use Rattle.grep_multi.specs.grep_match.Compiled.{patterns_in}
use Rattle.grep_multi.specs.grep_match.Modes.{mode}
use Rattle.grep_multi.specs.grep_match.PatternTexts.{line_end}
use Rattle.grep_multi.specs.Held.{Holds}
use Rattle.grep_output.specs.declared.ended.Stop.TheVariants.{SinkFault, TooManyErrors, Memory}
use Rattle.grep_output.specs.Ends.{ended_of, stop_of}
use Rattle.grep_output.specs.InputText.{end_out}
use Rattle.grep_output.specs.Lines.{treatment_by}
use Rattle.grep_output.specs.Messages.{ended_message}
use Rattle.grep_output.specs.Scans.{at_finish}
use Rattle.grep_output.specs.Shows.{is_told, most_selected, show_in, tells_binary}
use Rattle.grep_core.specs.OneInput.{GrepsAll, GrepsTo}
use Rattle.tool_io.specs.Prints.{Wrote, Breaks}
use Rattle.tool_io.specs.Printed.{printed}
use Rattle.grep_blocks.specs.declared.job.Job.{Job}
use Rattle.grep_blocks.specs.Scanned.{CountsTo, scan_by}
use Rattle.grep_blocks.proofs.Texts.{Made, ending-is, greps-all, greps-cut, greps-many, greps-unsaid, greps-untold}
use Rattle.grep_blocks.proofs.Texts.{text-is}
use Rattle.grep_blocks.proofs.text.grep_text.Given as given
use Rattle.grep_blocks.proofs.text.grep_text.Goals.{After-scan_as}
use Rattle.grep_blocks.proofs.text.grep_text.Goals as goal

the_job : (g : given.Over) (c : After-scan_as g) → Job
the_job g c = record {
  search = c.new.result;
  name = c.args.name;
  has_shown = c.args.state.now.has_shown;
  show = c.show_in.result;
  most = c.most_selected.result;
  finish = c.finish_of.result;
}

told-is : (g : given.Over) (c : After-scan_as g)
    → c.tells_binary-is_told.result ≡ is_told c.args.plan.now c.treatment_by-treatment.result
told-is g c = c.tells_binary-is_told.ensures ∙ ap (tells_binary c.treatment_by-treatment.result) c.mode_of-mode.ensures

made : (g : given.Over) (c : After-scan_as g) (input : Input) → Holds (line_end c.args.plan.now) input c.args.held.now
    → Made c.args.plan.now (patterns_in c.args.patterns.now) c.args.name.now c.as_slice-text.result.now
    c.args.state.now input c.treatment_by-treatment.result (the_job g c)
unfolding the_job
made g c input holds = record {
  plan_is = c.new.ensures.plan;
  patterns_is = ap patterns_in c.new.ensures.patterns;
  name_is = refl;
  text_is = c.new.ensures.text;
  bytes_is = c.as_slice-text.ensures ∙ holds.text;
  kind_is = c.new.ensures.ready.kind ∙ ap line_end c.new.ensures.plan;
  has_is = refl;
  treated_is = c.treatment_by-treatment.ensures
      ∙ ap (λ b. treatment_by b c.args.plan.now.binary) (c.is_binary.ensures input.ending);
  show_is = c.show_in.ensures ∙ (λ i. show_in (told-is g c i) (c.mode_of-mode.ensures i));
  most_is = c.most_selected.ensures
      ∙ (λ i. most_selected (told-is g c i) (c.mode_of-mode.ensures i) c.args.plan.now.max_count);
}

counts : (g : given.Over) (c : After-scan_as g) (input : Input) → Holds (line_end c.args.plan.now) input c.args.held.now
    → CountsTo (the_job g c) (scan_by (the_job g c) (At input.ending) c.treatment_by-treatment.result c.args.state.now)
    c.args.state.now c.scan_as.new.state
    (printed (g.O.Sink.tells c.args.out.now) (g.E.Sink.tells c.args.err.now))
    (printed (g.O.Sink.tells c.scan_as.new.out) (g.E.Sink.tells c.scan_as.new.err)) c.scan_as.result
unfolding the_job
counts g c input holds =
    c.scan_as.ensures (At input.ending)
    (c.finish_of.ensures
    ∙ ap (λ b. at_finish (At (if b then Fault else End))) holds.faulted
    ∙ ap (λ e. at_finish (At e)) (ending-is input.ending holds.whole))

pub returns-in_ok-write_end-in-Ok : goal.returns-in_ok-write_end-in-Ok
unfolding the_job
returns-in_ok-write_end-in-Ok g c input holds =
    let x = (goal.at.returns-in_ok-write_end-in-Ok g c).After-scan_as in
    let plan = c.args.plan.now in
    let patterns = patterns_in c.args.patterns.now in
    let name = c.args.name.now in
    let bytes = c.as_slice-text.result.now in
    let s = c.args.state.now in
    let treated = c.treatment_by-treatment.result in
    let job = the_job g x in
    let m = made g x input holds in
    let old = printed (g.O.Sink.tells c.args.out.now) (g.E.Sink.tells c.args.err.now) in
    let mid = printed (g.O.Sink.tells c.scan_as.new.out) (g.E.Sink.tells c.scan_as.new.err) in
    let new = printed (g.O.Sink.tells c.write_end.new.out) (g.E.Sink.tells c.write_end.new.err) in
    subst (λ w. GrepsAll w c.scan_as.new.state old new c.in-Ok.end)
    (text-is plan patterns name bytes s input treated job m)
    (greps-all plan patterns name bytes s input treated job m c.scan_as.new.state old mid new c.in-Ok.end
    (subst (CountsTo job (scan_by job (At input.ending) treated s) s c.scan_as.new.state old mid) c.in-Ok.is
    (counts g x input holds))
    (subst (λ l. Wrote l (ended_message plan.no_messages name (ended_of c.in-Ok.end.ended)) mid new)
    (λ i. end_out plan name (c.mode_of-mode.ensures i) (told-is g x i) c.in-Ok.end.selected)
    c.in_ok-write_end-in-Ok.ensures))

pub returns-in_err-write_end-in-Ok : goal.returns-in_err-write_end-in-Ok
unfolding the_job
returns-in_err-write_end-in-Ok g c input holds =
    let x = (goal.at.returns-in_err-write_end-in-Ok g c).After-scan_as in
    let plan = c.args.plan.now in
    let patterns = patterns_in c.args.patterns.now in
    let name = c.args.name.now in
    let bytes = c.as_slice-text.result.now in
    let s = c.args.state.now in
    let treated = c.treatment_by-treatment.result in
    let job = the_job g x in
    let m = made g x input holds in
    let old = printed (g.O.Sink.tells c.args.out.now) (g.E.Sink.tells c.args.err.now) in
    let mid = printed (g.O.Sink.tells c.scan_as.new.out) (g.E.Sink.tells c.scan_as.new.err) in
    let new = printed (g.O.Sink.tells c.write_end.new.out) (g.E.Sink.tells c.write_end.new.err) in
    let fault = c.in_err-write_end-in-Ok.field-0.0 in
    let same : c.from_residual.result ≡ Err (stop_of fault) = search rules in
    subst (λ w. GrepsTo w c.scan_as.new.state old new c.from_residual.result)
    (text-is plan patterns name bytes s input treated job m)
    (subst (GrepsTo _ c.scan_as.new.state old new) (sym same)
    (greps-untold plan patterns name bytes s input treated job m c.scan_as.new.state old mid new c.in-Ok.end fault
    (subst (CountsTo job (scan_by job (At input.ending) treated s) s c.scan_as.new.state old mid) c.in-Ok.is
    (counts g x input holds))
    (subst (λ l. Breaks l (ended_message plan.no_messages name (ended_of c.in-Ok.end.ended)) mid new
    (stop_of fault ≡ SinkFault))
    (λ i. end_out plan name (c.mode_of-mode.ensures i) (told-is g x i) c.in-Ok.end.selected)
    c.in_err-write_end-in-Ok.ensures)))

pub returns-in_ok-write_too_many-in-Err-TooManyErrors : goal.returns-in_ok-write_too_many-in-Err-TooManyErrors
unfolding the_job
returns-in_ok-write_too_many-in-Err-TooManyErrors g c input holds =
    let x = (goal.at.returns-in_ok-write_too_many-in-Err-TooManyErrors g c).After-scan_as in
    let plan = c.args.plan.now in
    let patterns = patterns_in c.args.patterns.now in
    let name = c.args.name.now in
    let bytes = c.as_slice-text.result.now in
    let s = c.args.state.now in
    let treated = c.treatment_by-treatment.result in
    let job = the_job g x in
    let m = made g x input holds in
    let old = printed (g.O.Sink.tells c.args.out.now) (g.E.Sink.tells c.args.err.now) in
    let mid = printed (g.O.Sink.tells c.scan_as.new.out) (g.E.Sink.tells c.scan_as.new.err) in
    let new = printed (g.O.Sink.tells c.scan_as.new.out) (g.E.Sink.tells c.write_too_many.new.err) in
    subst (λ w. GrepsTo w c.scan_as.new.state old new (Err TooManyErrors))
    (text-is plan patterns name bytes s input treated job m)
    (greps-many plan patterns name bytes s input treated job m c.scan_as.new.state old _ _ _
    c.in_ok-write_too_many-in-Err-TooManyErrors.field-0
    (subst (CountsTo job (scan_by job (At input.ending) treated s) s c.scan_as.new.state old mid)
    (c.in-Err-TooManyErrors.is ∙ ap Err c.in-Err-TooManyErrors.field-0-is) (counts g x input holds))
    c.in_ok-write_too_many-in-Err-TooManyErrors.ensures)

pub returns-in_err-write_too_many-in-Err-TooManyErrors : goal.returns-in_err-write_too_many-in-Err-TooManyErrors
unfolding the_job
returns-in_err-write_too_many-in-Err-TooManyErrors g c input holds =
    let x = (goal.at.returns-in_err-write_too_many-in-Err-TooManyErrors g c).After-scan_as in
    let plan = c.args.plan.now in
    let patterns = patterns_in c.args.patterns.now in
    let name = c.args.name.now in
    let bytes = c.as_slice-text.result.now in
    let s = c.args.state.now in
    let treated = c.treatment_by-treatment.result in
    let job = the_job g x in
    let m = made g x input holds in
    let old = printed (g.O.Sink.tells c.args.out.now) (g.E.Sink.tells c.args.err.now) in
    let mid = printed (g.O.Sink.tells c.scan_as.new.out) (g.E.Sink.tells c.scan_as.new.err) in
    let new = printed (g.O.Sink.tells c.scan_as.new.out) (g.E.Sink.tells c.write_too_many.new.err) in
    let fault = c.in_err-write_too_many-in-Err-TooManyErrors.field-0.0 in
    let result = c.from_residual-in_err-write_too_many-in-Err-TooManyErrors.result in
    let same : result ≡ Err (stop_of fault) = search rules in
    subst (λ w. GrepsTo w c.scan_as.new.state old new result)
    (text-is plan patterns name bytes s input treated job m)
    (subst (GrepsTo _ c.scan_as.new.state old new) (sym same)
    (greps-unsaid plan patterns name bytes s input treated job m c.scan_as.new.state old _ _ _ fault
    (subst (CountsTo job (scan_by job (At input.ending) treated s) s c.scan_as.new.state old mid)
    (c.in-Err-TooManyErrors.is ∙ ap Err c.in-Err-TooManyErrors.field-0-is) (counts g x input holds))
    c.in_err-write_too_many-in-Err-TooManyErrors.ensures))

pub returns-in-Err-SinkFault : goal.returns-in-Err-SinkFault
unfolding the_job
returns-in-Err-SinkFault g c input holds =
    let x = (goal.at.returns-in-Err-SinkFault g c).After-scan_as in
    let plan = c.args.plan.now in
    let patterns = patterns_in c.args.patterns.now in
    let name = c.args.name.now in
    let bytes = c.as_slice-text.result.now in
    let s = c.args.state.now in
    let treated = c.treatment_by-treatment.result in
    let job = the_job g x in
    let m = made g x input holds in
    let old = printed (g.O.Sink.tells c.args.out.now) (g.E.Sink.tells c.args.err.now) in
    let mid = printed (g.O.Sink.tells c.scan_as.new.out) (g.E.Sink.tells c.scan_as.new.err) in
    subst (λ w. GrepsTo w c.scan_as.new.state old mid (Err SinkFault))
    (text-is plan patterns name bytes s input treated job m)
    (greps-cut plan patterns name bytes s input treated job m c.scan_as.new.state old mid (SinkFault ≡ SinkFault)
    (subst (CountsTo job (scan_by job (At input.ending) treated s) s c.scan_as.new.state old mid)
    (c.in-Err-SinkFault.is ∙ ap Err c.in-Err-SinkFault.field-0-is) (counts g x input holds)))

pub returns-in-Err-Memory : goal.returns-in-Err-Memory
unfolding the_job
returns-in-Err-Memory g c input holds =
    let x = (goal.at.returns-in-Err-Memory g c).After-scan_as in
    let plan = c.args.plan.now in
    let patterns = patterns_in c.args.patterns.now in
    let name = c.args.name.now in
    let bytes = c.as_slice-text.result.now in
    let s = c.args.state.now in
    let treated = c.treatment_by-treatment.result in
    let job = the_job g x in
    let m = made g x input holds in
    let old = printed (g.O.Sink.tells c.args.out.now) (g.E.Sink.tells c.args.err.now) in
    let mid = printed (g.O.Sink.tells c.scan_as.new.out) (g.E.Sink.tells c.scan_as.new.err) in
    subst (λ w. GrepsTo w c.scan_as.new.state old mid (Err Memory))
    (text-is plan patterns name bytes s input treated job m)
    (greps-cut plan patterns name bytes s input treated job m c.scan_as.new.state old mid (Memory ≡ SinkFault)
    (subst (CountsTo job (scan_by job (At input.ending) treated s) s c.scan_as.new.state old mid)
    (c.in-Err-Memory.is ∙ ap Err c.in-Err-Memory.field-0-is) (counts g x input holds)))
