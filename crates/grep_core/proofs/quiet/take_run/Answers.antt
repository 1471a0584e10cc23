use Rattle.std.proofs.Common.{◌≡◌, ◌+◌, true, Err, take, refl, sym, ap, subst, ◌∙◌, rules, append-nil}
use Rattle.line_feed.specs.View.{Feed}
use Rattle.tool_io.specs.Writes.{WritesAll}
use Rattle.tool_io.specs.Printed.{printed}
use Rattle.tool_io.proofs.Printing.{wrote-of}
use Rattle.grep_match.specs.Compiled.{patterns_in}
use Rattle.grep_output.specs.Ends.{stop_of}
use Rattle.grep_output.specs.declared.state.State.{State}
use Rattle.grep_core.specs.declared.lines.Course.{Course}
use Rattle.grep_core.specs.Turns.{Halts}
use Rattle.grep_core.specs.Work.{work_of, progress}
use Rattle.grep_core.specs.Ahead.{TakesRun, TakesAhead}
use Rattle.grep_core.proofs.Halting.{halts-of}
use Rattle.grep_core.proofs.Runs.{ahead-none, run-ahead, run-halts}
use Rattle.grep_core.proofs.quiet.take_run.Goals as goal

pub returns-then-not-prints_unmatched-clause-taken : goal.returns-then-not-prints_unmatched-clause-taken
returns-then-not-prints_unmatched-clause-taken g c = λ err. ahead-none _ _ _ _

pub returns-in_default-clause-taken : goal.returns-in_default-clause-taken
returns-in_default-clause-taken g c = λ err. ahead-none _ _ _ _

pub returns-in_err-write_texts-clause-taken : goal.returns-in_err-write_texts-clause-taken
returns-in_err-write_texts-clause-taken g c = λ err.
    let job = c.args.job.now in
    let feed = c.args.feed.now in
    let run = c.in-Some.run' in
    let old = g.O.Sink.tells c.args.out.now in
    let new = g.O.Sink.tells c.write_texts.new.out in
    let e = c.in_err-write_texts.field-0.0 in
    let is : c.from_residual.result ≡ Err (stop_of e) = search rules in
    let quiet = c.in-Some.ensures.run job.plan.now (patterns_in job.patterns.now) c.requires.watch in
    let prints = c.prints_unmatched.ensures c.if-not-prints_unmatched.false in
    let text = append-nil (take run.bytes c.held.result.now) ∙ ap (λ l. take run.bytes l) c.held.ensures in
    subst (TakesRun (work_of job) job.most feed feed (progress c.args.course.now c.args.state.now (printed old err))
    (progress c.args.course.now c.args.state.now (printed new err))) (sym is)
    (run-halts (work_of job) job.most c.run.new.self feed run c.args.course.now c.args.state.now old err quiet prints
    c.requires.errors feed new (stop_of e)
    (subst (λ l. Halts l old new (stop_of e)) text (halts-of _ old new e c.in_err-write_texts.ensures)))

pub returns-clause-taken : goal.returns-clause-taken
returns-clause-taken g c = λ err.
    let job = c.args.job.now in
    let feed = c.args.feed.now in
    let run = c.in-Some.run' in
    let old = g.O.Sink.tells c.args.out.now in
    let new = g.O.Sink.tells c.write_texts.new.out in
    let quiet = c.in-Some.ensures.run job.plan.now (patterns_in job.patterns.now) c.requires.watch in
    let prints = c.prints_unmatched.ensures c.if-not-prints_unmatched.false in
    let text = append-nil (take run.bytes c.held.result.now) ∙ ap (λ l. take run.bytes l) c.held.ensures in
    let course : Course = record {
      selected = c.args.course.now.selected + run.rows;
      context_to = c.number-course.result;
      earlier = c.args.course.now.earlier;
    } in
    let state : State = record c.args.state.now { has_shown = true } in
    subst (λ (x : Feed). TakesAhead (work_of job) job.most feed x
    (progress c.args.course.now c.args.state.now (printed old err)) (progress course state (printed new err)))
    (sym c.skip.ensures)
    (run-ahead (work_of job) job.most c.run.new.self feed run c.args.course.now c.args.state.now old err quiet prints
    c.requires.errors course state new
    (subst (λ l. WritesAll l old new) text (wrote-of _ old new _ c.in_ok-write_texts.ensures))
    refl (c.number-course.ensures ∙ ap (λ (x : Feed). x.number) c.skip.ensures) refl refl)
