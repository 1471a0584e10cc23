use Rattle.std.proofs.Common.{◌≡◌, ◌+◌, Err, sym, ap, subst, ◌∙◌, arith, rules, SFits, w32}
use Rattle.std.proofs.lemmas.Int.{to_z-of_z}
use Rattle.grep_core.specs.Work.{work_of, progress}
use Rattle.grep_core.specs.Turns.{TakesLine}
use Rattle.tool_io.proofs.Printing.{wrote-of}
use Rattle.grep_core.proofs.Halting.{takes-last, error-refused, error-takes}
use Rattle.grep_core.proofs.lines.take_error.Goals as goal
use Rattle.tool_io.specs.Printed.{printed}

pub returns-then-state-ge-MANY_ERRORS : goal.returns-then-state-ge-MANY_ERRORS
returns-then-state-ge-MANY_ERRORS g c t same is =
    let fits : SFits w32 c.args.error = search rules in
    takes-last _ _ _ _ t c.args.error _ _ _ is c.requires.few c.if-state-ge-MANY_ERRORS.true
    (wrote-of _ _ _ _ (c.in_ok-write_error.ensures t (search rules)
    (is ∙ ap Err (sym (to_z-of_z w32 c.args.error fits)))))

pub returns-in_err-pass : goal.returns-in_err-pass
returns-in_err-pass g c t same is =
    let fits : SFits w32 c.args.error = search rules in
    let job = c.args.job.now in
    let stop = c.in_err-pass.field-0.0 in
    let refused : c.from_residual-in_err-pass.result ≡ Err stop = search rules in
    subst
    (TakesLine (work_of job) job.most t (progress c.args.course.now c.args.state.now
    (printed (g.O.Sink.tells c.args.out.now) (g.E.Sink.tells c.args.err.now)))
    (progress c.pass.new.course (record {
      errors = c.args.state.now.errors + 1;
      total = c.args.state.now.total;
      has_shown = c.args.state.now.has_shown;
    })
    (printed (g.O.Sink.tells c.pass.new.out) (g.E.Sink.tells c.write_error.new.err))))
    (sym refused)
    (error-refused (work_of job) job.most c.args.course.now c.pass.new.course c.args.state.now t c.args.error
    (g.O.Sink.tells c.args.out.now) (g.O.Sink.tells c.pass.new.out) (g.E.Sink.tells c.args.err.now)
    (g.E.Sink.tells c.write_error.new.err) stop is (omega arith)
    (wrote-of _ _ _ _ (c.in_ok-write_error.ensures t (search rules)
    (is ∙ ap Err (sym (to_z-of_z w32 c.args.error fits)))))
    (c.in_err-pass.ensures t c.args.state.now (g.E.Sink.tells c.args.err.now) same))

pub returns : goal.returns
returns g c t same is =
    let fits : SFits w32 c.args.error = search rules in
    error-takes _ _ _ _ _ t c.args.error _ _ _ _ is (omega arith)
    (wrote-of _ _ _ _ (c.in_ok-write_error.ensures t (search rules)
    (is ∙ ap Err (sym (to_z-of_z w32 c.args.error fits)))))
    (c.in_ok-pass.ensures t c.args.state.now (g.E.Sink.tells c.args.err.now) same)
