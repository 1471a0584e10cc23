use Rattle.std.proofs.Common.{◌≡◌, ◌+◌, ◌-◌, ◌∙◌, Err, refl, sym, ap, subst, rules, arith, SFits, w32, ◌==◌}
use Rattle.std.proofs.lemmas.Int.{to_z-of_z}
use Rattle.grep_output.specs.Ends.{stop_of}
use Rattle.tool_io.specs.Printed.{printed}
use Rattle.tool_io.proofs.Writing.{writes-same}
use Rattle.grep_blocks.specs.BlockScan.{tried_of}
use Rattle.grep_blocks.specs.BlockText.{rest_out}
use Rattle.grep_blocks.specs.Steps.{TakesBlock, all_rows}
use Rattle.grep_blocks.proofs.Turning.{error-cut, gap-rows, last-cut, takes-error, takes-last}
use Rattle.grep_blocks.proofs.scan.take_error.Goals as goal

pub returns-in_err-write_error : goal.returns-in_err-write_error
returns-in_err-write_error g c b gap block rows is =
    let fits : SFits w32 c.args.error = search rules in
    let job = c.args.job.now in
    let fault = c.in_err-write_error.field-0.0 in
    let same : c.from_residual.result ≡ Err (stop_of fault) = search rules in
    subst (TakesBlock job b gap c.args.block.reach.behind c.args.course.now c.args.course.now
    (printed (g.O.Sink.tells c.args.out.now) (g.E.Sink.tells c.args.err.now))
    (printed (g.O.Sink.tells c.args.out.now) (g.E.Sink.tells c.write_error.new.err))) (sym same)
    (error-cut job b gap c.args.block.reach.behind c.args.course.now _ is _ _ _ _ fault
    (c.in_err-write_error.ensures (tried_of b) block.number
    (is ∙ ap Err (sym (to_z-of_z w32 c.args.error fits)))))

pub returns-in_err-write_behind : goal.returns-in_err-write_behind
returns-in_err-write_behind g c b gap block rows is =
    let fits : SFits w32 c.args.error = search rules in
    let job = c.args.job.now in
    let course = c.args.course.now in
    let fault = c.in_err-write_behind.field-0.0 in
    let same : c.from_residual-in_err-write_behind.result ≡ Err (stop_of fault) = search rules in
    subst (TakesBlock job b gap c.args.block.reach.behind course (record course { errors = course.errors + 1 })
    (printed (g.O.Sink.tells c.args.out.now) (g.E.Sink.tells c.args.err.now))
    (printed (g.O.Sink.tells c.write_behind.new.out) (g.E.Sink.tells c.write_error.new.err))) (sym same)
    (last-cut job b gap c.args.block.reach.behind course _ is (omega arith) _ _ _ _ _ c.in_ok-write_error.field-0 fault
    (c.in_ok-write_error.ensures (tried_of b) block.number
    (is ∙ ap Err (sym (to_z-of_z w32 c.args.error fits))))
    (writes-same
    (ap (rest_out job.search.plan.now job.name.now job.search.text.now (all_rows job) job.has_shown job.show
    (course.selected == 0)) (gap-rows job course.gap course.from gap rows))
    c.in_err-write_behind.ensures))

pub returns-then-course-ge-MANY_ERRORS : goal.returns-then-course-ge-MANY_ERRORS
returns-then-course-ge-MANY_ERRORS g c b gap block rows is =
    let fits : SFits w32 c.args.error = search rules in
    let job = c.args.job.now in
    let course = c.args.course.now in
    takes-last job b gap c.args.block.reach.behind course _ is (omega arith) _ _ _ _ c.in_ok-write_error.field-0
    c.in_ok-write_behind.field-0
    (c.in_ok-write_error.ensures (tried_of b) block.number
    (is ∙ ap Err (sym (to_z-of_z w32 c.args.error fits))))
    (writes-same
    (ap (rest_out job.search.plan.now job.name.now job.search.text.now (all_rows job) job.has_shown job.show
    (course.selected == 0)) (gap-rows job course.gap course.from gap rows))
    c.in_ok-write_behind.ensures)

pub returns : goal.returns
returns g c b gap block rows is =
    let fits : SFits w32 c.args.error = search rules in
    let job = c.args.job.now in
    takes-error job b gap c.args.block.reach.behind c.args.course.now _ is _ _ _ c.in_ok-write_error.field-0
    (omega arith)
    (c.in_ok-write_error.ensures (tried_of b) block.number
    (is ∙ ap Err (sym (to_z-of_z w32 c.args.error fits))))
