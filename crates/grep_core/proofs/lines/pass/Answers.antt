use Rattle.std.proofs.Common.{◌≡◌, false, Err, refl, sym, subst, rules}
use Rattle.line_feed.specs.Lines.{row_of}
use Rattle.grep_output.specs.declared.shows.Show.TheVariants.{Lines}
use Rattle.grep_output.specs.Ends.{stop_of}
use Rattle.grep_core.specs.Turns.{Halts, Passes}
use Rattle.grep_core.specs.Work.{work_of, progress}
use Rattle.tool_io.specs.Printed.{printed}
use Rattle.tool_io.specs.Writes.{WritesAll}
use Rattle.grep_core.proofs.Halting.{halts-of, context-text, context-after}
use Rattle.tool_io.proofs.Printing.{wrote-of}
use Rattle.grep_core.proofs.lines.pass.Goals as goal

pub returns-in_err-write_line : goal.returns-in_err-write_line
returns-in_err-write_line g c t s err same =
    let job = c.args.job.now in
    let row = row_of c.args.line.now in
    let old = g.O.Sink.tells c.args.out.now in
    let new = g.O.Sink.tells c.write_line.new.out in
    let e = c.in_err-write_line.field-0.0 in
    let is : c.from_residual.result ≡ Err (stop_of e) = search rules in
    let lines : job.show ≡ Lines = search rules in
    let text = context-text job.plan.now job.name.now job.show c.args.course.now t row lines same
    c.if-line-course.true in
    subst (Passes (work_of job) t (progress c.args.course.now s (printed old err))
    (progress c.args.course.now s (printed new err))) (sym is) (
      subst (λ l. Halts l old new (stop_of e)) text
          (halts-of _ old new e (c.in_err-write_line.ensures (record {
            row = row;
            is_selected = false;
            begins_group = false;
          }) refl refl)),
      refl,
    )

pub returns-in_ok-write_line : goal.returns-in_ok-write_line
returns-in_ok-write_line g c t s err same =
    let job = c.args.job.now in
    let row = row_of c.args.line.now in
    let old = g.O.Sink.tells c.args.out.now in
    let new = g.O.Sink.tells c.write_line.new.out in
    let lines : job.show ≡ Lines = search rules in
    record {
      wrote = subst (λ l. WritesAll l old new)
          (context-text job.plan.now job.name.now job.show c.args.course.now t row lines same c.if-line-course.true)
          (wrote-of _ old new _ (c.in_ok-write_line.ensures (record {
            row = row;
            is_selected = false;
            begins_group = false;
          }) refl refl));
      stands = context-after job.plan.now job.show c.args.course.now t row lines same c.if-line-course.true;
      limit = refl;
      longest = refl;
    }
