use Rattle.std.proofs.Common.{◌≡◌, ◌++◌, Err, sym, subst, rules}
use Rattle.tool_io.specs.Writes.{Writes}
use Rattle.test_lines.specs.Callouts.{begin_part, marks_part}
use Rattle.test_lines.proofs.Writing.{writes-then, writes-first}
use Rattle.test_lines.proofs.callouts.write_places.Goals as goal

pub returns-in_err-write_begin : goal.returns-in_err-write_begin
returns-in_err-write_begin g c =
    let xs = begin_part c.args.block.now in
    let ys = marks_part c.args.calling.utf c.args.calling.pattern.now c.args.calling.subject.now c.args.block.now in
    let e = c.in_err-write_begin.field-0.0 in
    let same : c.from_residual.result ≡ Err e = search rules in
    subst (λ r. Writes (begin_part c.args.block.now ++ marks_part c.args.calling.utf c.args.calling.pattern.now
    c.args.calling.subject.now c.args.block.now) (g.O.Sink.tells c.args.out.now)
    (g.O.Sink.tells c.write_begin.new.out) r) (sym same)
    (writes-first {A = Unit {0}} xs ys _ _ e (c.in_err-write_begin.ensures))

pub returns : goal.returns
returns g c =
    let xs = begin_part c.args.block.now in
    let ys = marks_part c.args.calling.utf c.args.calling.pattern.now c.args.calling.subject.now c.args.block.now in
    writes-then xs ys _ _ _ _ c.write_marks.result (c.in_ok-write_begin.ensures) (c.write_marks.ensures)
