use Rattle.std.proofs.Common.{◌≡◌, ap, Err, sym, subst, rules}
use Rattle.tool_io.specs.Writes.{Writes}
use Rattle.test_lines.specs.Callouts.{low_width, caret_part, second_part, marks_part}
use Rattle.test_lines.proofs.Writing.{writes-then, writes-first, writes-equal}
use Rattle.test_lines.proofs.callouts.write_marks.Goals as goal

pub returns-in_err-write_caret : goal.returns-in_err-write_caret
returns-in_err-write_caret g c =
    let xs = caret_part (low_width c.args.calling.utf c.args.calling.pattern.now c.args.calling.subject.now
    c.args.block.now) in
    let ys = second_part c.args.calling.utf c.args.calling.pattern.now c.args.calling.subject.now c.args.block.now in
    let e = c.in_err-write_caret.field-0.0 in
    let same : c.from_residual.result ≡ Err e = search rules in
    subst (λ r. Writes (marks_part c.args.calling.utf c.args.calling.pattern.now c.args.calling.subject.now
    c.args.block.now) (g.O.Sink.tells c.args.out.now) (g.O.Sink.tells c.write_caret.new.out) r) (sym same)
    (writes-first {A = Unit {0}} xs ys _ _ e
    (writes-equal (ap caret_part c.low_width.ensures) c.in_err-write_caret.ensures))

pub returns : goal.returns
returns g c =
    let xs = caret_part (low_width c.args.calling.utf c.args.calling.pattern.now c.args.calling.subject.now
    c.args.block.now) in
    let ys = second_part c.args.calling.utf c.args.calling.pattern.now c.args.calling.subject.now c.args.block.now in
    writes-then xs ys _ _ _ _ c.write_second.result
    (writes-equal (ap caret_part c.low_width.ensures) c.in_ok-write_caret.ensures) (c.write_second.ensures)
