use Rattle.std.proofs.Common.{◌≡◌, ◌++◌, Err, sym, subst, rules}
use Rattle.tool_io.specs.Writes.{Writes}
use Rattle.test_lines.specs.Callouts.{begin_part, marks_part, end_part, block_line}
use Rattle.test_lines.proofs.Writing.{writes-then, writes-first}
use Rattle.test_lines.proofs.callouts.write_line.Goals as goal

pub returns-in_err-write_places : goal.returns-in_err-write_places
returns-in_err-write_places g c =
    let xs = begin_part c.args.block.now ++ marks_part c.args.calling.utf c.args.calling.pattern.now
    c.args.calling.subject.now c.args.block.now in
    let ys = end_part c.args.calling.utf c.args.calling.pattern.now c.args.calling.subject.now c.args.block.now in
    let e = c.in_err-write_places.field-0.0 in
    let same : c.from_residual.result ≡ Err e = search rules in
    subst (λ r. Writes (block_line c.args.calling.utf c.args.calling.pattern.now c.args.calling.subject.now
    c.args.block.now) (g.O.Sink.tells c.args.out.now) (g.O.Sink.tells c.write_places.new.out) r) (sym same)
    (writes-first {A = Unit {0}} xs ys _ _ e (c.in_err-write_places.ensures))

pub returns : goal.returns
returns g c =
    let xs = begin_part c.args.block.now ++ marks_part c.args.calling.utf c.args.calling.pattern.now
    c.args.calling.subject.now c.args.block.now in
    let ys = end_part c.args.calling.utf c.args.calling.pattern.now c.args.calling.subject.now c.args.block.now in
    writes-then xs ys _ _ _ _ c.write_end.result (c.in_ok-write_places.ensures) (c.write_end.ensures)
