use Rattle.std.proofs.Common.{◌≡◌, ◌++◌, Err, sym, subst, rules}
use Rattle.tool_io.specs.Writes.{Writes}
use Rattle.test_lines.specs.Callouts.{head_part, block_line}
use Rattle.test_lines.proofs.Writing.{writes-then, writes-first}
use Rattle.test_lines.proofs.callouts.write_shown_block.Goals as goal

pub returns-in_err-write_head : goal.returns-in_err-write_head
returns-in_err-write_head g c =
    let xs = head_part c.args.calling.utf c.args.calling.pattern.now c.args.calling.subject.now c.args.before
    c.args.block.now in
    let ys = block_line c.args.calling.utf c.args.calling.pattern.now c.args.calling.subject.now c.args.block.now in
    let e = c.in_err-write_head.field-0.0 in
    let same : c.from_residual.result ≡ Err e = search rules in
    subst (λ r. Writes (head_part c.args.calling.utf c.args.calling.pattern.now c.args.calling.subject.now
    c.args.before c.args.block.now ++ block_line c.args.calling.utf c.args.calling.pattern.now
    c.args.calling.subject.now c.args.block.now) (g.O.Sink.tells c.args.out.now)
    (g.O.Sink.tells c.write_head.new.out) r) (sym same)
    (writes-first {A = Unit {0}} xs ys _ _ e (c.in_err-write_head.ensures))

pub returns : goal.returns
returns g c =
    let xs = head_part c.args.calling.utf c.args.calling.pattern.now c.args.calling.subject.now c.args.before
    c.args.block.now in
    let ys = block_line c.args.calling.utf c.args.calling.pattern.now c.args.calling.subject.now c.args.block.now in
    writes-then xs ys _ _ _ _ c.write_line.result (c.in_ok-write_head.ensures) (c.write_line.ensures)
