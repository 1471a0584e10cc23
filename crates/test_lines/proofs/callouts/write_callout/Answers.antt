use Rattle.std.proofs.Common.{◌≡◌, ◌++◌, Err, sym, subst, rules}
use Rattle.tool_io.specs.Writes.{Writes}
use Rattle.test_lines.specs.Callouts.{head_part, block_line, latest_part, callout_text}
use Rattle.test_lines.proofs.Writing.{writes-then, writes-first}
use Rattle.test_lines.proofs.callouts.write_callout.Goals as goal

pub returns-in_err-write_shown_block : goal.returns-in_err-write_shown_block
returns-in_err-write_shown_block g c =
    let xs = head_part c.args.calling.utf c.args.calling.pattern.now c.args.calling.subject.now c.args.before
    c.args.block.now ++ block_line c.args.calling.utf c.args.calling.pattern.now c.args.calling.subject.now
    c.args.block.now in
    let ys = latest_part c.args.code.now.tree.verb_names c.args.calling.utf c.args.before c.args.block.now in
    let e = c.in_err-write_shown_block.field-0.0 in
    let same : c.from_residual.result ≡ Err e = search rules in
    subst (λ r. Writes (callout_text c.args.calling.utf c.args.code.now.tree.verb_names c.args.calling.pattern.now
    c.args.calling.subject.now c.args.before c.args.block.now) (g.O.Sink.tells c.args.out.now)
    (g.O.Sink.tells c.write_shown_block.new.out) r) (sym same)
    (writes-first {A = Unit {0}} xs ys _ _ e (c.in_err-write_shown_block.ensures))

pub returns : goal.returns
returns g c =
    let xs = head_part c.args.calling.utf c.args.calling.pattern.now c.args.calling.subject.now c.args.before
    c.args.block.now ++ block_line c.args.calling.utf c.args.calling.pattern.now c.args.calling.subject.now
    c.args.block.now in
    let ys = latest_part c.args.code.now.tree.verb_names c.args.calling.utf c.args.before c.args.block.now in
    writes-then xs ys _ _ _ _ c.write_latest.result (c.in_ok-write_shown_block.ensures) (c.write_latest.ensures)
