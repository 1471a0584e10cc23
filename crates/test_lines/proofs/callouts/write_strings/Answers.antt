use Rattle.std.proofs.Common.{◌≡◌, ◌++◌, Err, sym, subst, rules}
use Rattle.tool_io.specs.Writes.{Writes}
use Rattle.test_lines.specs.Callouts.{string_line, subject_line}
use Rattle.test_lines.proofs.Writing.{writes-then, writes-first}
use Rattle.test_lines.proofs.callouts.write_strings.Goals as goal

pub returns-in_err-write_string : goal.returns-in_err-write_string
returns-in_err-write_string g c =
    let xs = string_line c.args.calling.utf c.args.calling.pattern.now c.args.calling.subject.now c.args.block.now in
    let ys = subject_line c.args.calling.utf c.args.calling.pattern.now c.args.calling.subject.now in
    let e = c.in_err-write_string.field-0.0 in
    let same : c.from_residual.result ≡ Err e = search rules in
    subst (λ r. Writes (string_line c.args.calling.utf c.args.calling.pattern.now c.args.calling.subject.now
    c.args.block.now ++ subject_line c.args.calling.utf c.args.calling.pattern.now c.args.calling.subject.now)
    (g.O.Sink.tells c.args.out.now) (g.O.Sink.tells c.write_string.new.out) r) (sym same)
    (writes-first {A = Unit {0}} xs ys _ _ e (c.in_err-write_string.ensures))

pub returns : goal.returns
returns g c =
    let xs = string_line c.args.calling.utf c.args.calling.pattern.now c.args.calling.subject.now c.args.block.now in
    let ys = subject_line c.args.calling.utf c.args.calling.pattern.now c.args.calling.subject.now in
    writes-then xs ys _ _ _ _ c.write_subject.result (c.in_ok-write_string.ensures) (c.write_subject.ensures)
