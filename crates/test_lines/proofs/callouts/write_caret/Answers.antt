use Rattle.std.proofs.Common.{◌≡◌, codes, Err, sym, subst, rules}
use Rattle.tool_io.specs.Writes.{Writes}
use Rattle.test_lines.specs.Callouts.{blanks, caret_part}
use Rattle.test_lines.proofs.Writing.{writes-then, writes-first}
use Rattle.test_lines.proofs.callouts.write_caret.Goals as goal

pub returns-in_err-write_blanks : goal.returns-in_err-write_blanks
returns-in_err-write_blanks g c =
    let xs = blanks c.args.n in
    let ys = codes "^" in
    let e = c.in_err-write_blanks.field-0.0 in
    let same : c.from_residual.result ≡ Err e = search rules in
    subst (λ r. Writes (caret_part c.args.n) (g.O.Sink.tells c.args.out.now) (g.O.Sink.tells c.write_blanks.new.out)
    r) (sym same)
    (writes-first {A = Unit {0}} xs ys _ _ e (c.in_err-write_blanks.ensures))

pub returns : goal.returns
returns g c =
    let xs = blanks c.args.n in
    let ys = codes "^" in
    writes-then xs ys _ _ _ _ c.write_texts.result (c.in_ok-write_blanks.ensures) (c.write_texts.ensures)
