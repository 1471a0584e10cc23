use Rattle.std.proofs.Common.{◌≡◌, Err, sym, subst, rules}
use Rattle.pat_tree.specs.Pattern.{pattern_of}
use Rattle.tool_io.specs.Writes.{Writes}
use Rattle.test_lines.specs.Marks.{showing, partial_text}
use Rattle.test_lines.proofs.Writing.{writes-as, refused-as}
use Rattle.test_run.proofs.matches.tell_partial.Goals as goal

pub returns-in_err-write_partial-clause-wrote : goal.returns-in_err-write_partial-clause-wrote
returns-in_err-write_partial-clause-wrote g c =
    let s = showing (pattern_of c.args.code.now.tree) c.args.marks in
    let e = c.in_err-write_partial.field-0.0 in
    let same : c.from_residual.result ≡ Err e = search rules in
    subst (λ r. Writes (partial_text s c.args.text.now c.args.mark) (g.O.Sink.tells c.args.out.now)
    (g.O.Sink.tells c.write_partial.new.out) r) (sym same)
    (refused-as {A = Unit {0}} e c.in_err-write_partial.ensures)

pub returns-clause-wrote : goal.returns-clause-wrote
returns-clause-wrote g c = writes-as {A = Unit {0}} _ _ c.in_ok-write_partial.ensures
