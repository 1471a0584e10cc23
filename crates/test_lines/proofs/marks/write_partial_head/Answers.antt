use Rattle.std.proofs.Common.{◌≡◌, ◌++◌, codes, Err, append-nil, sym, subst, rules}
use Rattle.tool_io.specs.Writes.{Writes}
use Rattle.test_lines.specs.Shown.{shown}
use Rattle.test_lines.proofs.Writing.{writes-then, writes-first, writes-equal}
use Rattle.test_lines.proofs.marks.write_partial_head.Goals as goal

pub returns-in_err-write_texts-in-Some : goal.returns-in_err-write_texts-in-Some
returns-in_err-write_texts-in-Some g c =
    let a = codes "Partial match, mark=" in
    let b = shown c.args.utf c.in-Some.name.now in
    let e = c.in_err-write_texts-in-Some.field-0.0 in
    let same : c.from_residual.result ≡ Err e = search rules in
    rw c.in-Some.is
    (subst (λ r. Writes (a ++ b) (g.O.Sink.tells c.args.out.now) (g.O.Sink.tells c.write_texts.new.out) r) (sym same)
    (writes-first a b _ _ e (writes-equal (append-nil a) c.in_err-write_texts-in-Some.ensures)))

pub returns-in_ok-write_texts-in-Some : goal.returns-in_ok-write_texts-in-Some
returns-in_ok-write_texts-in-Some g c =
    let a = codes "Partial match, mark=" in
    let b = shown c.args.utf c.in-Some.name.now in
    rw c.in-Some.is
    (writes-then a b _ _ _ _ c.write_shown.result (writes-equal (append-nil a) c.in_ok-write_texts-in-Some.ensures)
    c.write_shown.ensures)

pub returns-in-None : goal.returns-in-None
returns-in-None g c = rw c.in-None.is (writes-equal (append-nil (codes "Partial match")) c.write_texts-in-None.ensures)
