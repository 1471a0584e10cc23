use Rattle.std.proofs.Common.{◌≡◌, ◌+◌, ◌-◌, suc, codes, Err, ap, sym, subst, arith, rules}
use Rattle.tool_io.specs.Writes.{Writes}
use Rattle.tool_io.proofs.Writing.{IsLeft, left-all, left-more, left-refused, left-none}
use Rattle.test_lines.specs.Callouts.{blanks}
use Rattle.test_lines.proofs.callouts.write_blanks.Goals as goal

pub loop-i-init : goal.loop-i-init
loop-i-init g c =
    let n = c.args.n in
    let out = g.O.Sink.tells c.args.out.now in
    let e : n ≡ n - 0 = omega arith in
    subst (λ m. IsLeft (blanks n) (blanks m) out out) e (left-all (blanks n) out)

pub loop-i-preserved : goal.loop-i-preserved
loop-i-preserved g c =
    let n = c.args.n in
    let i = c.loop-i._i in
    let e : n - i ≡ suc (n - (i + 1)) = omega arith in
    left-more (codes " ") (blanks (n - (i + 1))) _ c.loop-i.invariant (ap blanks e) c.in_ok-write_texts.ensures

pub returns-in_err-write_texts : goal.returns-in_err-write_texts
returns-in_err-write_texts g c =
    let n = c.args.n in
    let i = c.loop-i._i in
    let fault = c.in_err-write_texts.field-0.0 in
    let same : c.from_residual.result ≡ Err fault = search rules in
    let e : n - i ≡ suc (n - (i + 1)) = omega arith in
    subst (λ r. Writes (blanks n) (g.O.Sink.tells c.args.out.now) (g.O.Sink.tells c.write_texts.new.out) r) (sym same)
    (left-refused (codes " ") (blanks (n - (i + 1))) fault c.loop-i.invariant (ap blanks e)
    c.in_err-write_texts.ensures)

pub returns : goal.returns
returns g c =
    let e : c.args.n - c.loop-i._i ≡ 0 = omega arith in
    left-none _ c.loop-i.invariant (ap blanks e)
