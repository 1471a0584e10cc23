use Rattle.std.proofs.Common.{◌≡◌, ◌+◌, drop, get_or, sym, subst, rules, arith, Err}
use Rattle.std.proofs.lemmas.List.{at_drop_more, at_drop_all}
use Rattle.tool_io.specs.Writes.{Writes}
use Rattle.tool_io.proofs.Writing.{left-all, left-more, left-refused, left-none}
use Rattle.test_lines.specs.Shown.{shown_bytes, shown_byte}
use Rattle.test_lines.proofs.shown.write_bytes.Goals as goal

pub loop-byte-init : goal.loop-byte-init
loop-byte-init g c = left-all _ _

pub loop-byte-preserved : goal.loop-byte-preserved
loop-byte-preserved g c =
    let text = c.args.text.now in
    let i = c.loop-byte.byte-index in
    left-more (shown_byte (get_or text i 0)) (shown_bytes (drop (i + 1) text)) _ c.loop-byte.invariant
    (at_drop_more shown_bytes text i 0 c.loop-byte-test.true) c.in_ok-write_byte.ensures

pub returns-in_err-write_byte : goal.returns-in_err-write_byte
returns-in_err-write_byte g c =
    let text = c.args.text.now in
    let i = c.loop-byte.byte-index in
    let e = c.in_err-write_byte.field-0.0 in
    let same : c.from_residual.result ≡ Err e = search rules in
    subst (λ r. Writes (shown_bytes text) (g.O.Sink.tells c.args.out.now) (g.O.Sink.tells c.write_byte.new.out) r)
    (sym same)
    (left-refused (shown_byte (get_or text i 0)) (shown_bytes (drop (i + 1) text)) e c.loop-byte.invariant
    (at_drop_more shown_bytes text i 0 c.loop-byte-test.true) c.in_err-write_byte.ensures)

pub returns : goal.returns
returns g c = left-none _ c.loop-byte.invariant
    (at_drop_all shown_bytes c.args.text.now c.loop-byte.byte-index (omega arith))
