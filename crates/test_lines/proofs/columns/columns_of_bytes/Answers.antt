use Rattle.std.proofs.Common.{◌∙◌, ◌+◌, drop, length, get_or, ap, arith}
use Rattle.std.proofs.lemmas.List.{at_drop_more, at_drop_all, length-append}
use Rattle.test_lines.specs.Shown.{shown_bytes, shown_byte}
use Rattle.test_lines.proofs.columns.columns_of_bytes.Goals as goal

pub loop-byte-init : goal.loop-byte-init
loop-byte-init c = record { count = omega arith; most = omega arith; there = omega arith }

pub loop-byte-preserved : goal.loop-byte-preserved
loop-byte-preserved c =
    let text = c.args.text.now in
    let i = c.loop-byte.byte-index in
    let had = c.loop-byte.invariant in
    let less = c.loop-byte-test.true in
    let step = ap length (at_drop_more shown_bytes text i 0 less)
    ∙ length-append (shown_byte (get_or text i 0)) (shown_bytes (drop (i + 1) text)) in
    let one = c.byte_columns-n.ensures in
    record {
      count = omega (arith, had.count, step, one.value);
      most = omega (arith, had.most, one.most);
      there = omega (arith, less);
    }

pub returns-clause-value : goal.returns-clause-value
returns-clause-value c =
    let text = c.args.text.now in
    let i = c.loop-byte.byte-index in
    let had = c.loop-byte.invariant in
    let none = ap length (at_drop_all shown_bytes text i (omega arith)) in
    omega (arith, had.count, none)

pub returns-clause-most : goal.returns-clause-most
returns-clause-most c =
    let had = c.loop-byte.invariant in
    omega (arith, had.most, had.there)
