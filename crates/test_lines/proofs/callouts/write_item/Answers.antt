use Rattle.std.proofs.Common.{◌≡◌, [], ◌∷◌, ap, append_assoc, Err, sym, subst, rules}
use Rattle.tool_io.specs.Texts.{line}
use Rattle.test_lines.specs.Shown.{shown}
use Rattle.test_lines.specs.Marks.{name_line}
use Rattle.tool_io.specs.Writes.{Writes}
use Rattle.test_lines.specs.Callouts.{blanks, gap, item_of, item_part}
use Rattle.test_lines.proofs.Writing.{writes-then, writes-first, writes-equal}
use Rattle.test_lines.proofs.callouts.write_item.Goals as goal

pub returns-in_err-write_blanks : goal.returns-in_err-write_blanks
returns-in_err-write_blanks g c =
    let xs = blanks (gap c.args.calling.utf c.args.calling.pattern.now c.args.calling.subject.now c.args.block.now) in
    let ys = name_line c.args.calling.utf []
    (item_of c.args.calling.utf c.args.calling.pattern.now c.args.calling.subject.now c.args.block.now) in
    let e = c.in_err-write_blanks.field-0.0 in
    let same : c.from_residual.result ≡ Err e = search rules in
    subst (λ r. Writes
    (line (item_part c.args.calling.utf c.args.calling.pattern.now c.args.calling.subject.now c.args.block.now))
    (g.O.Sink.tells c.args.out.now) (g.O.Sink.tells c.write_blanks.new.out) r) (sym same)
    (writes-equal
    (sym (append_assoc xs
    (shown c.args.calling.utf (item_of c.args.calling.utf c.args.calling.pattern.now
    c.args.calling.subject.now c.args.block.now)) (10 ∷ [])))
    (writes-first {A = Unit {0}} xs ys _ _ e
    (writes-equal (ap blanks c.gap.ensures) c.in_err-write_blanks.ensures)))

pub returns : goal.returns
returns g c =
    let xs = blanks (gap c.args.calling.utf c.args.calling.pattern.now c.args.calling.subject.now c.args.block.now) in
    let ys = name_line c.args.calling.utf []
    (item_of c.args.calling.utf c.args.calling.pattern.now c.args.calling.subject.now c.args.block.now) in
    writes-equal (sym
    (append_assoc xs
    (shown c.args.calling.utf (item_of c.args.calling.utf c.args.calling.pattern.now
    c.args.calling.subject.now c.args.block.now)) (10 ∷ [])))
    (writes-then xs ys _ _ _ _ c.write_name.result
    (writes-equal (ap blanks c.gap.ensures) c.in_ok-write_blanks.ensures)
    (writes-equal (ap (name_line c.args.calling.utf []) c.item_of.ensures) c.write_name.ensures))
