use Rattle.std.proofs.Common.{◌≡◌, [], ◌++◌, codes, refl, sym, subst, ◌∙◌, rules, Err}
use Rattle.line_feed.specs.Lines.{row_of}
use Rattle.grep_output.specs.Texts.{joined, part_text}
use Rattle.tool_io.specs.Writes.{Writes}
use Rattle.tool_io.proofs.Writing.{left-all, left-more, left-refused, left-last, writes-same, writes-none}
use Rattle.grep_output.proofs.Parted.{set_texts, part-none, part-some}
use Rattle.grep_output.proofs.parts.write_part.Goals as goal

pub returns-then-not-makes_line : goal.returns-then-not-makes_line
returns-then-not-makes_line g c o e =
    writes-same (sym (part-none c.args.plan.now c.args.name.now (row_of c.args.line.now) o c.args.groups.now
    c.makes_line.result e c.makes_line.ensures c.if-not-makes_line.true))
    (writes-none _ (g.O.Sink.tells c.args.out.now))

pub returns-in_err-write_texts : goal.returns-in_err-write_texts
returns-in_err-write_texts g c o e =
    let row = row_of c.args.line.now in
    let total = part_text c.args.plan.now c.args.name.now row o in
    let out = g.O.Sink.tells c.args.out.now in
    let parted =
    part-some c.args.plan.now c.args.name.now row o c.args.groups.now c.makes_line.result c.is_named-is_named.result
    c.as_bytes.result.now c.text_if.result.now c.text_if-2.result.now c.as_bytes-number.result.now
    c.text_if-3.result.now c.text_if-4.result.now
    c.args.plan.now.om_separator e c.makes_line.ensures c.if-not-makes_line.false c.is_named-is_named.ensures
    c.as_bytes.ensures.value c.text_if.ensures c.text_if-2.ensures
    (c.as_bytes-number.ensures.value ∙ c.format.ensures.text) c.text_if-3.ensures c.text_if-4.ensures refl in
    let fault = c.in_err-write_texts.field-0.0 in
    let same : c.from_residual.result ≡ Err fault = search rules in
    subst (λ r. Writes total out (g.O.Sink.tells c.write_texts.new.out) r) (sym same)
    (left-refused _ _ fault (left-all total out) parted c.in_err-write_texts.ensures)

pub returns-in_err-write_groups : goal.returns-in_err-write_groups
returns-in_err-write_groups g c o e =
    let row = row_of c.args.line.now in
    let total = part_text c.args.plan.now c.args.name.now row o in
    let out = g.O.Sink.tells c.args.out.now in
    let parted =
    part-some c.args.plan.now c.args.name.now row o c.args.groups.now c.makes_line.result c.is_named-is_named.result
    c.as_bytes.result.now c.text_if.result.now c.text_if-2.result.now c.as_bytes-number.result.now
    c.text_if-3.result.now c.text_if-4.result.now
    c.bytes.result.now e c.makes_line.ensures c.if-not-makes_line.false c.is_named-is_named.ensures
    c.as_bytes.ensures.value c.text_if.ensures c.text_if-2.ensures
    (c.as_bytes-number.ensures.value ∙ c.format.ensures.text) c.text_if-3.ensures c.text_if-4.ensures
    c.bytes.ensures in
    let fault = c.in_err-write_groups.field-0.0 in
    let same : c.from_residual-in_err-write_groups.result ≡ Err fault = search rules in
    subst (λ r. Writes total out (g.O.Sink.tells c.write_groups.new.out) r) (sym same)
    (left-refused (joined c.bytes.result.now (set_texts row.bytes c.args.groups.now)) (codes "\n" ++ []) fault
    (left-more _ _ _ (left-all total out) parted c.in_ok-write_texts.ensures) refl
    c.in_err-write_groups.ensures)

pub returns : goal.returns
returns g c o e =
    let row = row_of c.args.line.now in
    let total = part_text c.args.plan.now c.args.name.now row o in
    let out = g.O.Sink.tells c.args.out.now in
    let parted =
    part-some c.args.plan.now c.args.name.now row o c.args.groups.now c.makes_line.result c.is_named-is_named.result
    c.as_bytes.result.now c.text_if.result.now c.text_if-2.result.now c.as_bytes-number.result.now
    c.text_if-3.result.now c.text_if-4.result.now
    c.bytes.result.now e c.makes_line.ensures c.if-not-makes_line.false c.is_named-is_named.ensures
    c.as_bytes.ensures.value c.text_if.ensures c.text_if-2.ensures
    (c.as_bytes-number.ensures.value ∙ c.format.ensures.text) c.text_if-3.ensures c.text_if-4.ensures
    c.bytes.ensures in
    left-last c.write_texts-2.result
    (left-more (joined c.bytes.result.now (set_texts row.bytes c.args.groups.now)) (codes "\n" ++ []) _
    (left-more _ _ _ (left-all total out) parted c.in_ok-write_texts.ensures) refl c.in_ok-write_groups.ensures)
    refl c.write_texts-2.ensures
