use Rattle.std.proofs.Common.{◌≡◌, codes, Err, sym, subst, rules}
use Rattle.pat_tree.specs.Pattern.{pattern_of}
use Rattle.tool_io.specs.Writes.{Writes}
use Rattle.test_lines.specs.Marks.{showing, name_of, name_line, partial_head, partial_text}
use Rattle.test_lines.proofs.Writing.{writes-then, writes-first, writes-equal}
use Rattle.test_lines.proofs.marks.write_partial.Goals as goal

pub returns-in_err-write_partial_head : goal.returns-in_err-write_partial_head
returns-in_err-write_partial_head g c =
    let s = showing (pattern_of c.args.code.now.tree) c.args.marks in
    let a = partial_head s.utf (name_of s c.args.mark) in
    let b = name_line s.utf (codes ": ") c.args.text.now in
    let e = c.in_err-write_partial_head.field-0.0 in
    let same : c.from_residual.result ≡ Err e = search rules in
    subst (λ r. Writes (partial_text s c.args.text.now c.args.mark) (g.O.Sink.tells c.args.out.now)
    (g.O.Sink.tells c.write_partial_head.new.out) r) (sym same)
    (writes-first a b _ _ e (writes-equal (λ i. partial_head (c.options.ensures i).utf (c.name_of.ensures i))
    c.in_err-write_partial_head.ensures))

pub returns : goal.returns
returns g c =
    let s = showing (pattern_of c.args.code.now.tree) c.args.marks in
    let a = partial_head s.utf (name_of s c.args.mark) in
    let b = name_line s.utf (codes ": ") c.args.text.now in
    writes-then a b _ _ _ _ c.write_name.result
    (writes-equal (λ i. partial_head (c.options.ensures i).utf (c.name_of.ensures i))
    c.in_ok-write_partial_head.ensures)
    (writes-equal (λ i. name_line (c.options.ensures i).utf (codes ": ") c.args.text.now) c.write_name.ensures)
