use Rattle.std.proofs.Common.{◌≡◌, ◌++◌, ◌∙◌, List, ℕ, [], ap, sym, subst, refl, rules, Err, append_assoc, append-nil}
use Rattle.line_feed.specs.Rows.{Row}
use Rattle.grep_output.specs.Texts.{line_text, mark_of, name_before, newline_of, number_before}
use Rattle.tool_io.specs.Writes.{Writes}
use Rattle.tool_io.proofs.Writing.{left-all, left-more, left-refused, left-last, writes-same}
use Rattle.grep_output.proofs.lines.write_line.Goals as goal

pub returns-in_err-write_before : goal.returns-in_err-write_before
returns-in_err-write_before g c s row is =
    let plan = c.args.plan.now in
    let name = c.args.name.now in
    let before : List ℕ → ℕ → List ℕ = λ mark number. name_before plan name mark ++ number_before plan name number
    mark in
    let mark = mark_of s.is_selected in
    let same : before c.mark_of.result.now c.args.line.now.number ≡ before mark s.row.number =
    ap (λ m. before m c.args.line.now.number) (c.mark_of.ensures ∙ ap mark_of (sym is))
    ∙ ap (λ (r : Row). before mark r.number) (sym row) in
    let rest : List ℕ = s.row.bytes ++ newline_of s.row in
    let old = g.O.Sink.tells c.args.out.now in
    let fault = c.in_err-write_before.field-0.0 in
    let told : c.from_residual.result ≡ Err fault = search rules in
    subst (λ r. Writes (line_text plan name s) old (g.O.Sink.tells c.write_before.new.out) r) (sym told)
    (left-refused (before mark s.row.number) rest fault (left-all (line_text plan name s) old)
    (append_assoc (before mark s.row.number) s.row.bytes (newline_of s.row))
    (writes-same same c.in_err-write_before.ensures))

pub returns : goal.returns
returns g c s row is =
    let plan = c.args.plan.now in
    let name = c.args.name.now in
    let line = c.args.line.now in
    let before : List ℕ → ℕ → List ℕ = λ mark number. name_before plan name mark ++ number_before plan name number
    mark in
    let mark = mark_of s.is_selected in
    let same : before c.mark_of.result.now line.number ≡ before mark s.row.number =
    ap (λ m. before m line.number) (c.mark_of.ensures ∙ ap mark_of (sym is))
    ∙ ap (λ (r : Row). before mark r.number) (sym row) in
    let rest : List ℕ = s.row.bytes ++ newline_of s.row in
    let whole : line.bytes.now ++ (c.newline_of.result.now ++ []) ≡ rest =
    ap (λ l. line.bytes.now ++ l) (append-nil c.newline_of.result.now ∙ c.newline_of.ensures)
    ∙ ap (λ (r : Row). r.bytes ++ newline_of r) (sym row) in
    let old = g.O.Sink.tells c.args.out.now in
    left-last c.write_texts.result
    (left-more (before mark s.row.number) rest _ (left-all (line_text plan name s) old)
    (append_assoc (before mark s.row.number) s.row.bytes (newline_of s.row))
    (writes-same same c.in_ok-write_before.ensures))
    refl (writes-same whole c.write_texts.ensures)
