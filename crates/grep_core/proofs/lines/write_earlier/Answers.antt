use Rattle.std.proofs.Common.{◌≡◌, ◌+◌, ◌∙◌, drop, flat_map, false, ap, sym, subst, refl, rules, arith, Err, Some}
use Rattle.std.specs.Prelude.{slice_get, option_map}
use Rattle.line_feed.specs.Rows.{Row}
use Rattle.line_feed.specs.Lines.{row_of}
use Rattle.grep_output.specs.Course.{line_as}
use Rattle.tool_io.specs.Writes.{Writes}
use Rattle.tool_io.proofs.Writing.{left-more, left-refused}
use Rattle.grep_core.proofs.Steps.{rest-more, is-there}
use Rattle.grep_core.proofs.lines.write_earlier.Goals as goal
use Rattle.grep_core.proofs.lines.write_earlier.Goals.{in-Some+in_ok-write_line, in_default}

pub returns-in_err-write_line : goal.returns-in_err-write_line
returns-in_err-write_line g c =
    let text = line_as c.args.job.now.plan.now c.args.job.now.name.now false in
    let rows = c.args.earlier.now.rows in
    let i = c.loop-i.i in
    let row : Row = row_of c.in-Some.line in
    let at : slice_get rows i ≡ Some row = sym c.line.ensures ∙ ap (option_map row_of) c.in-Some.is in
    let fault = c.in_err-write_line.field-0.0 in
    let same : c.from_residual.result ≡ Err fault = search rules in
    subst (λ r. Writes (flat_map text rows) (g.O.Sink.tells c.args.out.now) (g.O.Sink.tells c.write_line.new.out) r)
    (sym same)
    (left-refused {total = flat_map text rows} {rest = flat_map text (drop i rows)} (text row)
    (flat_map text (drop (i + 1) rows)) fault c.loop-i.invariant (rest-more text rows i row at)
    (c.in_err-write_line.ensures (record { row = row; is_selected = false; begins_group = false }) refl refl))

pub loop-i-preserved : goal.loop-i-preserved
loop-i-preserved g c =
    let text = line_as c.args.job.now.plan.now c.args.job.now.name.now false in
    let rows = c.args.earlier.now.rows in
    let i = c.loop-i.i in
    elim c.match-line.branch [
      | in-Some+in_ok-write_line w ↦
          let row : Row = row_of w.in-Some.line in
          let at : slice_get rows i ≡ Some row = sym c.line.ensures ∙ ap (option_map row_of) w.in-Some.is in
          rw w.out-is
          (left-more {total = flat_map text rows} {rest = flat_map text (drop i rows)} (text row)
          (flat_map text (drop (i + 1) rows)) _ c.loop-i.invariant (rest-more text rows i row at)
          (w.in_ok-write_line.ensures (record { row = row; is_selected = false; begins_group = false }) refl refl))
      | in_default w ↦ absurd (is-there rows i (sym c.line.ensures ∙ ap (option_map row_of) w.in_default.is)
          (omega arith))
    ]
