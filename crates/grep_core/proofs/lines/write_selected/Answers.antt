use Rattle.std.proofs.Common.{◌≡◌, ◌++◌, List, ℕ, flat_map, true, false, ap, sym, subst, refl, rules, Ok, Err}
use Rattle.std.proofs.Common.{append_assoc}
use Rattle.line_feed.specs.Rows.{Row}
use Rattle.grep_output.specs.Course.{line_as, separator}
use Rattle.grep_core.specs.Turns.{course_of}
use Rattle.tool_io.specs.Writes.{Writes}
use Rattle.tool_io.proofs.Writing.{left-all, left-more, left-refused, left-last, writes-same}
use Rattle.grep_core.proofs.lines.write_selected.Goals as goal

pub returns-in_err-write_separator : goal.returns-in_err-write_separator
returns-in_err-write_separator g c t e =
    let plan = c.args.job.now.plan.now in
    let name = c.args.job.now.name.now in
    let gap : Row → List ℕ = λ r. separator plan name c.args.has_shown (course_of c.args.course.now) r.number in
    let before : List ℕ = flat_map (line_as plan name false) c.args.course.now.earlier.rows in
    let last : List ℕ = line_as plan name true t.row in
    let old = g.O.Sink.tells c.args.out.now in
    let new = g.O.Sink.tells c.write_separator.new.out in
    let fault = c.in_err-write_separator.field-0.0 in
    let same : c.from_residual.result ≡ Err fault = search rules in
    subst (λ r. Writes (gap t.row ++ before ++ last) old new r) (sym same)
    (left-refused (gap t.row) (before ++ last) fault (left-all (gap t.row ++ before ++ last) old)
    (append_assoc (gap t.row) before last)
    (writes-same (ap gap (sym e)) c.in_err-write_separator.ensures))

pub returns-in_err-write_earlier : goal.returns-in_err-write_earlier
returns-in_err-write_earlier g c t e =
    let plan = c.args.job.now.plan.now in
    let name = c.args.job.now.name.now in
    let gap : Row → List ℕ = λ r. separator plan name c.args.has_shown (course_of c.args.course.now) r.number in
    let before : List ℕ = flat_map (line_as plan name false) c.args.course.now.earlier.rows in
    let last : List ℕ = line_as plan name true t.row in
    let old = g.O.Sink.tells c.args.out.now in
    let fault = c.in_err-write_earlier.field-0.0 in
    let same : c.from_residual-in_err-write_earlier.result ≡ Err fault = search rules in
    subst (λ r. Writes (gap t.row ++ before ++ last) old (g.O.Sink.tells c.write_earlier.new.out) r) (sym same)
    (left-refused before last fault
    (left-more (gap t.row) (before ++ last) _ (left-all (gap t.row ++ before ++ last) old)
    (append_assoc (gap t.row) before last)
    (writes-same {result = Ok c.in_ok-write_separator.field-0} (ap gap (sym e)) c.in_ok-write_separator.ensures))
    refl c.in_err-write_earlier.ensures)

pub returns : goal.returns
returns g c t e =
    let plan = c.args.job.now.plan.now in
    let name = c.args.job.now.name.now in
    let gap : Row → List ℕ = λ r. separator plan name c.args.has_shown (course_of c.args.course.now) r.number in
    let before : List ℕ = flat_map (line_as plan name false) c.args.course.now.earlier.rows in
    let last : List ℕ = line_as plan name true t.row in
    let old = g.O.Sink.tells c.args.out.now in
    left-last c.write_line.result
    (left-more before last _
    (left-more (gap t.row) (before ++ last) _ (left-all (gap t.row ++ before ++ last) old)
    (append_assoc (gap t.row) before last)
    (writes-same {result = Ok c.in_ok-write_separator.field-0} (ap gap (sym e)) c.in_ok-write_separator.ensures))
    refl c.in_ok-write_earlier.ensures)
    refl (c.write_line.ensures (record { row = t.row; is_selected = true; begins_group = false }) e refl)
