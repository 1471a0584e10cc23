use Rattle.std.proofs.Common.{◌≡◌, Err, sym, subst, rules}
use Rattle.pat_tree.specs.Pattern.{pattern_of}
use Rattle.tool_io.specs.Writes.{Writes}
use Rattle.test_lines.specs.Shown.{groups_text}
use Rattle.test_lines.specs.Marks.{showing, name_of, mark_line, match_text}
use Rattle.test_lines.proofs.Writing.{writes-then, writes-first}
use Rattle.test_run.proofs.matches.write_match.Goals as goal

pub returns-in_err-write_groups : goal.returns-in_err-write_groups
returns-in_err-write_groups g c =
    let f = c.args.found.now in
    let s = showing (pattern_of f.code.tree) c.args.marks in
    let e = c.in_err-write_groups.field-0.0 in
    let same : c.from_residual.result ≡ Err e = search rules in
    subst (λ r. Writes (match_text s f.subject f.outcome) (g.O.Sink.tells c.args.out.now)
    (g.O.Sink.tells c.write_groups.new.out) r) (sym same)
    (writes-first {A = Unit {0}} (groups_text s.utf f.subject f.outcome) (mark_line s (name_of s f.outcome.mark)) _ _
    e c.in_err-write_groups.ensures)

pub returns : goal.returns
returns g c =
    let f = c.args.found.now in
    let s = showing (pattern_of f.code.tree) c.args.marks in
    writes-then (groups_text s.utf f.subject f.outcome) (mark_line s (name_of s f.outcome.mark)) _ _ _ _
    c.write_mark.result c.in_ok-write_groups.ensures c.write_mark.ensures
