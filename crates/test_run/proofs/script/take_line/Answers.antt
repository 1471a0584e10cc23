use Rattle.std.proofs.Common.{◌≡◌, ◌++◌, Err, ap, sym, subst, rules}
use Rattle.pcre_io.specs.declared.traits.IoError.TheVariants as IoError
use Rattle.tool_io.specs.Texts.{line}
use Rattle.tool_io.specs.Writes.{Writes}
use Rattle.tool_io.proofs.Writing.{writes-same}
use Rattle.test_script.specs.Script.{line_of}
use Rattle.test_run.specs.Courses.{entry_text}
use Rattle.test_run.specs.Runs.{IsShort}
use Rattle.test_run.specs.Searches.{course_of}
use Rattle.test_run.proofs.Shorts.{line-short}
use Rattle.test_lines.proofs.Writing.{writes-then, writes-first, writes-lacks}
use Rattle.test_run.proofs.script.take_line.Goals as goal

pub returns-in_err-write_texts-clause-wrote : goal.returns-in_err-write_texts-clause-wrote
returns-in_err-write_texts-clause-wrote g c =
    let run = c.args.run.now in
    let l = c.args.text.now in
    let later = entry_text (course_of run.course) (line_of run.reader l).0 in
    let e = c.in_err-write_texts.field-0.0 in
    let same : c.from_residual.result ≡ Err e = search rules in
    subst (λ r. Writes (line l ++ later) (g.O.Sink.tells c.args.out.now) (g.O.Sink.tells c.write_texts.new.out) r)
    (sym same)
    (writes-first (line l) later _ _ e c.in_err-write_texts.ensures)

pub returns-in_err-entry-clause-wrote : goal.returns-in_err-entry-clause-wrote
returns-in_err-entry-clause-wrote g c =
    let run = c.args.run.now in
    let l = c.args.text.now in
    let later = entry_text (course_of run.course) (line_of run.reader l).0 in
    let e = c.in_err-entry.field-0.0 in
    let same : c.from_residual-in_err-entry.result ≡ Err IoError.Memory = search rules in
    subst (λ r. Writes (line l ++ later) (g.O.Sink.tells c.args.out.now) (g.O.Sink.tells c.write_texts.new.out) r)
    (sym same)
    (writes-lacks (line l) later _ _ _ c.in_ok-write_texts.ensures)

pub take_entry-requires : goal.take_entry-requires
take_entry-requires g c = subst IsShort (ap (λ x. x.0) c.in_ok-entry.ensures.entry)
    (line-short c.args.run.now.reader c.args.text.now)

pub returns-clause-wrote : goal.returns-clause-wrote
returns-clause-wrote g c =
    let run = c.args.run.now in
    let l = c.args.text.now in
    let is = ap (λ x. entry_text (course_of run.course) x.0) c.in_ok-entry.ensures.entry in
    writes-then (line l) _ _ _ _ _ c.take_entry.result c.in_ok-write_texts.ensures
    (writes-same (sym is) c.take_entry.ensures.wrote)
