use Rattle.std.proofs.Common.{sym, ◌∙◌}
use Rattle.pat_tree.specs.Pattern.{pattern_of}
use Rattle.pcre2_api.specs.Patterns.{setting}
use Rattle.pcre2_api.proofs.Starting.{only}
use Rattle.test_lines.specs.Marks.{showing}
use Rattle.test_run.proofs.Searching.{unbegun-line}
use Rattle.test_run.proofs.Listing.{searched-unbegun}
use Rattle.test_lines.proofs.Writing.{writes-equal}
use Rattle.test_run.proofs.matches.write_matches.Goals as goal

pub returns-in-Err : goal.returns-in-Err
returns-in-Err g c =
    let t = c.args.tested.now in
    let p = pattern_of t.code.tree in
    let how = c.args.how.now in
    let subject = c.args.subject.now in
    let fault = only (setting p how.matching subject how.start) c.in-Err.e c.in-Err.ensures.refused in
    writes-equal (unbegun-line (showing p how.marks) subject c.in-Err.e fault
    ∙ sym (searched-unbegun t.pattern p how subject c.in-Err.e c.in-Err.ensures.refused)) c.write_failed.ensures
