use Rattle.std.proofs.Common.{◌∙◌}
use Rattle.pat_tree.specs.Pattern.{pattern_of}
use Rattle.test_lines.proofs.Naming.{shown-name, hidden-name}
use Rattle.test_lines.proofs.marks.mark_of.Goals as goal

pub returns-then-marks : goal.returns-then-marks
returns-then-marks c =
    let f = c.args.found.now in
    c.mark.ensures ∙ shown-name (pattern_of f.code.tree) c.args.marks f.outcome.mark c.if-marks.true

pub returns-else-marks : goal.returns-else-marks
returns-else-marks c =
    let f = c.args.found.now in
    hidden-name (pattern_of f.code.tree) c.args.marks f.outcome.mark c.if-marks.false
