use Rattle.std.proofs.Common.{◌∙◌}
use Rattle.pat_tree.specs.Pattern.{pattern_of}
use Rattle.test_lines.proofs.Naming.{shown-name, hidden-name}
use Rattle.test_lines.proofs.marks.name_of.Goals as goal

pub returns-then-marks : goal.returns-then-marks
returns-then-marks c = c.named.ensures ∙ shown-name (pattern_of c.args.code.now.tree) c.args.marks c.args.mark
    c.if-marks.true

pub returns-else-marks : goal.returns-else-marks
returns-else-marks c = hidden-name (pattern_of c.args.code.now.tree) c.args.marks c.args.mark c.if-marks.false
