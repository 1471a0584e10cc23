use Rattle.std.proofs.Common.{arith}
use Rattle.match_items.specs.Views.{bare_text}
use Rattle.match_items.proofs.OneItem.{told_no_break, told_break_end}
use Rattle.match_items.proofs.anchors.break_step.Goals as goal

pub returns-then-at-view : goal.returns-then-at-view
returns-then-at-view c = told_break_end (bare_text c.args.view.now) c.args.at (omega (arith, c.if-at-view.true))

pub returns-in-0 : goal.returns-in-0
returns-in-0 c = told_no_break (bare_text c.args.view.now) c.args.at (omega (arith, c.if-at-view.false))
    (omega (arith, c.break_len.ensures, c.in-0.is))
