use Rattle.std.proofs.Common.{◌∙◌, sym, arith}
use Rattle.match_items.specs.Views.{text_scene}
use Rattle.match_items.proofs.OneItem.{told_no, told_took}
use Rattle.match_items.proofs.items.step.Goals as goal

pub returns-then-takes-clause-takes : goal.returns-then-takes-clause-takes
returns-then-takes-clause-takes g c =
    told_took (text_scene c.args.view.now c.args.classes.now) c.args.item.now c.args.at c.char_at-c.result.0
    c.char_at-c.result.1 (omega (arith, c.if-at-view.false)) c.char_at-c.ensures.value
    (sym c.takes.ensures.value ∙ c.if-takes.true)

pub returns-else-takes-clause-takes : goal.returns-else-takes-clause-takes
returns-else-takes-clause-takes g c =
    told_no (text_scene c.args.view.now c.args.classes.now) c.args.item.now c.args.at c.char_at-c.result.0
    c.char_at-c.result.1 (omega (arith, c.if-at-view.false)) c.char_at-c.ensures.value
    (sym c.takes.ensures.value ∙ c.if-takes.false)
