use Rattle.std.proofs.Common.{◌∙◌, sym, ap}
use Rattle.char_sets.specs.Sets.{class_has}
use Rattle.pat_shape.proofs.Items.{bytes_told, chars_told}
use Rattle.pat_shape.proofs.pieces.item_shape.Goals as goal

pub returns-in_ok-new : goal.returns-in_ok-new
returns-in_ok-new c =
    chars_told c.args.tree.now c.args.lined c.args.item.now c.in_ok-new.field-0 c.push.new.self.items
    c.in_ok-ranges.ranges.items c.past_bytes.result
    c.in_ok-new.ensures c.in_ok-push.ensures.items c.in_ok-ranges.ensures.all
    (c.past_bytes.ensures (class_has c.args.tree.now))
    (sym (ap (λ o. o.utf) c.options.ensures) ∙ c.if-options.true)

pub returns-in_ok-new-2 : goal.returns-in_ok-new-2
returns-in_ok-new-2 c =
    bytes_told c.args.tree.now c.args.lined c.args.item.now c.in_ok-new-2.field-0 c.in_ok-ranges.ranges.items
    c.in_ok-new-2.ensures c.in_ok-ranges.ensures.all c.in_ok-ranges.ensures.only
    (sym (ap (λ o. o.utf) c.options.ensures) ∙ c.if-options.false)
