use Rattle.pat_shape.proofs.Items.{any_told}
use Rattle.pat_shape.proofs.pieces.any_text.Goals as goal

pub returns : goal.returns
returns c =
    any_told c.args.tree.now c.args.lined c.in_ok-new.field-0 c.in_ok-bytes.bytes.items c.rounds.result
    c.in_ok-new.ensures c.in_ok-bytes.ensures.all c.rounds.ensures
