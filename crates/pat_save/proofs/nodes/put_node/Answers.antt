use Rattle.std.proofs.Common.{◌∷◌}
use Rattle.pat_save.specs.Fields.{four_bytes}
use Rattle.pat_save.proofs.Steps.{written_as_one}
use Rattle.pat_save.proofs.nodes.put_node.Goals as goal

pub returns-in-Callout-clause-bytes : goal.returns-in-Callout-clause-bytes
returns-in-Callout-clause-bytes c =
    let w = c.in-Callout in
    rw w.is (
    written_as_one
    c.put_callout.result
    c.put_callout.new.out.items
    c.args.out.now.items
    (15 ∷ w.number ∷ four_bytes w.text_from)
    (four_bytes w.text_to)
    (four_bytes w.item_at)
    (four_bytes w.item_len)
    c.put_callout.ensures
    )
