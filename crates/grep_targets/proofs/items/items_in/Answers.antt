use Rattle.grep_targets.proofs.InOrder.{ordered-is}
use Rattle.grep_targets.specs.Paths.{item_of}
use Rattle.std.proofs.Common.{flat_map}
use Rattle.grep_targets.proofs.items.items_in.Goals as goal

pub returns-clause-items : goal.returns-clause-items
returns-clause-items c = ordered-is (flat_map (item_of c.args.path.now) c.args.entries) c.in_ok-items.items.items
    c.put_in_order.new.list.items c.in_ok-items.ensures c.put_in_order.ensures.ordered c.put_in_order.ensures.kept
    c.put_in_order.ensures.none_new
