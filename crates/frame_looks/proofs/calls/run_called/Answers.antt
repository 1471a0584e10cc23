use Rattle.std.proofs.Common.{Some, subst}
use Rattle.frame_store.specs.Entry.{entries}
use Rattle.frame_state.specs.Ground.{IsNode}
use Rattle.frame_looks.proofs.CallTurns.{turn_called_whole}
use Rattle.frame_looks.proofs.calls.run_called.Goals as goal

pub run_group-requires-clause-node : goal.run_group-requires-clause-node
run_group-requires-clause-node g c = subst (IsNode (g.S.Searchable.searched c.args.on.now) c.args.part) c.in-Group.is
    c.node.ensures

pub returns-in_default-clause-on : goal.returns-in_default-clause-on
returns-in_default-clause-on g c = turn_called_whole (g.S.Searchable.searched c.args.on.now)
    (g.met.S.Searchable.sound c.args.on.now) c.args.part c.args.spot.now (entries c.args.store.now.records)
    c.args.registers.now c.requires.calling c.requires.callee _ c.node.ensures
    (λ m ks e. c.in_default.not-Group (Some m) ks e)
