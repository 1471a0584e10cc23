use Rattle.std.proofs.Common.{sym}
use Rattle.frame_state.proofs.ReachTurns.{noted_not}
use Rattle.frame_machine.proofs.enter.reach_anchor.Goals as goal

pub returns-then-not-reached-clause-on : goal.returns-then-not-reached-clause-on
returns-then-not-reached-clause-on g c = noted_not (g.S.Searchable.searched c.args.on.now) _ _ _
    (sym c.if-not-reached.ensures)
