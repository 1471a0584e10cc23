use Rattle.frame_machine.proofs.AcceptTurns.{turn_accept_turn}
use Rattle.frame_machine.proofs.accepts.accept_turn.Goals as goal

pub returns-clause-on : goal.returns-clause-on
returns-clause-on g c = turn_accept_turn (g.S.Searchable.searched c.args.on.now)
    (g.met.S.Searchable.sound c.args.on.now) c.args.spot.now c.args.store.now.records c.args.registers.now
    c.requires.valid c.args.height c.requires.frame c.args.frame.now c.requires.at c.requires.kind
