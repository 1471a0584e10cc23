use Rattle.frame_looks.proofs.LookTurns.{through_inside, turn_look_through}
use Rattle.frame_looks.proofs.looks.pass_look.Goals as goal

pub go_on-requires : goal.go_on-requires
go_on-requires g c = through_inside (g.S.Searchable.searched c.args.on.now) (g.met.S.Searchable.sound c.args.on.now)
    c.args.spot.now c.args.store.now.records c.args.registers.now c.requires.valid c.args.height c.requires.frame
    c.args.frame.now c.requires.at c.requires.kind

pub returns-clause-on : goal.returns-clause-on
returns-clause-on g c = rw (c.go_on.ensures, c.go_back.ensures)
    (turn_look_through (g.S.Searchable.searched c.args.on.now) (g.met.S.Searchable.sound c.args.on.now)
    c.args.spot.now c.args.store.now.records c.args.registers.now c.requires.valid c.args.height c.requires.frame
    c.args.frame.now c.requires.at c.requires.kind)
