use Rattle.frame_looks.proofs.LookTurns.{turn_look_down, denied_height, denied_slots}
use Rattle.frame_looks.proofs.looks.deny.Goals as goal

pub undo_spans-requires-clause-within : goal.undo_spans-requires-clause-within
undo_spans-requires-clause-within g c = denied_height c.args.store.now.records c.args.height c.args.frame.now
    c.requires.at

pub undo_spans-requires-clause-slots : goal.undo_spans-requires-clause-slots
undo_spans-requires-clause-slots g c = denied_slots (g.S.Searchable.searched c.args.on.now)
    (g.met.S.Searchable.sound c.args.on.now) c.args.spot.now c.args.store.now.records c.args.registers.now
    c.requires.valid c.args.height

pub returns-clause-on : goal.returns-clause-on
returns-clause-on g c = turn_look_down (g.S.Searchable.searched c.args.on.now)
    (g.met.S.Searchable.sound c.args.on.now) c.args.spot.now c.args.store.now.records c.args.registers.now
    c.requires.valid c.args.height c.requires.frame c.args.frame.now c.requires.at c.requires.kind _
    c.undo_spans.ensures.cut _ c.undo_spans.ensures.undone
