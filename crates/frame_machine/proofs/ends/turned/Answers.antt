use Rattle.std.proofs.Common.{arith, sym}
use Rattle.frame_parts.proofs.EndTurns.{turn_sound, turn_ended, turn_goes_on, count_few}
use Rattle.frame_machine.proofs.ends.turned.Goals as goal

pub turns_of-turns-requires-clause-inside : goal.turns_of-turns-requires-clause-inside
turns_of-turns-requires-clause-inside g c =
    (turn_sound (g.S.Searchable.searched c.args.on.now) (g.met.S.Searchable.sound c.args.on.now) c.args.spot.now
    c.args.store.now.records c.args.registers.now c.requires.valid c.args.height c.requires.frame c.args.frame.now
    c.requires.at c.requires.kind).0

pub turns_of-turns-requires-clause-repeat : goal.turns_of-turns-requires-clause-repeat
turns_of-turns-requires-clause-repeat g c =
    (turn_sound (g.S.Searchable.searched c.args.on.now) (g.met.S.Searchable.sound c.args.on.now) c.args.spot.now
    c.args.store.now.records c.args.registers.now c.requires.valid c.args.height c.requires.frame c.args.frame.now
    c.requires.at c.requires.kind).1

pub returns-then-is_over-clause-on : goal.returns-then-is_over-clause-on
returns-then-is_over-clause-on g c =
    rw c.go_on.ensures (turn_ended (g.S.Searchable.searched c.args.on.now) (g.met.S.Searchable.sound c.args.on.now)
    c.args.spot.now c.args.store.now.records c.args.registers.now c.requires.valid c.args.height c.requires.frame
    c.args.frame.now c.requires.at c.requires.kind c.turns_of-turns.result.body c.turns_of-turns.result.min
    c.turns_of-turns.result.max c.turns_of-turns.result.lazy c.turns_of-turns.ensures.is (sym c.if-is_over.ensures))

pub go_on-requires : goal.go_on-requires
go_on-requires g c = (turn_sound (g.S.Searchable.searched c.args.on.now) (g.met.S.Searchable.sound c.args.on.now)
    c.args.spot.now c.args.store.now.records c.args.registers.now c.requires.valid c.args.height c.requires.frame
    c.args.frame.now c.requires.at c.requires.kind).0

pub returns-clause-on : goal.returns-clause-on
returns-clause-on g c = turn_goes_on (g.S.Searchable.searched c.args.on.now) (g.met.S.Searchable.sound c.args.on.now)
    c.args.spot.now c.args.store.now.records c.args.registers.now c.requires.valid c.args.height c.requires.frame
    c.args.frame.now c.requires.at c.requires.kind c.turns_of-turns.result.body c.turns_of-turns.result.min
    c.turns_of-turns.result.max c.turns_of-turns.result.lazy c.turns_of-turns.ensures.is _ (omega arith)
    (sym c.if-is_over.ensures)

pub overflow_add-result : goal.overflow_add-result
overflow_add-result g c = let z = count_few (g.S.Searchable.searched c.args.on.now)
    (g.met.S.Searchable.sound c.args.on.now) c.args.spot.now c.args.store.now.records c.args.registers.now
    c.requires.valid c.args.height c.requires.frame c.args.frame.now c.requires.at c.requires.kind
    c.turns_of-turns.result.body c.turns_of-turns.result.min c.turns_of-turns.result.max c.turns_of-turns.result.lazy
    c.turns_of-turns.ensures.is in omega (arith, z)
