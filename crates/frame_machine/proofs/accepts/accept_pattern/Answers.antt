use Rattle.std.proofs.Common.{sym}
use Rattle.frame_store.specs.Entry.{entries}
use Rattle.frame_state.proofs.HeldStops.{tells_stop}
use Rattle.frame_machine.proofs.AcceptTurns.{turn_accept_empty, stop_accept_end, stop_accept_found}
use Rattle.frame_machine.proofs.accepts.accept_pattern.Goals as goal

pub returns-then-is_refused_as_empty-clause-on : goal.returns-then-is_refused_as_empty-clause-on
returns-then-is_refused_as_empty-clause-on g c =
    turn_accept_empty (g.S.Searchable.searched c.args.on.now) c.args.spot.now (entries c.args.store.now.records)
    c.args.registers.now c.requires.valid c.requires.whole (sym c.if-is_refused_as_empty.ensures)

pub returns-then-is_refused_by_end-clause-stop : goal.returns-then-is_refused_by_end-clause-stop
returns-then-is_refused_by_end-clause-stop g c =
    tells_stop c.args.spot.now _ _
    (stop_accept_end (g.S.Searchable.searched c.args.on.now) c.args.spot.now (entries c.args.store.now.records)
    c.args.registers.now c.requires.valid c.requires.whole (sym c.if-is_refused_as_empty.ensures)
    (sym c.if-is_refused_by_end.ensures))

pub returns-clause-stop : goal.returns-clause-stop
returns-clause-stop g c =
    tells_stop c.args.spot.now _ _
    (stop_accept_found (g.S.Searchable.searched c.args.on.now) c.args.spot.now (entries c.args.store.now.records)
    c.args.registers.now c.requires.valid c.requires.whole (sym c.if-is_refused_as_empty.ensures)
    (sym c.if-is_refused_by_end.ensures))
