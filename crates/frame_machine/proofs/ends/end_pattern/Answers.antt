use Rattle.std.proofs.Common.{sym}
use Rattle.frame_store.specs.Entry.{entries}
use Rattle.frame_state.specs.Frames.{spot_state}
use Rattle.frame_parts.proofs.EndTurns.{stop_found, turn_refused, admits, refuses}
use Rattle.frame_state.proofs.HeldStops.{tells_stop}
use Rattle.frame_machine.proofs.ends.end_pattern.Goals as goal

pub returns-then-is_admitted-clause-stop : goal.returns-then-is_admitted-clause-stop
returns-then-is_admitted-clause-stop g c =
    tells_stop c.args.spot.now _ _ (stop_found (g.S.Searchable.searched c.args.on.now) c.args.spot.now
    (entries c.args.store.now.records) c.args.registers.now c.requires.valid c.requires.whole
    (admits (g.S.Searchable.searched c.args.on.now).setting
    (spot_state (g.S.Searchable.searched c.args.on.now) c.args.spot.now (entries c.args.store.now.records)
    c.args.registers.now) (sym c.if-is_admitted.ensures)))

pub returns-clause-on : goal.returns-clause-on
returns-clause-on g c =
    turn_refused (g.S.Searchable.searched c.args.on.now) c.args.spot.now (entries c.args.store.now.records)
    c.args.registers.now c.requires.valid c.requires.whole
    (refuses (g.S.Searchable.searched c.args.on.now).setting
    (spot_state (g.S.Searchable.searched c.args.on.now) c.args.spot.now (entries c.args.store.now.records)
    c.args.registers.now) (sym c.if-is_admitted.ensures))
