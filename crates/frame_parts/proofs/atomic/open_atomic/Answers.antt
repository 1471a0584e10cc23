use Rattle.std.proofs.Common.{arith, sym}
use Rattle.std.proofs.lemmas.List.{length-map}
use Rattle.frame_store.specs.Entry.{entry_in, entries, entry_of}
use Rattle.frame_state.proofs.HeldStops.{held_stop}
use Rattle.frame_parts.proofs.AtomicTurns.{turn_atomic, stop_atomic}
use Rattle.frame_parts.proofs.atomic.open_atomic.Goals as goal

pub returns-in-Err-clause-stop : goal.returns-in-Err-clause-stop
returns-in-Err-clause-stop g c =
    held_stop _ _ _ c.args.spot.now _ _ c.in-Err.ensures.last c.in-Err.stop c.in-Err.ensures.stop
    (λ h. stop_atomic (g.S.Searchable.searched c.args.on.now) (g.met.S.Searchable.sound c.args.on.now) c.args.at
    c.args.spot.now (entries c.args.store.now.records) c.args.registers.now c.requires.valid _ c.requires.node
    c.requires.other (omega (arith, h, c.unit_limit.ensures)))

pub returns-clause-on : goal.returns-clause-on
unfolding entry_in
returns-clause-on g c =
    rw (
      c.first_branch.ensures,
      c.in_default.ensures.spot,
      c.in_default.ensures.pushed,
      sym (length-map c.args.store.now.records entry_of),
    )
    (turn_atomic (g.S.Searchable.searched c.args.on.now) (g.met.S.Searchable.sound c.args.on.now) c.args.at
    c.args.spot.now (entries c.args.store.now.records) c.args.registers.now c.requires.valid _ c.requires.node
    c.requires.other (omega (arith, c.in_default.ensures.room, c.unit_limit.ensures)))
