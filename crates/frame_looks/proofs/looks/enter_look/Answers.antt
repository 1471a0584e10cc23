use Rattle.std.proofs.Common.{arith, sym}
use Rattle.std.proofs.lemmas.List.{length-map}
use Rattle.frame_store.specs.Entry.{entries, entry_of}
use Rattle.frame_state.proofs.HeldStops.{held_stop}
use Rattle.frame_looks.proofs.LookTurns.{turn_look, stop_look, look_parts, look_fixed, look_record}
use Rattle.frame_looks.proofs.looks.enter_look.Goals as goal

pub returns-in-Err-clause-stop : goal.returns-in-Err-clause-stop
returns-in-Err-clause-stop g c =
    held_stop _ _ _ c.args.spot.now _ _ c.in-Err.ensures.last c.in-Err.stop c.in-Err.ensures.stop
    (λ h. stop_look (g.S.Searchable.searched c.args.on.now) (g.met.S.Searchable.sound c.args.on.now) c.args.at
    c.args.spot.now (entries c.args.store.now.records) c.args.registers.now c.requires.valid _ _ _ _
    c.requires.node (omega (arith, h, c.unit_limit.ensures)))

pub begin_branches-requires-clause-inside : goal.begin_branches-requires-clause-inside
begin_branches-requires-clause-inside g c = look_parts (g.S.Searchable.searched c.args.on.now)
    (g.met.S.Searchable.sound c.args.on.now) c.args.at c.args.spot.now (entries c.args.store.now.records)
    c.args.registers.now c.requires.valid _ _ _ _ c.requires.node

pub begin_branches-requires-clause-fixed : goal.begin_branches-requires-clause-fixed
begin_branches-requires-clause-fixed g c = look_fixed (g.S.Searchable.searched c.args.on.now)
    (g.met.S.Searchable.sound c.args.on.now) c.args.at c.args.spot.now (entries c.args.store.now.records)
    c.args.registers.now c.requires.valid _ _ _ _ c.requires.node

pub returns-clause-on : goal.returns-clause-on
returns-clause-on g c =
    rw (
      c.begin_branches.ensures.next,
      c.begin_branches.ensures.spot,
      c.in_default.ensures.spot,
      c.in_default.ensures.pushed,
      c.look_kind-kind.ensures,
      look_record c.args.positive c.args.once c.args.spot.now c.args.at,
      sym (length-map c.args.store.now.records entry_of),
    )
    (turn_look (g.S.Searchable.searched c.args.on.now) (g.met.S.Searchable.sound c.args.on.now) c.args.at
    c.args.spot.now (entries c.args.store.now.records) c.args.registers.now c.requires.valid _ _ _ _
    c.requires.node (omega (arith, c.in_default.ensures.room, c.unit_limit.ensures)))
