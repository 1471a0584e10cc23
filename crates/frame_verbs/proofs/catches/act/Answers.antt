use Rattle.std.proofs.Common.{◌∙◌, sym, arith}
use Rattle.std.proofs.lemmas.List.{length-map}
use Rattle.frame_store.specs.Entry.{entries, entry_of}
use Rattle.frame_state.proofs.HeldStops.{tells_stop}
use Rattle.frame_verbs.proofs.CatchTurns.{act_nested, act_within, act_slots, stop_act, turn_acts}
use Rattle.frame_verbs.proofs.catches.act.Goals as goal

pub catcher-height-requires-clause-nested : goal.catcher-height-requires-clause-nested
catcher-height-requires-clause-nested g c = act_nested (g.S.Searchable.searched c.args.on.now)
    (g.met.S.Searchable.sound c.args.on.now) c.args.acting c.args.spot.now (entries c.args.store.now.records)
    c.args.registers.now c.requires.valid

pub catcher-height-requires-clause-within : goal.catcher-height-requires-clause-within
catcher-height-requires-clause-within g c =
    omega (arith, c.requires.valid.running.0.inside, length-map c.args.store.now.records entry_of)

pub returns-then-height-eq0-clause-stop : goal.returns-then-height-eq0-clause-stop
returns-then-height-eq0-clause-stop g c = (
  tells_stop c.args.spot.now _ _
      (stop_act (g.S.Searchable.searched c.args.on.now) (g.met.S.Searchable.sound c.args.on.now) c.args.acting
      c.args.spot.now (entries c.args.store.now.records) c.args.registers.now c.requires.valid
      (sym c.catcher-height.ensures ∙ c.if-height-eq0.true)),
  c.requires.valid.running.1,
)

pub undo_spans-requires-clause-within : goal.undo_spans-requires-clause-within
undo_spans-requires-clause-within g c =
    let low = act_within (g.S.Searchable.searched c.args.on.now) (g.met.S.Searchable.sound c.args.on.now)
    c.args.acting c.args.spot.now c.args.store.now.records c.args.registers.now c.requires.valid _
    c.catcher-height.ensures in
    omega (arith, low, length-map c.args.store.now.records entry_of)

pub undo_spans-requires-clause-slots : goal.undo_spans-requires-clause-slots
undo_spans-requires-clause-slots g c = act_slots (g.S.Searchable.searched c.args.on.now)
    (g.met.S.Searchable.sound c.args.on.now) c.args.acting c.args.spot.now c.args.store.now.records
    c.args.registers.now c.requires.valid _ c.catcher-height.ensures

pub returns-clause-on : goal.returns-clause-on
returns-clause-on g c =
    turn_acts (g.S.Searchable.searched c.args.on.now) (g.met.S.Searchable.sound c.args.on.now) c.args.acting
    c.args.spot.now c.args.store.now.records c.args.registers.now c.requires.valid _ c.catcher-height.ensures
    c.if-height-eq0.false _ c.undo_spans.ensures.cut _ c.undo_spans.ensures.undone
