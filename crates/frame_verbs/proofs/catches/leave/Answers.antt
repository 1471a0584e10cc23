use Rattle.std.proofs.Common.{◌∙◌, sym, arith}
use Rattle.std.proofs.lemmas.List.{length-map}
use Rattle.frame_store.specs.Entry.{entries, entry_of}
use Rattle.frame_state.proofs.HeldStops.{tells_stop}
use Rattle.frame_verbs.proofs.VerbTurns.{none_of}
use Rattle.frame_verbs.proofs.CatchTurns.{stop_leave, leave_within, leave_slots, turn_leaves, sound_parts}
use Rattle.frame_verbs.proofs.catches.leave.Goals as goal

pub left_height-requires-clause-sound : goal.left_height-requires-clause-sound
left_height-requires-clause-sound g c = sound_parts (g.S.Searchable.searched c.args.on.now) _ _
    (entries c.args.store.now.records) c.requires.valid.records

pub left_height-requires-clause-part : goal.left_height-requires-clause-part
left_height-requires-clause-part g c = c.requires.valid.running.0

pub left_height-requires-clause-within : goal.left_height-requires-clause-within
left_height-requires-clause-within g c = omega (
  arith,
  c.requires.valid.running.1.inside,
  length-map c.args.store.now.records entry_of,
)

pub undo_spans-requires-clause-slots : goal.undo_spans-requires-clause-slots
undo_spans-requires-clause-slots g c = leave_slots (g.S.Searchable.searched c.args.on.now)
    (g.met.S.Searchable.sound c.args.on.now) c.args.at c.args.spot.now c.args.store.now.records c.args.registers.now
    c.requires.valid _ (sym c.left_height.ensures ∙ c.in-Some.is)

pub left_height-requires-clause-contained : goal.left_height-requires-clause-contained
left_height-requires-clause-contained g c = c.requires.valid.running.1.contained

pub returns-in_default-clause-stop : goal.returns-in_default-clause-stop
returns-in_default-clause-stop g c = (
  tells_stop c.args.spot.now _ _
      (stop_leave (g.S.Searchable.searched c.args.on.now) (g.met.S.Searchable.sound c.args.on.now) c.args.at
      c.args.spot.now (entries c.args.store.now.records) c.args.registers.now c.requires.valid
      (sym c.left_height.ensures ∙ none_of c.left_height.result c.in_default.not-Some)),
  tt,
)

pub undo_spans-requires-clause-within : goal.undo_spans-requires-clause-within
undo_spans-requires-clause-within g c =
    let low = leave_within (g.S.Searchable.searched c.args.on.now) (g.met.S.Searchable.sound c.args.on.now) c.args.at
    c.args.spot.now c.args.store.now.records c.args.registers.now c.requires.valid _
    (sym c.left_height.ensures ∙ c.in-Some.is) in
    omega (arith, low, length-map c.args.store.now.records entry_of)

pub returns-clause-on : goal.returns-clause-on
returns-clause-on g c =
    turn_leaves (g.S.Searchable.searched c.args.on.now) (g.met.S.Searchable.sound c.args.on.now) c.args.at
    c.args.spot.now c.args.store.now.records c.args.registers.now c.requires.valid _
    (sym c.left_height.ensures ∙ c.in-Some.is) _ c.undo_spans.ensures.cut _ c.undo_spans.ensures.undone
