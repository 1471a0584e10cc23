use Rattle.std.proofs.Common.{refl, subst, ap}
use Rattle.frame_state.specs.Stops.{tells}
use Rattle.frame_store.specs.Entry.{entries}
use Rattle.frame_state.proofs.Advance.{advance_same}
use Rattle.frame_state.proofs.MostOf.{ok_more}
use Rattle.frame_state.proofs.ReachTurns.{err_more}
use Rattle.frame_state.proofs.Turns.{turn_empty, turn_keep, turn_one, stop_one, turn_break, stop_break, turn_ref}
use Rattle.frame_state.proofs.Turns.{stop_ref, turn_anchor, stop_anchor, turn_parts, ahead_repeat}
use Rattle.pat_tree.specs.Rules.{IsOrdered}
use Rattle.frame_parts.proofs.ItemTurns.{turn_led, stop_many}
use Rattle.frame_state.specs.Ground.{IsNode}
use Rattle.frame_state.proofs.CalloutTurns.{still, still_stop, ok_still, err_still, err_same, callout_goes}
use Rattle.frame_state.proofs.CalloutTurns.{callout_stops}
use Rattle.frame_machine.proofs.CalloutParts.{callout_is, callout_shown}
use Rattle.frame_machine.proofs.enter.enter.Goals as goal

pub returns-in-Empty-clause-on : goal.returns-in-Empty-clause-on
returns-in-Empty-clause-on g c =
    rw c.go_on.ensures
    (still _ _ _ _ (turn_empty (g.S.Searchable.searched c.args.on.now) (g.met.S.Searchable.sound c.args.on.now)
    c.args.at c.args.spot.now (entries c.args.store.now.records) c.args.registers.now c.requires.valid _
    c.node.ensures c.in-Empty.is))

pub returns-in-KeepOut-clause-on : goal.returns-in-KeepOut-clause-on
returns-in-KeepOut-clause-on g c = rw c.go_on-in-KeepOut.ensures
    (still _ _ _ _ (turn_keep (g.S.Searchable.searched c.args.on.now) (g.met.S.Searchable.sound c.args.on.now)
    c.args.at c.args.spot.now (entries c.args.store.now.records) c.args.registers.now c.requires.valid _
    c.node.ensures c.in-KeepOut.is))

pub returns-in-One-clause-on : goal.returns-in-One-clause-on
returns-in-One-clause-on g c =
    ok_more _ _ c.enter_one.result
    (λ next t. still _ _ _ _ (turn_one (g.S.Searchable.searched c.args.on.now)
    (g.met.S.Searchable.sound c.args.on.now) c.args.at c.args.spot.now (entries c.args.store.now.records)
    c.args.registers.now c.requires.valid _ c.node.ensures _ c.in-One.is _ refl _ refl next _ t))
    c.enter_one.ensures.on

pub returns-in-One-clause-stop : goal.returns-in-One-clause-stop
returns-in-One-clause-stop g c =
    err_more _ _ c.enter_one.result (λ s h. still_stop _ _ _ _ _
    (stop_one (g.S.Searchable.searched c.args.on.now) (g.met.S.Searchable.sound c.args.on.now) c.args.at
    c.args.spot.now (entries c.args.store.now.records) c.args.registers.now c.requires.valid _ c.node.ensures
    _ c.in-One.is _ refl _ s h)) c.enter_one.ensures.stop

pub returns-in-Break-clause-on : goal.returns-in-Break-clause-on
returns-in-Break-clause-on g c =
    ok_more _ _ c.enter_break.result
    (λ next t. still _ _ _ _ (turn_break (g.S.Searchable.searched c.args.on.now)
    (g.met.S.Searchable.sound c.args.on.now) c.args.at c.args.spot.now (entries c.args.store.now.records)
    c.args.registers.now c.requires.valid _ c.node.ensures c.in-Break.is _ refl _ refl next _ t))
    c.enter_break.ensures.on

pub returns-in-Break-clause-stop : goal.returns-in-Break-clause-stop
returns-in-Break-clause-stop g c =
    err_more _ _ c.enter_break.result (λ s h. still_stop _ _ _ _ _
    (stop_break (g.S.Searchable.searched c.args.on.now) (g.met.S.Searchable.sound c.args.on.now) c.args.at
    c.args.spot.now (entries c.args.store.now.records) c.args.registers.now c.requires.valid _ c.node.ensures
    c.in-Break.is _ refl _ s h)) c.enter_break.ensures.stop

pub returns-in-Ref-clause-on : goal.returns-in-Ref-clause-on
returns-in-Ref-clause-on g c =
    ok_more _ _ c.enter_ref.result
    (λ next t. still _ _ _ _ (turn_ref (g.S.Searchable.searched c.args.on.now)
    (g.met.S.Searchable.sound c.args.on.now) c.args.at c.args.spot.now (entries c.args.store.now.records)
    c.args.registers.now c.requires.valid _ c.node.ensures _ _ c.in-Ref.is next _
    (rw c.as_slice.ensures at t))) c.enter_ref.ensures.on

pub returns-in-Ref-clause-stop : goal.returns-in-Ref-clause-stop
returns-in-Ref-clause-stop g c =
    err_more _ _ c.enter_ref.result (λ s h. still_stop _ _ _ _ _
    (stop_ref (g.S.Searchable.searched c.args.on.now) (g.met.S.Searchable.sound c.args.on.now) c.args.at
    c.args.spot.now (entries c.args.store.now.records) c.args.registers.now c.requires.valid _ c.node.ensures
    _ _ c.in-Ref.is _ s (rw c.as_slice.ensures at h))) c.enter_ref.ensures.stop

pub returns-in-Anchor-clause-on : goal.returns-in-Anchor-clause-on
returns-in-Anchor-clause-on g c =
    ok_more _ _ c.anchor.result
    (λ next t. still _ _ _ _ (turn_anchor (g.S.Searchable.searched c.args.on.now)
    (g.met.S.Searchable.sound c.args.on.now) c.args.at c.args.spot.now (entries c.args.store.now.records)
    c.args.registers.now c.requires.valid _ c.node.ensures _ c.in-Anchor.is next _ t)) c.anchor.ensures.on

pub returns-in-Anchor-clause-stop : goal.returns-in-Anchor-clause-stop
returns-in-Anchor-clause-stop g c =
    err_more _ _ c.anchor.result (λ s h. still_stop _ _ _ _ _
    (stop_anchor (g.S.Searchable.searched c.args.on.now) (g.met.S.Searchable.sound c.args.on.now) c.args.at
    c.args.spot.now (entries c.args.store.now.records) c.args.registers.now c.requires.valid _ c.node.ensures
    _ c.in-Anchor.is _ s h)) c.anchor.ensures.stop

pub returns-in-Seq-clause-on : goal.returns-in-Seq-clause-on
returns-in-Seq-clause-on g c = rw c.first_part.ensures
    (still _ _ _ _ (turn_parts (g.S.Searchable.searched c.args.on.now) (g.met.S.Searchable.sound c.args.on.now)
    c.args.at c.args.spot.now (entries c.args.store.now.records) c.args.registers.now c.requires.valid _
    c.node.ensures _ c.in-Seq.is))

pub returns-in-OneRepeat-clause-on : goal.returns-in-OneRepeat-clause-on
returns-in-OneRepeat-clause-on g c =
    ok_more _ _ c.enter_many.result
    (λ next t. still _ _ _ _ (turn_led (g.S.Searchable.searched c.args.on.now)
    (g.met.S.Searchable.sound c.args.on.now) c.args.at c.args.spot.now (entries c.args.store.now.records)
    c.args.registers.now c.requires.valid _ c.node.ensures _ _ _ _ c.in-OneRepeat.is next _ t))
    c.enter_many.ensures.on

pub returns-in-OneRepeat-clause-stop : goal.returns-in-OneRepeat-clause-stop
returns-in-OneRepeat-clause-stop g c =
    err_more _ _ c.enter_many.result (λ s h. still_stop _ _ _ _ _
    (stop_many (g.S.Searchable.searched c.args.on.now) (g.met.S.Searchable.sound c.args.on.now) c.args.at
    c.args.spot.now (entries c.args.store.now.records) c.args.registers.now c.requires.valid _ c.node.ensures
    _ _ _ _ c.in-OneRepeat.is _ s h)) c.enter_many.ensures.stop

pub enter_many-requires-clause-ordered : goal.enter_many-requires-clause-ordered
enter_many-requires-clause-ordered g c = subst IsOrdered c.in-OneRepeat.is c.node.ensures.ordered

pub returns-in-Repeat-clause-on : goal.returns-in-Repeat-clause-on
returns-in-Repeat-clause-on g c =
    ok_more _ _ c.offer.result
    (λ x a. still _ _ _ _ (advance_same (g.S.Searchable.searched c.args.on.now) _ _ _
    (ahead_repeat (g.S.Searchable.searched c.args.on.now) (g.met.S.Searchable.sound c.args.on.now) c.args.at
    c.args.spot.now (entries c.args.store.now.records) c.args.registers.now c.requires.valid _
    c.node.ensures _ _ _ _ c.in-Repeat.is) refl a)) c.offer.ensures.on

pub enter_atomic-requires-clause-node : goal.enter_atomic-requires-clause-node
enter_atomic-requires-clause-node g c = subst (IsNode (g.S.Searchable.searched c.args.on.now) c.args.at)
    c.in-Atomic.is c.node.ensures

pub enter_look-requires-clause-node : goal.enter_look-requires-clause-node
enter_look-requires-clause-node g c = subst (IsNode (g.S.Searchable.searched c.args.on.now) c.args.at) c.in-Look.is
    c.node.ensures

pub enter_condition-requires-clause-node : goal.enter_condition-requires-clause-node
enter_condition-requires-clause-node g c = subst (IsNode (g.S.Searchable.searched c.args.on.now) c.args.at)
    c.in-Cond.is c.node.ensures

pub enter_group-requires-clause-node : goal.enter_group-requires-clause-node
enter_group-requires-clause-node g c = subst (IsNode (g.S.Searchable.searched c.args.on.now) c.args.at) c.in-Group.is
    c.node.ensures

pub enter_call-requires-clause-node : goal.enter_call-requires-clause-node
enter_call-requires-clause-node g c = subst (IsNode (g.S.Searchable.searched c.args.on.now) c.args.at) c.in-Call.is
    c.node.ensures

pub enter_verb-requires-clause-node : goal.enter_verb-requires-clause-node
enter_verb-requires-clause-node g c = subst (IsNode (g.S.Searchable.searched c.args.on.now) c.args.at)
    c.in-VerbNode.is c.node.ensures

pub returns-in-Group-clause-on : goal.returns-in-Group-clause-on
returns-in-Group-clause-on g c = ok_still _ _ _ _ c.enter_group.result c.enter_group.ensures.on

pub returns-in-Group-clause-stop : goal.returns-in-Group-clause-stop
returns-in-Group-clause-stop g c = err_still _ _ _ _ c.enter_group.result c.enter_group.ensures.stop

pub returns-in-Atomic-clause-on : goal.returns-in-Atomic-clause-on
returns-in-Atomic-clause-on g c = ok_still _ _ _ _ c.enter_atomic.result c.enter_atomic.ensures.on

pub returns-in-Atomic-clause-stop : goal.returns-in-Atomic-clause-stop
returns-in-Atomic-clause-stop g c = err_still _ _ _ _ c.enter_atomic.result c.enter_atomic.ensures.stop

pub returns-in-Look-clause-on : goal.returns-in-Look-clause-on
returns-in-Look-clause-on g c = ok_still _ _ _ _ c.enter_look.result c.enter_look.ensures.on

pub returns-in-Look-clause-stop : goal.returns-in-Look-clause-stop
returns-in-Look-clause-stop g c = err_still _ _ _ _ c.enter_look.result c.enter_look.ensures.stop

pub returns-in-Call-clause-on : goal.returns-in-Call-clause-on
returns-in-Call-clause-on g c = ok_still _ _ _ _ c.enter_call.result c.enter_call.ensures.on

pub returns-in-Call-clause-stop : goal.returns-in-Call-clause-stop
returns-in-Call-clause-stop g c = err_still _ _ _ _ c.enter_call.result c.enter_call.ensures.stop

pub returns-in-VerbNode-clause-on : goal.returns-in-VerbNode-clause-on
returns-in-VerbNode-clause-on g c = ok_still _ _ _ _ c.enter_verb.result c.enter_verb.ensures.on

pub returns-in-VerbNode-clause-stop : goal.returns-in-VerbNode-clause-stop
returns-in-VerbNode-clause-stop g c = err_still _ _ _ _ c.enter_verb.result c.enter_verb.ensures.stop

pub returns-in-Repeat-clause-stop : goal.returns-in-Repeat-clause-stop
returns-in-Repeat-clause-stop g c =
    err_same _ _ _ _ _ c.offer.result
    (ap (tells (g.S.Searchable.searched c.args.on.now).setting c.args.spot.now)
    (ahead_repeat (g.S.Searchable.searched c.args.on.now) (g.met.S.Searchable.sound c.args.on.now) c.args.at
    c.args.spot.now (entries c.args.store.now.records) c.args.registers.now c.requires.valid _ c.node.ensures
    _ _ _ _ c.in-Repeat.is))
    c.offer.ensures.stop

pub enter_callout-requires : goal.enter_callout-requires
enter_callout-requires g c = record { inside = c.requires.valid.running.0 }

pub block_at-requires-clause-callout : goal.block_at-requires-clause-callout
block_at-requires-clause-callout g c = callout_is _ _ _ _ _ _ _
    (subst (IsNode (g.S.Searchable.searched c.args.on.now) c.args.at) c.in-Callout.is c.node.ensures)

pub returns-in-Callout-clause-on : goal.returns-in-Callout-clause-on
returns-in-Callout-clause-on g c =
    let i = subst (IsNode (g.S.Searchable.searched c.args.on.now) c.args.at) c.in-Callout.is c.node.ensures in
    callout_goes (g.S.Searchable.searched c.args.on.now) (g.met.S.Searchable.sound c.args.on.now) c.args.at
    c.args.spot.now (entries c.args.store.now.records) c.args.registers.now c.requires.valid
    (g.C.Callouts.answers c.args.calls.now) c.requires.replied _ _ _ _ _ i _ _ c.block_at.result
    (callout_shown _ _ _ _ _ _ _ i c.args.spot.now c.block_at.result c.block_at.ensures)
    c.enter_callout.result c.enter_callout.ensures.next c.enter_callout.ensures.seen

pub returns-in-Callout-clause-stop : goal.returns-in-Callout-clause-stop
returns-in-Callout-clause-stop g c =
    let i = subst (IsNode (g.S.Searchable.searched c.args.on.now) c.args.at) c.in-Callout.is c.node.ensures in
    callout_stops (g.S.Searchable.searched c.args.on.now) (g.met.S.Searchable.sound c.args.on.now) c.args.at
    c.args.spot.now (entries c.args.store.now.records) c.args.registers.now c.requires.valid
    (g.C.Callouts.answers c.args.calls.now) c.requires.replied _ _ _ _ _ i _ _ c.block_at.result
    (callout_shown _ _ _ _ _ _ _ i c.args.spot.now c.block_at.result c.block_at.ensures)
    c.enter_callout.result c.enter_callout.ensures.stop
