use Rattle.std.proofs.Common.{sym}
use Rattle.frame_store.proofs.EntryLemmas.{entry_of-undo, taken_back-not_undo}
use Rattle.frame_store.proofs.store.put_back_one.Goals as goal

pub set_captured-requires : goal.set_captured-requires
set_captured-requires c = rw (c.from.ensures) (rw (entry_of-undo c.args.r.now c.if-r-eq-KIND_UNDO.true) at c.requires)

pub returns-then-r-eq-KIND_UNDO : goal.returns-then-r-eq-KIND_UNDO
returns-then-r-eq-KIND_UNDO c = rw (entry_of-undo c.args.r.now c.if-r-eq-KIND_UNDO.true)
    (rw (← c.from.ensures, ← c.kept_value.ensures) c.set_captured.ensures)

pub returns-else-r-eq-KIND_UNDO : goal.returns-else-r-eq-KIND_UNDO
returns-else-r-eq-KIND_UNDO c = sym (taken_back-not_undo c.args.r.now c.args.registers.now c.if-r-eq-KIND_UNDO.false)
