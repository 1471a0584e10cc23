use Rattle.std.proofs.Common.{◌≡◌, take, reverse, All}
use Rattle.frame_store.specs.Entry.{entries}
use Rattle.frame_store.specs.Undo.{undone, HasSlot}
use Rattle.frame_store.proofs.store.put_back.Given as goal

abbrev pub invariant-records : goal.invariant-records
invariant-records l = record {
  back :
      undone (entries (reverse (take l.i l.records))) l.registers
      ≡ undone (entries (reverse l.records)) l.initial.registers;
  slots : All (HasSlot l.registers) (entries (reverse (take l.i l.records)));
}
