use Rattle.std.proofs.Common.{◌≡◌, ◌++◌, List, length, take, reverse}
use Rattle.frame_store.specs.Entry.{Entry, entries}
use Rattle.frame_store.specs.Gains.{IsGathered}
use Rattle.frame_store.proofs.gains.gather_newer.Given as goal

abbrev pub invariant-records : goal.invariant-records
invariant-records l = record {
  count : length l.values ≡ length l.fn.values;
  gathered : (es : List Entry) → IsGathered l.fn.values es
      → IsGathered l.values (entries (reverse (take l.i l.records)) ++ es);
}
