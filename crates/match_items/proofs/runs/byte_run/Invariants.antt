use Rattle.std.proofs.Common.{◌≡◌, ◌==◌, false, get_or}
use Rattle.byte_lanes.specs.Places.{Nowhere}
use Rattle.match_items.proofs.runs.byte_run.Given as goal

abbrev pub invariant-loop-i : goal.invariant-loop-i
invariant-loop-i l = Nowhere (λ k. (l.c == get_or l.bytes k 0) ≡ false) l.from l.i
