use Rattle.std.proofs.Common.{◌≡◌, ◌==◌, false, get_or}
use Rattle.byte_lanes.specs.Places.{Nowhere}
use Rattle.uni_text.specs.Ascii.{ascii_fold}
use Rattle.match_items.proofs.runs.folded_run.Given as goal

abbrev pub invariant-loop-i : goal.invariant-loop-i
invariant-loop-i l = Nowhere (λ k. (l.folded == ascii_fold (get_or l.bytes k 0)) ≡ false) l.from l.i
