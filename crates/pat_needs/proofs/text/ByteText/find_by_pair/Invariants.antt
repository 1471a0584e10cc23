use Rattle.std.proofs.Common.{◌+◌, ◌-◌, ◌≤◌, length}
use Rattle.byte_lanes.specs.Places.{Nowhere}
use Rattle.pat_needs.specs.Texts.{sets_of, Stands}
use Rattle.pat_needs.proofs.text.ByteText.find_by_pair.Given as goal

abbrev pub invariant-place : goal.invariant-place
invariant-place l = (l.start + l.pair.place ≤ l.from) × Nowhere (Stands (sets_of l.self) l.bytes) l.start
    (l.from - l.pair.place)

abbrev pub decreases-place : goal.decreases-place
decreases-place l = length l.bytes - l.from
