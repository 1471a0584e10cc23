use Rattle.std.proofs.Common.{◌≡◌, ℕ, ◌<◌, take}
use Rattle.byte_lanes.specs.Sets.{has_byte}
use Rattle.char_sets.specs.Runs.{runs_have}
use Rattle.char_sets.proofs.bytes.bytes_of_runs.Given as goal

abbrev pub invariant-loop-run : goal.invariant-loop-run
invariant-loop-run l = (k : ℕ) → k < 256 → has_byte l.bytes k ≡ runs_have (take l.run-index l.runs) k
