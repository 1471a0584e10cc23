use Rattle.std.proofs.Common.{◌≡◌, ℕ, ◌<◌, ◌&&◌, ◌==◌, nat_lt}
use Rattle.byte_lanes.specs.Sets.{has_byte}
use Rattle.uni_text.specs.Folding.{fold}
use Rattle.pat_check.proofs.item_bytes.cased_bytes.Given as goal

abbrev pub invariant-loop-b : goal.invariant-loop-b
invariant-loop-b l = (k : ℕ) → k < 256 → has_byte l.bytes k ≡ (nat_lt k l.b && (fold l.c == fold k))
