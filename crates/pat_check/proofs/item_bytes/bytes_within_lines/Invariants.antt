use Rattle.std.proofs.Common.{◌≡◌, ℕ, ◌<◌, ◌&&◌, ◌==◌, ◌∷◌, [], nat_lt}
use Rattle.byte_lanes.specs.Sets.{has_byte}
use Rattle.byte_lanes.specs.Newlines.{newline_len}
use Rattle.pat_tree.specs.Newlines.{end_kind}
use Rattle.pat_check.proofs.item_bytes.bytes_within_lines.Given as goal

abbrev pub invariant-loop-b : goal.invariant-loop-b
invariant-loop-b l = (k : ℕ) → k < 256
    → has_byte l.bytes k ≡ (nat_lt k l.b && (newline_len (end_kind l.newline l.utf) (k ∷ []) 0 == 0))
