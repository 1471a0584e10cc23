use Rattle.std.proofs.Common.{◌≡◌, ℕ, ◌<◌, cond, nat_lt, length, get_or, bit_or}
use Rattle.byte_lanes.proofs.byte_set.joined.Given as goal

abbrev pub invariant-loop-i : goal.invariant-loop-i
invariant-loop-i l =
    (length l.rows ≡ 16) × ((k : ℕ) → k < 16 → get_or l.rows k 0 ≡ cond (nat_lt k l.i)
    (bit_or (get_or l.one k 0) (get_or l.other k 0)) (get_or l.one k 0))
