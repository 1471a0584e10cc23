use Rattle.std.proofs.Common.{◌≡◌, ◌<◌, ◌==◌, ℕ}
use Rattle.byte_lanes.specs.Sets.{has_byte}
use Rattle.pcre2_api.proofs.lead.is_alone.Given as goal

abbrev pub invariant-loop-other : goal.invariant-loop-other
invariant-loop-other l = (c : ℕ) → c < l.other → has_byte l.set c ≡ (c == l.byte)
