use Rattle.std.proofs.Common.{◌≡◌, ◌<◌, ℕ, false}
use Rattle.byte_lanes.specs.Sets.{has_byte}
use Rattle.pcre2_api.proofs.lead.only_byte.Given as goal

abbrev pub invariant-loop-byte : goal.invariant-loop-byte
invariant-loop-byte l = (c : ℕ) → c < l.byte → has_byte l.set c ≡ false
