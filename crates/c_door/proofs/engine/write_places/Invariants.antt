use Rattle.std.proofs.Common.{◌≡◌, ℕ, ◌<◌, get_or, None}
use Rattle.pcre2_api.specs.Captured.{span_of}
use Rattle.c_door.specs.Telling.{pair_of}
use Rattle.c_door.proofs.engine.write_places.Given as goal

abbrev pub invariant-loop-i : goal.invariant-loop-i
invariant-loop-i l = (j : ℕ) → j < l.i → get_or l.places j (pair_of None) ≡ pair_of (span_of l.found.outcome j)
