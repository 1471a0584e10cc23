use Rattle.std.proofs.Common.{◌≡◌}
use Rattle.pcre2_api.specs.Captured.{top_within, top_of}
use Rattle.pcre2_api.proofs.found.Found.top.Given as goal

abbrev pub invariant-loop-n : goal.invariant-loop-n
invariant-loop-n l = top_of l.self.outcome ≡ top_within l.self.outcome.caps l.n

abbrev pub decreases-loop-n : goal.decreases-loop-n
decreases-loop-n l = l.n
