use Rattle.std.proofs.Common.{◌≡◌, length}
use Rattle.grep_targets.specs.Filters.{matches_one, patterns_in}
use Rattle.grep_targets.proofs.filters.matches_one.Given as goal

abbrev pub invariant-code : goal.invariant-code
invariant-code l = matches_one l.name (patterns_in l.rest) ≡ matches_one l.name (patterns_in l.codes)

abbrev pub decreases-code : goal.decreases-code
decreases-code l = length l.rest
