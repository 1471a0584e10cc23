use Rattle.std.proofs.Common.{◌≡◌, length}
use Rattle.grep_targets.specs.Paths.{has_unnamed}
use Rattle.grep_targets.proofs.items.has_unnamed.Given as goal

abbrev pub invariant-entry : goal.invariant-entry
invariant-entry l = has_unnamed l.rest ≡ has_unnamed l.entries

abbrev pub decreases-entry : goal.decreases-entry
decreases-entry l = length l.rest
