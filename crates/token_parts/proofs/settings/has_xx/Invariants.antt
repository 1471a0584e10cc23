use Rattle.std.proofs.Common.{◌≡◌, ◌≤◌, ◌-◌, length, drop}
use Rattle.token_parts.specs.Settings.{has_xx}
use Rattle.token_parts.proofs.settings.has_xx.Given as goal

abbrev pub invariant-loop-i : goal.invariant-loop-i
invariant-loop-i l = (l.i ≤ length l.letters) × (has_xx (drop l.i l.letters) ≡ has_xx l.letters)

abbrev pub decreases-loop-i : goal.decreases-loop-i
decreases-loop-i l = length l.letters - l.i
