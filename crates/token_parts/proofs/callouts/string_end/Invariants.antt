use Rattle.std.proofs.Common.{◌≡◌, ◌≤◌, ◌-◌, length, drop}
use Rattle.token_parts.specs.Callouts.{string_end}
use Rattle.token_parts.proofs.callouts.string_end.Given as goal

abbrev pub invariant-loop-i : goal.invariant-loop-i
invariant-loop-i l =
    (l.from ≤ l.i) × (l.i ≤ length l.text) × (string_end l.close l.i (drop l.i l.text) ≡ string_end l.close l.from
    (drop l.from l.text))

abbrev pub decreases-loop-i : goal.decreases-loop-i
decreases-loop-i l = length l.text - l.i
