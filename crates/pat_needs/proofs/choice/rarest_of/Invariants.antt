use Rattle.std.proofs.Common.{◌≡◌, ◌<◌, ◌≤◌, false, length}
use Rattle.std.specs.Prelude.{IfSome}
use Rattle.pat_needs.specs.declared.choice.Choice.{Choice}
use Rattle.pat_needs.proofs.choice.rarest_of.Given as goal

abbrev pub invariant-loop-i : goal.invariant-loop-i
invariant-loop-i l = record {
  within : l.i ≤ length l.parts;
  best : IfSome l.best (λ (choice : Choice). (choice.at < length l.parts) × (l.anywhere ≡ false → choice.at ≡ 0));
}

abbrev pub decreases-loop-i : goal.decreases-loop-i
decreases-loop-i l = l.i
