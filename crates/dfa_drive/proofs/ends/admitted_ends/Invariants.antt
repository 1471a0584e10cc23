use Rattle.std.proofs.Common.{◌≡◌, ◌≤◌, ◌++◌, length}
use Rattle.match_items.specs.Views.{bare_text}
use Rattle.dfa_drive.specs.Admitted.{admitted_down}
use Rattle.dfa_drive.proofs.ends.admitted_ends.Given as goal

abbrev pub invariant-ends : goal.invariant-ends
invariant-ends l = record {
  same : l.ends ++ admitted_down (bare_text l.view) l.place l.rising l.left
      ≡ admitted_down (bare_text l.view) l.place l.rising (length l.rising);
  within : l.left ≤ length l.rising;
}

abbrev pub decreases-ends : goal.decreases-ends
decreases-ends l = l.left
