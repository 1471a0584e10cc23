use Rattle.std.proofs.Common.{◌≤◌, length}
use Rattle.std.specs.Prelude.{IfSome}
use Rattle.match_items.specs.Subjects.{IsTextPlace}
use Rattle.match_drive.specs.frame_board.Ready.{setting_for}
use Rattle.match_drive.specs.match_starts.Asked.{passed_over}
use Rattle.dfa_drive.proofs.Walking.{IsLeft, places_left}
use Rattle.dfa_drive.proofs.drive.dfa_search.Given as goal

abbrev pub invariant-places : goal.invariant-places
invariant-places g l = record {
  left : IsLeft (setting_for l.ready.tree.now l.view passed_over) l.view.matching.now.dfa_shortest
      l.next;
  stands : IfSome l.next (IsTextPlace l.view.options.now l.view.subject.now);
  from : IfSome l.next (λ p. l.view.start ≤ p);
}

abbrev pub decreases-places : goal.decreases-places
decreases-places g l = places_left (length l.view.subject.now) l.next
