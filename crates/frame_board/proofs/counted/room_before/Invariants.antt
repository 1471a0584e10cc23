use Rattle.std.proofs.Common.{◌≡◌, ◌+◌, ◌-◌, ◌≤◌, length}
use Rattle.match_items.specs.Subjects.{IsTextPlace}
use Rattle.match_items.specs.Items.{places_back}
use Rattle.match_items.specs.Views.{bare_text}
use Rattle.frame_board.proofs.counted.room_before.Given as goal

abbrev pub invariant-characters : goal.invariant-characters
invariant-characters l = record {
  few : l.room ≤ l.most;
  place : IsTextPlace l.view.options.now l.view.subject.now l.place;
  back : l.room + length (places_back (bare_text l.view) (l.most - l.room) l.place) ≡ length
      (places_back (bare_text l.view) l.most l.at);
}

abbrev pub decreases-characters : goal.decreases-characters
decreases-characters l = l.most - l.room
