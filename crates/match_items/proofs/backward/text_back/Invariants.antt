use Rattle.std.proofs.Common.{◌≡◌}
use Rattle.std.specs.List.{slice_get}
use Rattle.match_items.specs.Subjects.{IsTextPlace}
use Rattle.match_items.specs.Items.{places_back}
use Rattle.match_items.specs.Views.{bare_text}
use Rattle.match_items.proofs.backward.text_back.Given as goal

abbrev pub invariant-loop-left : goal.invariant-loop-left
invariant-loop-left l = record {
  place : IsTextPlace l.view.options.now l.view.subject.now l.place;
  back : slice_get (places_back (bare_text l.view) l.count l.at) l.count ≡ slice_get
      (places_back (bare_text l.view) l.left l.place) l.left;
}

abbrev pub decreases-loop-left : goal.decreases-loop-left
decreases-loop-left l = l.left
