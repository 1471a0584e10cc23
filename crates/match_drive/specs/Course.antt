-- What a search of a finished tree over all start places needs.
use Rattle.std.specs.Prelude.{◌<◌, ℕ, List, length, Option, IsTrue, IfSome}
use Rattle.std.specs.Option.{option_copied}
use Rattle.pat_tree.specs.Parts.{tree_of}
use Rattle.match_items.specs.declared.view.View.{View}
use Rattle.frame_machine.specs.frame_board.declared.ready.Ready.{Ready}
use Rattle.frame_machine.specs.frame_board.Ready.{IsReadySearch, setting_for}
use Rattle.pat_needs.specs.declared.needs.BeginText.{BeginText}
use Rattle.match_starts.specs.Asked.{passed_over}
use Rattle.match_drive.specs.declared.outline.Guide.{Guide}
use Rattle.match_drive.specs.Begin.{StandsAtBegin}
use Rattle.match_drive.specs.BeginText.{IsBegun}
use Rattle.match_starts.specs.Prefix.{AreBranches, IsFree}
use Rattle.match_starts.specs.Repeats.{IsFirstRepeat}
use Rattle.match_starts.specs.Whole.{IsWholeSearch}
use Rattle.match_drive.specs.Run.{IsFirstRun}

-- The search at one place runs. Where it is told so, the pattern stands at the subject's begin alone. The branches that
-- are tested are its own, and so are the text at a distance from its begin, and the repeat that it is, and the repeat
-- and the run that it begins with, where they are known; there are none under partial matching.
pub record IsByteCourse (ready : Ready) (view : View) (guide : Guide) (first : List ℕ)
    (text : Option BeginText) : Type 0 where
  pub search : IsReadySearch ready view
  pub open search use *
  pub begin : IsTrue guide.at_begin → StandsAtBegin (tree_of ready.tree.now)
  pub branches : AreBranches ready.tree.now first
  pub branches_free : 0 < length first → IsFree view (length first)
  pub begins_with : IfSome text (IsBegun (setting_for ready.tree.now view passed_over))
  pub repeats_only : IfSome (option_copied guide.whole) (IsWholeSearch ready.tree.now view)
  pub repeats_first : IfSome (option_copied guide.repeat) (IsFirstRepeat ready.tree.now view)
  pub runs_first : IfSome (option_copied guide.run) (IsFirstRun ready.tree.now view)
