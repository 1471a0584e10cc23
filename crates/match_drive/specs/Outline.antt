-- What a finished tree tells of each search of it.
use Rattle.std.specs.Prelude.{IsTrue, IfSome}
use Rattle.pat_tree.specs.Parts.{TreeParts, tree_of}
use Rattle.match_starts.specs.Repeats.{BeginsByRepeat}
use Rattle.match_starts.specs.Whole.{IsWhole}
use Rattle.match_drive.specs.declared.outline.Outline.{Outline}
use Rattle.match_drive.specs.Begin.{StandsAtBegin}
use Rattle.match_drive.specs.Run.{BeginsByRun}

-- Where it is told so, the pattern stands at the subject's begin alone, or is a repeat. The repeat and the run are
-- those that it begins with.
pub record IsOutlineOf (tree : TreeParts) (outline : Outline) : Type 0 where
  pub begin : IsTrue outline.at_begin → StandsAtBegin (tree_of tree)
  pub whole : IfSome outline.whole (IsWhole tree)
  pub repeat : IfSome outline.repeat (BeginsByRepeat tree)
  pub run : IfSome outline.run (BeginsByRun tree)
