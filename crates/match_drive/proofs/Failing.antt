-- Places that fail alone are refused.
use Rattle.std.proofs.Common.{ℕ, Option}
use Rattle.std.specs.Prelude.{IfSome}
use Rattle.std.proofs.lemmas.Option.{IfSome_then}
use Rattle.pat_tree.specs.Parts.{TreeParts}
use Rattle.match_items.specs.declared.view.View.{View}
use Rattle.frame_machine.specs.frame_board.Ready.{setting_for}
use Rattle.match_starts.specs.Asked.{passed_over}
use Rattle.match_starts.specs.Repeats.{FailsUpTo}
use Rattle.match_drive.specs.Rest.{AreRefused}

pub refused_if : (tree : TreeParts) (view : View) (p : ℕ) (o : Option ℕ)
    → IfSome o (FailsUpTo tree view p)
    → IfSome o (AreRefused (setting_for tree view passed_over) p)
refused_if tree view p o h =
    IfSome_then o h (λ q fails. record { low = fails.low; bytes = fails.bytes; fail = fails.fail })
