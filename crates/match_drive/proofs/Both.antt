-- A search for a finished tree gives the same with start optimisations and without them.
use Rattle.std.proofs.Common.{◌≡◌, refl, sym, subst}
use Rattle.std.specs.Prelude.{ℤ}
use Rattle.pcre_io.specs.declared.callouts.Block.{Block}
use Rattle.pat_tree.specs.Parts.{TreeParts, tree_of}
use Rattle.pat_tree.specs.Sound.{TreeRules}
use Rattle.match_items.specs.Subjects.{IsText, IsTextPlace}
use Rattle.match_items.specs.declared.view.View.{View}
use Rattle.frame_machine.specs.frame_board.declared.ready.Ready.{Ready}
use Rattle.frame_machine.specs.frame_board.Ready.{IsReadySearch, setting_for}
use Rattle.ordered_search.specs.Setting.{Setting}
use Rattle.match_starts.specs.Bytes.{AreBytes}
use Rattle.match_drive.specs.Starts.{AreAlike}
use Rattle.search_starts.proofs.Regular.{regular_whole}
use Rattle.search_starts.proofs.StartLaw.{start_law}
use Rattle.search_starts.specs.StartLaw.{IsRegular}

pub alike : (t : TreeParts) (g : Setting) → g.whole ≡ tree_of t → TreeRules t → AreBytes g.subject →
    IsText g.options g.subject → IsTextPlace g.options g.subject g.start → AreAlike g
alike t g whole rules bytes text begun off unverbed ok =
    start_law g (record {
      unverbed = unverbed;
      regular = subst IsRegular (sym whole) (regular_whole t rules);
      off = off;
      bytes = bytes;
      text = text;
      begun = begun;
    }) ok

pub ready_alike : (ready : Ready) (view : View) (answers : Block → ℤ) → IsReadySearch ready view
    → TreeRules ready.tree.now
    → AreBytes view.subject.now → AreAlike (setting_for ready.tree.now view answers)
ready_alike ready view answers search rules bytes =
    alike ready.tree.now (setting_for ready.tree.now view answers) refl rules bytes
    (subst (λ o. IsText o view.subject.now) search.options search.subject)
    (subst (λ o. IsTextPlace o view.subject.now view.start) search.options search.start)
