-- A view of a tree's options shows what a search of the tree is about.
use mathlib.Core.Path.{fun_ext}
use Rattle.std.proofs.Common.{◌≡◌, ◌∙◌, ℕ, Bool, List, ap}
use Rattle.std.specs.Prelude.{slice_get}
use Rattle.pat_tree.specs.declared.options.Options.{Options}
use Rattle.pat_tree.specs.Parts.{TreeParts}
use Rattle.char_sets.specs.Sets.{class_has}
use Rattle.char_sets.specs.Table.{CharSet, IsTableOf}
use Rattle.match_items.specs.declared.view.View.{View}
use Rattle.match_items.specs.Views.{text_scene, fold_in}
use Rattle.ordered_search.specs.Setting.{class_holds}
use Rattle.ordered_search.proofs.Classes.{class_is}
use Rattle.match_drive.specs.frame_board.Ready.{setting_for}
use Rattle.match_drive.specs.match_starts.Asked.{passed_over}

class_told : (tree : TreeParts) →
    class_has tree ≡ (λ n c. class_holds tree.options.utf (slice_get tree.classes n) c)
class_told tree = fun_ext (λ n. fun_ext (λ c. class_is tree n c))

pub scene_same : (tree : TreeParts) (table : List CharSet) (view : View) →
    IsTableOf tree table → view.options.now ≡ tree.options →
    text_scene view table ≡ (setting_for tree view passed_over).scene
scene_same tree table view h e =
    ap (λ (has : ℕ → ℕ → Bool). record (text_scene view table) { class_has = has })
    (fun_ext (λ n. fun_ext (λ c. h.answers n c)) ∙ class_told tree)
    ∙ ap (λ (o : Options). record (setting_for tree view passed_over).scene {
      options = o;
      fold = fold_in o.utf;
    }) e
