-- Where no text stands that every match of a finished tree needs, nothing is found.
use Rattle.std.proofs.Common.{◌≡◌, ℕ, ℤ, ◌+◌, ◌<◌, ◌≤◌, Bool, true, List, length, refl, subst, arith}
use Rattle.std.specs.Prelude.{slice_index}
use Rattle.pat_tree.specs.declared.options.Options.{Options}
use Rattle.pat_tree.specs.declared.options.PartialMode.TheVariants.{Off}
use Rattle.pat_tree.specs.Parts.{TreeParts, tree_of}
use Rattle.match_items.specs.declared.view.View.{View}
use Rattle.match_items.specs.Subjects.{IsText, IsTextPlace}
use Rattle.pcre_io.specs.declared.callouts.Block.{Block}
use Rattle.byte_lanes.specs.Places.{IsLeast}
use Rattle.pat_needs.specs.declared.text.ByteText.{ByteText}
use Rattle.pat_bounds.specs.declared.bounds.Bound.{Bound}
use Rattle.pat_bounds.specs.Bounds.{at}
use Rattle.pat_needs.specs.Needs.{may_take, Needs}
use Rattle.pat_needs.specs.Texts.{sets_of, Stands}
use Rattle.pat_needs.specs.Lacking.{IsBoundWithout}
use Rattle.pat_needs.specs.NeedTables.{may_of, IsBoundLacking}
use Rattle.ordered_search.specs.Setting.{lower_of}
use Rattle.ordered_search.specs.MatchAnswer.{none_found, match_answer}
use Rattle.match_starts.proofs.search_needs.Needed.{need_law}
use Rattle.frame_machine.specs.frame_board.Ready.{setting_for}
use Rattle.match_starts.proofs.Leads.{class_told}

-- a search that finds no place
pub stands_nowhere : (text : ByteText) (bytes : List ℕ) (n : ℕ)
    → IsLeast (Stands (sets_of text) bytes) 0 (length bytes) n → n ≡ length bytes → (k : ℕ)
    → ¬ Stands (sets_of text) bytes k
stands_nowhere text bytes n least e k h =
    let within = h.0 in
    least.before k (omega arith) (omega (arith, within, e)) h

pub none_without : (tree : TreeParts) (view : View) (text : ByteText) (b : Bound) (answers : Block → ℤ)
    → Needs (may_of tree) tree.options.utf true (sets_of text) (tree_of tree)
    → IsBoundLacking tree (sets_of text) b
    → view.options.now ≡ tree.options → IsText view.options.now view.subject.now
    → IsTextPlace view.options.now view.subject.now view.start → view.matching.now.«partial» ≡ Off
    → at b.steps (length view.subject.now + 1) ≤ lower_of view.options.now.match_limit view.matching.now.match_limit
    → at b.units (length view.subject.now + 1) ≤ view.matching.now.frame_limit
    → ((k : ℕ) → k < length view.subject.now → slice_index view.subject.now k < 256)
    → ((k : ℕ) → ¬ Stands (sets_of text) view.subject.now k)
    → match_answer (setting_for tree view answers) ≡ none_found
none_without tree view wanted b answers needs bounded shown text begun off steps units small missing =
    need_law (setting_for tree view answers) (sets_of wanted) b (record {
      needs = subst (λ (has : ℕ → ℕ → Bool). Needs (may_take tree.options.utf has) tree.options.utf true
          (sets_of wanted) (tree_of tree)) (class_told tree) needs;
      small = small;
      missing = missing;
      bounded = subst (λ (has : ℕ → ℕ → Bool). IsBoundWithout (may_take tree.options.utf has) tree.options.utf has
          (sets_of wanted) (tree_of tree) b) (class_told tree) bounded;
      folds = refl;
      steps = subst (λ (o : Options). at b.steps (length view.subject.now + 1) ≤ lower_of o.match_limit
          view.matching.now.match_limit) shown steps;
      units = units;
      text = λ utf. subst (λ (o : Options). IsText o view.subject.now) shown text;
      begun = λ utf. subst (λ (o : Options). IsTextPlace o view.subject.now view.start) shown begun;
      off = off;
    })
