-- The bytes that every match of a finished tree begins with are told of the tree.
use mathlib.Core.Path.{fun_ext}
use Rattle.std.proofs.Common.{◌≡◌, ℕ, Bool, List, Option, ap, subst}
use Rattle.std.specs.Prelude.{slice_get}
use Rattle.pat_tree.specs.Newlines.{end_kind, break_kind}
use Rattle.pat_tree.specs.Parts.{TreeParts, tree_of}
use Rattle.char_sets.specs.Sets.{class_has}
use Rattle.frame_board.specs.pat_check.Known.{IsByteSet, lead_set_of}
use Rattle.frame_board.specs.pat_check.Lead.{lead_set}
use Rattle.ordered_search.specs.Setting.{class_holds}
use Rattle.ordered_search.proofs.Classes.{class_is}

pub class_told : (tree : TreeParts)
    → class_has tree ≡ (λ n c. class_holds tree.options.utf (slice_get tree.classes n) c)
class_told tree = fun_ext (λ n. fun_ext (λ c. class_is tree n c))

lead_is : (tree : TreeParts) (fold : ℕ → ℕ) → lead_set_of tree fold
    ≡ lead_set tree.options.utf (end_kind tree.options.newline tree.options.utf)
    (break_kind tree.options.bsr tree.options.utf)
    (λ n c. class_holds tree.options.utf (slice_get tree.classes n) c) fold (tree_of tree)
lead_is tree fold =
    ap (λ has. lead_set tree.options.utf (end_kind tree.options.newline tree.options.utf)
    (break_kind tree.options.bsr tree.options.utf) has fold (tree_of tree)) (class_told tree)

pub lead_told : (tree : TreeParts) (fold : ℕ → ℕ) (set : Option (List Bool)) → IsByteSet set (lead_set_of tree fold)
    → IsByteSet set (lead_set tree.options.utf (end_kind tree.options.newline tree.options.utf)
    (break_kind tree.options.bsr tree.options.utf)
    (λ n c. class_holds tree.options.utf (slice_get tree.classes n) c) fold (tree_of tree))
lead_told tree fold set h = subst (IsByteSet set) (lead_is tree fold) h
