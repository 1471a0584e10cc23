use Rattle.save_tests.proofs.Empty.{tree_checked}
use Rattle.save_tests.proofs.images.empty_tree.Goals as goal

pub returns : goal.returns
returns c =
    tree_checked _ _ _ _ _ c.new-draft.ensures c.in_ok-root.ensures.grows c.in_ok-root.ensures.number
    c.in_ok-tree.ensures.0 c.is_sound.ensures
