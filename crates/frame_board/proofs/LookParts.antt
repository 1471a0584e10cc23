-- The branch of a lookbehind around a part of the pattern.
use Rattle.std.proofs.Common.{◌≡◌, ◌∙◌, ℕ, ◌≤◌, not, ◌==◌, false, Option, Some, None, IfSome, ap}
use Rattle.std.proofs.Common.{subst}
use Rattle.pat_lengths.specs.Backs.{lengths_back}
use Rattle.pat_lengths.specs.declared.backs.Back.{Back}
use Rattle.frame_state.specs.ordered_search.Setting.{branch_lengths}
use Rattle.frame_state.specs.Behind.{IsFixed}
use Rattle.frame_state.specs.Ground.{Ground, tree_of, differ, settles_by, settles, IsPart}

module _ (c : Ground) (q : ℕ) (inside : IsPart c q) (b : ℕ) (is : c.look_branch q ≡ Some b) where
  pub around_branch : (b ≤ c.root) × IsFixed (branch_lengths c.setting) (tree_of c b)
  around_branch = subst (λ (o : Option ℕ). IfSome o (λ x. (x ≤ c.root) × IsFixed (branch_lengths c.setting)
      (tree_of c x))) is inside.looked

  pub settles_so : (back : Back) → branch_lengths c.setting (tree_of c b) ≡ lengths_back back
      → settles c q ≡ not (back.least == back.most)
  settles_so back e = ap (settles_by c) is ∙ ap differ e

pub settles_not : (c : Ground) (q : ℕ) → c.look_branch q ≡ None → settles c q ≡ false
settles_not c q e = ap (settles_by c) e
