-- A part that is a callout.
use Rattle.std.proofs.Common.{◌≡◌, ℕ, sym, subst}
use Rattle.pat_tree.specs.declared.nodes.Node.TheVariants as node
use Rattle.pcre_io.specs.declared.callouts.Block.{Block}
use Rattle.frame_state.specs.declared.machine.Spot.{Spot}
use Rattle.frame_state.specs.Ground.{Ground, tree_of, IsNode}
use Rattle.frame_state.specs.Shown.{callout_at, block_at, shown_as}
use Rattle.frame_machine.specs.Callouts.{IsCallout, IsShown}

module _ (c : Ground) (q number from to at len : ℕ) (i : IsNode c q (node.Callout number from to at len)) where
  pub callout_is : IsCallout (tree_of c q)
  callout_is = subst IsCallout i.is tt

  pub callout_shown : (spot : Spot) (block : Block) → IsShown (tree_of c q) spot block
      → block ≡ shown_as (block_at (callout_at number from to at len) spot)
  callout_shown spot block h = subst (λ t. IsShown t spot block) (sym i.is) h
