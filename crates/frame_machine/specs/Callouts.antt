-- A part that is a callout.
use Rattle.std.specs.Prelude.{◌≡◌}
use Rattle.pat_tree.specs.Nested as tree
use Rattle.pat_tree.specs.Nested.{Nested}
use Rattle.pcre_io.specs.declared.callouts.Block.{Block}
use Rattle.frame_state.specs.declared.machine.Spot.{Spot}
use Rattle.frame_state.specs.Shown.{block_at, shown_as}

abbrev pub IsCallout : Nested → Type 0
IsCallout (tree.callout x) = Unit {0}
IsCallout _ = ⊥

-- the block is what it is shown
abbrev pub IsShown : Nested → Spot → Block → Type 0
IsShown (tree.callout x) spot block = block ≡ shown_as (block_at x spot)
IsShown _ spot block = ⊥
