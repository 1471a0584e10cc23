-- Drafts in the making, for tests.
use Rattle.std.specs.Prelude.{◌≡◌, ◌<◌, ℕ, List, [], All, length}
use Rattle.pat_tree.specs.declared.nodes.Cond.{Cond}
use Rattle.pat_tree.specs.declared.nodes.Cond.TheVariants.{Never, Assert}
use Rattle.pat_tree.specs.Growing.{loose}
use Rattle.pat_tree.specs.Parts.{DraftParts}

-- a draft with one class and without names, of which no node has taken these yet
pub record IsDraft (d : DraftParts) (ids : List ℕ) : Type 0 where
  pub free : loose d.nodes ≡ ids
  pub below : All (λ k. k < length d.nodes) ids
  pub classes : length d.classes ≡ 1
  pub names : d.names ≡ []

-- a test that is no lookaround, and not that of a definition
abbrev pub IsPlainTest : Cond → Type 0
IsPlainTest Never = ⊥
IsPlainTest (Assert k) = ⊥
IsPlainTest _ = Unit {0}
