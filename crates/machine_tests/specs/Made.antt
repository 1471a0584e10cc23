-- Drafts of plain patterns in the making.
use Rattle.std.specs.Prelude.{◌≡◌, ◌<◌, ℕ, false, List, [], All, length}
use Rattle.pat_tree.specs.Growing.{loose}
use Rattle.pat_tree.specs.Parts.{DraftParts}

-- a draft without UTF, classes and names, of which no node has taken these yet
pub record IsMade (d : DraftParts) (ids : List ℕ) : Type 0 where
  pub free : loose d.nodes ≡ ids
  pub below : All (λ k. k < length d.nodes) ids
  pub bytes : d.options.utf ≡ false
  pub classes : d.classes ≡ []
  pub names : d.names ≡ []
