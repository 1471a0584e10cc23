-- A tree in the making with what is known of its nodes.
use Rattle.std.specs.Prelude.{◌≡◌, ℕ, length}
use Rattle.pat_tree.specs.Refs.{has_group, marked}
use Rattle.pat_save.specs.declared.reading.Growing.{Growing}
use Rattle.pat_save.specs.declared.taken_nodes.Around.{Around}
use Rattle.pat_save.specs.Pile.{IsPile}

pub record IsGrown (around : Around) (g : Growing) : Type 0 where
  pub classes : around.classes ≡ length g.draft.classes
  pub verb_names : around.verb_names ≡ length g.draft.verb_names
  pub marks : (n : ℕ) → marked g.groups n ≡ has_group g.draft.nodes n
  pub pile : IsPile g.draft.nodes g.pile.items
