-- Small nodes for worked rows.
use Rattle.std.specs.Prelude.{ℕ, true, false, List, [], ◌∷◌, Some, None}
use Rattle.pat_tree.specs.declared.nodes.Item.TheVariants.{Char}
use Rattle.pat_tree.specs.declared.nodes.Cond.TheVariants.{Assert}
use Rattle.pat_tree.specs.declared.nodes.Node.{Node}
use Rattle.pat_tree.specs.declared.nodes.Node.TheVariants as node
use Rattle.pat_tree.specs.declared.nodes.Placed.{Placed}
use Rattle.pat_tree.specs.declared.names.NameEntry.{NameEntry}

abbrev pub placed : Node → ℕ → Placed
placed t at = record { node = t; at = at }

abbrev pub letter : ℕ → ℕ → Placed
letter c at = placed (node.One (Char c false)) at

abbrev pub reference : ℕ → ℕ → Placed
reference n at = placed (node.Ref (n ∷ []) false) at

abbrev pub named : List ℕ → ℕ → NameEntry
named name group = record { name = name; group = group }

-- `(ab|c)`: its letters, the sequence, the group
abbrev pub two_branches : List Placed
two_branches = letter 97 1 ∷ letter 98 2 ∷ placed (node.Seq (0 ∷ 1 ∷ [])) 1 ∷ letter 99 4 ∷ placed
    (node.Group (Some 1) (2 ∷ 3 ∷ [])) 0 ∷ []

-- `(?(?C7)(?=a)b)`
abbrev pub called_condition : List Placed
called_condition =
    placed (node.Callout 7 0 0 7 5) 2 ∷ letter 97 10 ∷ placed (node.Look true true true (1 ∷ [])) 7
    ∷ placed (node.Seq (0 ∷ 2 ∷ [])) 2 ∷ letter 98 12 ∷ placed (node.Cond (Assert 3) 4 None) 0 ∷ []
