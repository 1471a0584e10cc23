-- The order in which the parts of a pattern end.
use Rattle.std.specs.Prelude.{List, [], ◌∷◌, ◌++◌}
use Rattle.pat_tree.specs.declared.nodes.Placed.{Placed}
use Rattle.pat_tree.specs.Rules.{kids_of}
use Rattle.pat_tree.specs.Growing.{EndsIn}

-- each of these nodes, which follow others, takes the last of those that no node has taken
abbrev pub TakeTheLast : List Placed → List Placed → Type 0
TakeTheLast before [] = Unit {0}
TakeTheLast before (p ∷ ps) = EndsIn before (kids_of p.node) × TakeTheLast (before ++ p ∷ []) ps

-- each node stands behind those under it, and these child by child
abbrev pub StandInTurn : List Placed → Type 0
StandInTurn ps = TakeTheLast [] ps
