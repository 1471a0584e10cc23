use Rattle.std.proofs.Common.{◌≡◌, ◌++◌, take}
use Rattle.std.specs.List.{AllWithin, flat_map}
use Rattle.pat_save.specs.Image.{placed_bytes}
use Rattle.pat_save.specs.Sized.{IsSizedNode}
use Rattle.pat_save.proofs.nodes.put_nodes.Given as goal

abbrev pub invariant-loop-id : goal.invariant-loop-id
invariant-loop-id l = (l.out.items ≡ l.initial.out.items ++ flat_map placed_bytes (take l.id l.tree.nodes))
    × AllWithin (λ p. IsSizedNode p.node) l.tree.nodes 0 l.id
