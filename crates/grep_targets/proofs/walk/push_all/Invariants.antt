use Rattle.std.proofs.Common.{◌≡◌, ◌++◌, length, map, reverse}
use Rattle.grep_targets.specs.Paths.{item_parts}
use Rattle.grep_targets.specs.Walks.{at_levels, pending_parts}
use Rattle.grep_targets.proofs.walk.push_all.Given as goal

abbrev pub invariant-item : goal.invariant-item
invariant-item l =
    map pending_parts l.stack.items ++ reverse (map (at_levels l.levels) (map item_parts l.items.items))
    ≡ map pending_parts l.initial.stack.items ++ reverse
    (map (at_levels l.levels) (map item_parts l.initial.items.items))

abbrev pub decreases-item : goal.decreases-item
decreases-item l = length l.items.items
