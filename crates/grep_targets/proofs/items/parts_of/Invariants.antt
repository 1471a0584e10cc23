use Rattle.std.proofs.Common.{◌++◌, length, map, flat_map}
use Rattle.std.specs.List.Sorted.{IsPermutation}
use Rattle.grep_targets.specs.Paths.{item_of, item_parts}
use Rattle.grep_targets.proofs.items.parts_of.Given as goal

-- what was found so far, with what the entries left stand for
abbrev pub invariant-entry : goal.invariant-entry
invariant-entry l = IsPermutation (flat_map (item_of l.path) l.fn.entries)
    (map item_parts l.items.items ++ flat_map (item_of l.path) l.rest.items)

abbrev pub decreases-entry : goal.decreases-entry
decreases-entry l = length l.rest.items
