use Rattle.std.proofs.Common.{◌≡◌, take, map, filter}
use Rattle.pat_grammar.specs.Groups.{has_name}
use Rattle.pat_nodes.proofs.names.groups_with.Given as goal

abbrev pub invariant-loop-entry : goal.invariant-loop-entry
invariant-loop-entry l = l.groups.items ≡ map (λ entry. entry.group)
    (filter (has_name l.wanted) (take l.entry-index l.names))
