use Rattle.std.specs.List.{list_any}
use Rattle.std.proofs.Common.{◌≡◌, drop}
use Rattle.pat_grammar.specs.Groups.{has_name}
use Rattle.pat_nodes.proofs.names.is_given.Given as goal

abbrev pub invariant-loop-entry : goal.invariant-loop-entry
invariant-loop-entry l = list_any (has_name l.wanted) l.names ≡ list_any (has_name l.wanted)
    (drop l.entry-index l.names)
