use Rattle.std.specs.List.{list_any}
use Rattle.std.proofs.Common.{◌≡◌, drop}
use Rattle.pat_grammar.specs.Groups.{is_elsewhere}
use Rattle.pat_nodes.proofs.names.is_elsewhere.Given as goal

abbrev pub invariant-loop-entry : goal.invariant-loop-entry
invariant-loop-entry l = list_any (is_elsewhere l.wanted l.fn.group) l.names ≡ list_any
    (is_elsewhere l.wanted l.fn.group) (drop l.entry-index l.names)
