use Rattle.std.specs.List.{list_any}
use Rattle.std.proofs.Common.{◌≡◌, drop}
use Rattle.pat_grammar.specs.Groups.{is_other}
use Rattle.pat_nodes.proofs.names.is_other.Given as goal

abbrev pub invariant-loop-entry : goal.invariant-loop-entry
invariant-loop-entry l = list_any (is_other l.wanted l.fn.group) l.names ≡ list_any (is_other l.wanted l.fn.group)
    (drop l.entry-index l.names)
