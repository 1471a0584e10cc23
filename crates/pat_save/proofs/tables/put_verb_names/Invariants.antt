use Rattle.std.proofs.Common.{◌≡◌, ◌++◌, take}
use Rattle.std.specs.List.{flat_map}
use Rattle.pat_save.specs.Fields.{short_text}
use Rattle.pat_save.proofs.tables.put_verb_names.Given as goal

abbrev pub invariant-loop-id : goal.invariant-loop-id
invariant-loop-id l = l.out.items ≡ l.initial.out.items ++ flat_map short_text (take l.id l.tree.verb_names)
