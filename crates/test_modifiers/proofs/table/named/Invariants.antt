use Rattle.std.proofs.Common.{◌≡◌, map, drop}
use Rattle.test_modifiers.specs.Table.{named, row_seen}
use Rattle.test_modifiers.proofs.table.named.Given as goal

abbrev pub invariant-loop-row : goal.invariant-loop-row
invariant-loop-row l = named (map row_seen (drop l.row-index l.rows)) l.name ≡ named (map row_seen l.rows) l.name
