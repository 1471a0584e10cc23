use Rattle.std.proofs.Common.{◌≡◌, drop, map}
use Rattle.uni_text.specs.Properties.{named}
use Rattle.uni_text.specs.Table.{row_of}
use Rattle.uni_text.proofs.names.find_name.Given as goal

-- no earlier name is this one
abbrev pub invariant-loop-row : goal.invariant-loop-row
invariant-loop-row l = named (map row_of l.rows) l.written ≡ named (map row_of (drop l.row-index l.rows)) l.written
