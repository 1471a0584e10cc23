-- What was gathered is sent on before a read that may wait: the output holds what it held.
use Rattle.std.specs.Prelude.{[], Result, Ok, Err}
use Rattle.pcre_io.specs.Told.{Kept}
use Rattle.tool_io.specs.Writes.{WritesAll}
use Rattle.grep_output.specs.declared.ended.Stop.{Stop}
use Rattle.grep_core.specs.Turns.{Halts}

-- nothing was written; where that is refused, a sink counted a fault
abbrev pub SendsOn : Kept → Kept → Result (Unit {0}) Stop → Type 0
SendsOn old new (Ok _) = WritesAll [] old new
SendsOn old new (Err stop) = Halts [] old new stop
