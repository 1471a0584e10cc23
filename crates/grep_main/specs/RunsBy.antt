-- What a run of pcre2grep does: its text → what the sinks grew by, and the status or why it stopped.
use Rattle.std.specs.Prelude.{◌≡◌, ℕ, Result, Ok, Err}
use Rattle.grep_output.specs.declared.ended.Stop.{Stop}
use Rattle.grep_output.specs.declared.ended.Stop.TheVariants.{SinkFault, TooManyErrors}
use Rattle.tool_io.specs.Outcomes.{RunOutcome}
use Rattle.tool_io.specs.Prints.{Wrote, Breaks}
use Rattle.tool_io.specs.Printed.{Printed}

-- The text was written; at the last match error that there may be the status is 2. Or a part of it was written, where
-- the run can't go on.
abbrev pub RunsBy : RunOutcome → Printed → Printed → Result ℕ Stop → Type 0
RunsBy text old new (Ok status) = Wrote text.out text.err old new × (status ≡ text.status)
RunsBy text old new (Err TooManyErrors) = Wrote text.out text.err old new × (text.status ≡ 2)
RunsBy text old new (Err stop) = Breaks text.out text.err old new (stop ≡ SinkFault)
