-- What a run of pcre2test does: its text → what the sinks grew by, and the status or why it
-- stopped.
use Rattle.std.specs.Prelude.{◌≡◌, ℕ, ◌<◌, Result, Ok, Err}
use Rattle.std.specs.Io.KnownBytes.{Appends}
use Rattle.pcre_io.specs.Told.{AppendsPrefix}
use Rattle.pcre_io.specs.declared.traits.IoError.{IoError}
use Rattle.pcre_io.specs.declared.traits.IoError.TheVariants.{Failed, Memory}
use Rattle.tool_io.specs.Outcomes.{RunOutcome}
use Rattle.tool_io.specs.Printed.{Printed, NoFault, SomeFault}

-- the text was written
pub record Ran (text : RunOutcome) (status : ℕ) (old new : Printed) : Type 0 where
  pub out : Appends old.out.held new.out.held text.out
  pub err : Appends old.err.held new.err.held text.err
  pub answer : status ≡ text.status
  pub ends : status < 3
  pub steady : NoFault old new

-- a write failed, and a sink counted it; or memory lacked
abbrev pub Counts : IoError → Printed → Printed → Type 0
Counts Failed old new = SomeFault old new
Counts Memory old new = NoFault old new

-- a part of it was written
pub record Stopped (text : RunOutcome) (e : IoError) (old new : Printed) : Type 0 where
  pub out : AppendsPrefix old.out.held new.out.held text.out
  pub err : AppendsPrefix old.err.held new.err.held text.err
  pub cause : Counts e old new

abbrev pub RunsBy : RunOutcome → Printed → Printed → Result ℕ IoError → Type 0
RunsBy text old new (Ok status) = Ran text status old new
RunsBy text old new (Err e) = Stopped text e old new
