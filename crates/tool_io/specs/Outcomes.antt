-- What a run of a tool comes to: its text and its status → what the sinks grew by, and the status that it answers.
use Rattle.std.specs.Prelude.{◌≡◌, ℕ, List, [], nat_le, Bool, true, false, ◌⊎◌}
use Rattle.std.specs.Io.KnownBytes.{Appends}
use Rattle.pcre_io.specs.Told.{AppendsPrefix}
use Rattle.pcre_io.specs.declared.traits.IoError.{IoError}
use Rattle.pcre_io.specs.declared.traits.IoError.TheVariants.{Failed, Memory}
use Rattle.tool_io.specs.Printed.{Printed, NoFault, SomeFault}
use Rattle.tool_io.specs.Texts.{line}

-- what a run writes to each sink, and its status
pub record RunOutcome : Type 0 where
  pub out : List ℕ
  pub err : List ℕ
  pub status : ℕ

-- a line on the messages, and nothing else
abbrev pub said : List ℕ → ℕ → RunOutcome
said text status = record { out = []; err = line text; status = status }

abbrev pub status_of : IoError → ℕ
status_of Memory = 3
status_of Failed = 4

-- all was written
pub record RunsAll (text : RunOutcome) (status : ℕ) (old new : Printed) : Type 0 where
  pub out : Appends old.out.held new.out.held text.out
  pub err : Appends old.err.held new.err.held text.err
  pub answer : status ≡ text.status
  pub steady : NoFault old new

-- memory lacked, or a write was refused and counted
pub record RunsSome (text : RunOutcome) (status : ℕ) (old new : Printed) : Type 0 where
  pub out : AppendsPrefix old.out.held new.out.held text.out
  pub err : AppendsPrefix old.err.held new.err.held text.err
  pub cause : ((status ≡ 3) × NoFault old new) ⊎ ((status ≡ 4) × SomeFault old new)

-- a status of 3 or more stops a run
abbrev pub Stops : Bool → Type 0 → Type 0 → Type 0
Stops true some all = some
Stops false some all = all

-- a run that wrote this text, or a part of it
abbrev pub Runs : RunOutcome → ℕ → Printed → Printed → Type 0
Runs text status old new =
    Stops (nat_le 3 status) (RunsSome text status old new) (RunsAll text status old new)
