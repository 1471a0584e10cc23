-- What a tool has written: results to one sink, and messages to another.
use Rattle.std.specs.Prelude.{◌≡◌, ◌⊎◌}
use Rattle.pcre_io.specs.Told.{Kept}
use Rattle.pcre_io.specs.Causes.{Rose}

-- what the two sinks tell
pub record Printed : Type 0 where
  pub out : Kept
  pub err : Kept

abbrev pub printed : Kept → Kept → Printed
printed out err = record { out = out; err = err }

-- neither sink counted a fault
abbrev pub NoFault : Printed → Printed → Type 0
NoFault old new = (new.out.faults ≡ old.out.faults) × (new.err.faults ≡ old.err.faults)

-- one of the sinks did
abbrev pub SomeFault : Printed → Printed → Type 0
SomeFault old new = Rose old.out.faults new.out.faults ⊎ Rose old.err.faults new.err.faults
