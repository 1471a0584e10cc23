-- What writing to both sinks does: results and messages → all of them, or a part of each and the cause.
use Rattle.std.specs.Prelude.{ℕ, List}
use Rattle.std.specs.Io.KnownBytes.{Appends}
use Rattle.pcre_io.specs.Told.{AppendsPrefix}
use Rattle.tool_io.specs.Printed.{Printed, NoFault, SomeFault}

-- these texts were written whole
pub record Wrote (out_text err_text : List ℕ) (old new : Printed) : Type 0 where
  pub out : Appends old.out.held new.out.held out_text
  pub err : Appends old.err.held new.err.held err_text
  pub steady : NoFault old new

-- A part of each of these texts was written. A sink counted a fault just where that is for a write that was refused.
pub record Breaks (out_text err_text : List ℕ) (old new : Printed) (is_refused : Type 0)
    : Type 0 where
  pub out : AppendsPrefix old.out.held new.out.held out_text
  pub err : AppendsPrefix old.err.held new.err.held err_text
  pub cause : is_refused → SomeFault old new
  pub steady : (is_refused → ⊥) → NoFault old new
