-- What writing a text to one sink does: text → all of it, or a part of it and the cause.
use Rattle.std.specs.Prelude.{◌≡◌, ℕ, List, OnOk, OnErr, Result}
use Rattle.std.specs.Io.KnownBytes.{Appends}
use Rattle.pcre_io.specs.Told.{Kept, AppendsPrefix}
use Rattle.pcre_io.specs.Causes.{CountsRefusals}
use Rattle.pcre_io.specs.declared.traits.IoError.{IoError}

-- the text was written; or a part of it, where a write was refused
pub record Writes {T : Type 0} (text : List ℕ) (old new : Kept) (result : Result T IoError)
    : Type 0 where
  pub all : OnOk result (Appends old.held new.held text)
  pub part : OnErr result (AppendsPrefix old.held new.held text)
  pub cause : CountsRefusals old.faults new.faults result

-- the text was written whole
pub record WritesAll (text : List ℕ) (old new : Kept) : Type 0 where
  pub all : Appends old.held new.held text
  pub steady : new.faults ≡ old.faults
