-- What a run comes to where it searches nothing, or stops.
use Rattle.std.proofs.Common.{ℕ, List, [], Ok, Err, refl, inr}
use Rattle.std.proofs.KnownBytes.{Appends-nil}
use Rattle.pcre_io.specs.Told.{Kept}
use Rattle.grep_output.specs.declared.ended.Stop.{Stop}
use Rattle.grep_output.specs.declared.ended.Stop.TheVariants.{SinkFault, TooManyErrors, Memory}
use Rattle.tool_io.specs.Outcomes.{RunOutcome}
use Rattle.tool_io.specs.Writes.{WritesAll}
use Rattle.grep_core.specs.Turns.{Halts}
use Rattle.tool_io.proofs.Printing.{prefix-none}
use Rattle.grep_main.specs.RunsBy.{RunsBy}
use Rattle.tool_io.specs.Printed.{printed}

-- memory lacked before anything was written
pub runs-lacks : (text : RunOutcome) (out err : Kept) → RunsBy text (printed out err) (printed out err) (Err Memory)
runs-lacks text out err = record {
  out = prefix-none out.held text.out;
  err = prefix-none err.held text.err;
  cause = λ is. absurd (cc);
  steady = λ _. (refl, refl);
}

-- A message, and nothing on the output.
module _ (text : List ℕ) (status : ℕ) where
  pub said-whole : (out err_old err_new : Kept) → WritesAll text err_old err_new
      → RunsBy (record { out = []; err = text; status = status }) (printed out err_old) (printed out err_new)
      (Ok status)
  said-whole out err_old err_new w = (
    record { out = Appends-nil out.held; err = w.all; steady = (refl, w.steady) },
    refl,
  )

  pub said-halts : (out err_old err_new : Kept) (stop : Stop) → Halts text err_old err_new stop
      → RunsBy (record { out = []; err = text; status = status }) (printed out err_old) (printed out err_new)
      (Err stop)
  said-halts out err_old err_new SinkFault h = record {
    out = prefix-none out.held [];
    err = h.0;
    cause = λ _. inr h.1;
    steady = λ other. absurd (other refl);
  }
  said-halts out err_old err_new Memory h = record {
    out = prefix-none out.held [];
    err = h.0;
    cause = λ is. absurd (cc);
    steady = λ _. (refl, h.1);
  }
  said-halts out err_old err_new TooManyErrors h = absurd h
