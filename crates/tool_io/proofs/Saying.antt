-- A line that is said, or a part of it.
use Rattle.std.proofs.Common.{ℕ, ◌<◌, List, [], Ok, Err, refl, sym, subst, inl, inr}
use Rattle.std.proofs.lemmas.Bool.{lt-leb}
use Rattle.std.proofs.KnownBytes.{Appends-nil}
use Rattle.pcre_io.specs.Told.{Kept}
use Rattle.pcre_io.specs.declared.traits.IoError.{IoError}
use Rattle.pcre_io.specs.declared.traits.IoError.TheVariants.{Failed, Memory}
use Rattle.tool_io.specs.Outcomes.{said, status_of, Stops, RunsSome, RunsAll, Runs}
use Rattle.tool_io.specs.Printed.{printed}
use Rattle.tool_io.specs.Texts.{line}
use Rattle.tool_io.specs.Writes.{Writes}
use Rattle.tool_io.proofs.Printing.{prefix-none}

module _ (text : List ℕ) (status : ℕ) (out old new : Kept) where
  pub said-all : (u : Unit {0}) → status < 3 → Writes (line text) old new (Ok u)
      → Runs (said text status) status (printed out old) (printed out new)
  said-all u few w =
      subst (λ b. Stops b (RunsSome (said text status) status (printed out old) (printed out new))
      (RunsAll (said text status) status (printed out old) (printed out new))) (sym (lt-leb 3 status few))
      (record { out = Appends-nil out.held; err = w.all; answer = refl; steady = (refl, w.cause) })

  pub said-part : (e : IoError) → Writes {T = Unit {0}} (line text) old new (Err e)
      → Runs (said text status) (status_of e) (printed out old) (printed out new)
  said-part Memory w = record { out = prefix-none out.held []; err = w.part; cause = inl (refl, (refl, w.cause)) }
  said-part Failed w = record { out = prefix-none out.held []; err = w.part; cause = inr (refl, inr w.cause) }
