-- What was gathered is sent on, and nothing is written.
use Rattle.std.proofs.Common.{◌∙◌, List, ℕ, Option, None, Some, Ok, refl}
use Rattle.std.specs.Io.KnownBytes.{Appends, Keeps}
use Rattle.pcre_io.specs.Told.{Kept}
use Rattle.test_run.specs.Runs.{Sends}

keeps-same : (a : Option (List ℕ)) → Keeps a a
keeps-same None = tt
keeps-same (Some xs) = refl

-- nothing was gathered, or it may stay
pub sends_none : (old : Kept) (u : Unit {0}) → Sends old old (Ok u)
sends_none old u = record { kept = keeps-same old.held; cause = refl }

pub appends-keeps : (a b c : Option (List ℕ)) (xs : List ℕ) → Appends a b xs → Keeps b c → Appends a c xs
appends-keeps None b c xs h k = tt
appends-keeps (Some old) None c xs h k = absurd h
appends-keeps (Some old) (Some mid) None xs h k = k
appends-keeps (Some old) (Some mid) (Some new) xs h k = k ∙ h
