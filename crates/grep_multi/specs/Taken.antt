-- What reads take of a source behind bytes that were taken before.
use Rattle.std.specs.Prelude.{◌≡◌, ◌≢◌, ℕ, ◌+◌, ◌≤◌, ◌<◌, List, [], ◌++◌, length, Result, Ok, Err}
use Rattle.std.specs.Io.KnownBytes.{Consumes}
use Rattle.pcre_io.specs.Told.{Told}
use Rattle.pcre_io.specs.declared.memory.Memory.{Memory}
use Rattle.line_feed.specs.declared.phase.Phase.{Phase}
use Rattle.line_feed.specs.declared.phase.Phase.TheVariants as phase
use Rattle.line_feed.specs.Steps.{StopFell, Met}
use Rattle.grep_multi.specs.declared.held.Came.{Came}
use Rattle.grep_multi.specs.declared.held.Came.TheVariants.{More, End, Failed}

-- what was met behind the bytes
abbrev pub phase_of : Came → Phase
phase_of More = phase.Open
phase_of End = phase.Ended
phase_of Failed = phase.Missed

-- the bytes grew by those that were taken, and this was met behind them
pub record Takes (old new : List ℕ) (before after : Told) (met_so : Phase) : Type 0 where
  pub taken : List ℕ
  pub all : new ≡ old ++ taken
  pub left : Consumes before.left after.left taken
  pub stop : StopFell before.stop after.stop (length taken)
  pub met : Met before after met_so (length taken) (length new)

-- one read: of at most 65,536 bytes, and none at the end or where it failed
pub record TakesPiece (old new : List ℕ) (before after : Told) (came : Came) : Type 0 where
  pub takes : Takes old new before after (phase_of came)
  pub room : length new ≤ length old + 65536
  pub more : came ≡ More → length old < length new
  pub none : came ≢ More → new ≡ old

abbrev pub TakesOne : List ℕ → List ℕ → Told → Told → Result Came Memory → Type 0
TakesOne old new before after (Ok came) = TakesPiece old new before after came
TakesOne old new before after (Err _) = after ≡ before

-- reads until the end, a fault, or more than `most` bytes
pub record TakesUpTo (most : ℕ) (new : List ℕ) (before after : Told) (came : Came) : Type 0 where
  pub takes : Takes [] new before after (phase_of came)
  pub room : length new ≤ most + 65536
  pub more : came ≡ More → most < length new
  pub all : came ≢ More → length new ≤ most

abbrev pub TakesAll : ℕ → List ℕ → Told → Told → Result Came Memory → Type 0
TakesAll most new before after (Ok came) = TakesUpTo most new before after came
TakesAll most new before after (Err _) =
    (bytes : List ℕ) × Takes [] bytes before after phase.Open × (length bytes ≤ most + 65536)
