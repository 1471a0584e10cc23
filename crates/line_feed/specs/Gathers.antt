-- What is told once enough was read.
use Rattle.std.specs.Prelude.{◌≢◌, ◌+◌, Result, Ok, Err}
use Rattle.pcre_io.specs.Told.{Told}
use Rattle.line_feed.specs.declared.phase.Phase.TheVariants.{Open, Closed}
use Rattle.line_feed.specs.declared.phase.Memory.{Memory}
use Rattle.line_feed.specs.declared.look.Held.{Held}
use Rattle.line_feed.specs.declared.look.Held.TheVariants.{Whole, Over, Part}
use Rattle.line_feed.specs.Rows.{Long}
use Rattle.line_feed.specs.View.{Feed, HasNoMore, HoldsRow}
use Rattle.line_feed.specs.Steps.{IsNext, IsLast}
use Rattle.line_feed.specs.Answers.{Reads, Lacks}

-- bytes were read until a whole row is held, or none is to come
pub record Gathered (old new : Feed) (before after : Told) : Type 0 where
  pub reads : Reads old new before after
  pub live : new.phase ≢ Closed

-- `gather`
abbrev pub Gathers : Feed → Feed → Told → Told → Result Held Memory → Type 0
Gathers old new before after (Ok (Whole end newline)) = Gathered old new before after × IsNext new end newline
Gathers old new before after (Ok Over) = Gathered old new before after × HasNoMore new (Long (new.number + 1))
Gathers old new before after (Ok Part) = Gathered old new before after × IsLast new × (new.phase ≢ Open)
Gathers old new before after (Err _) = Lacks old new before after × (¬ HoldsRow old.kind old.held)
