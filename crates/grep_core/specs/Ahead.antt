-- What the scan of an input does with rows that it takes at once: rows → what one after the other makes of it.
use Rattle.std.specs.Prelude.{◌≡◌, ℕ, List, [], ◌∷◌, Option, Result, Ok, Err}
use Rattle.pcre_io.specs.Told.{Told}
use Rattle.line_feed.specs.Rows.{Row}
use Rattle.line_feed.specs.View.{Feed}
use Rattle.line_feed.specs.Passes.{GivesAll}
use Rattle.tool_io.specs.Writes.{WritesAll}
use Rattle.grep_match.specs.Matches.{tried_row}
use Rattle.grep_output.specs.declared.ended.Stop.{Stop}
use Rattle.grep_core.specs.declared.lines.Next.TheVariants.{Line}
use Rattle.grep_core.specs.Work.{Work, Progress}
use Rattle.grep_core.specs.Turns.{Halts, Takes}

module _ (work : Work) (most : Option ℕ) where
  -- Rows were taken one after the other. What the sinks tell between two of them is any that fits.
  abbrev pub TakesRows : Progress → Progress → List Row → Type 0
  TakesRows old new [] = new ≡ old
  TakesRows old new (row ∷ rows) =
      (mid : Progress) × Takes work most (tried_row work.plan work.patterns row) old mid Line
      × TakesRows mid new rows

  module _ (f g : Feed) (old new : Progress) where
    -- rows were given and taken, and nothing was read
    pub record TakesAhead : Type 0 where
      pub within : ℕ
      pub longest : ℕ
      pub rows : List Row
      pub gives : (now : Told) → GivesAll now within longest f g rows
      pub takes : TakesRows old new rows

    -- What is written of rows was refused, or memory lacked: a part of it was written, and none of them counts.
    pub record HaltsAhead (stop : Stop) : Type 0 where
      pub within : ℕ
      pub longest : ℕ
      pub rows : List Row
      pub behind : Feed
      pub gives : (now : Told) → GivesAll now within longest f behind rows
      pub whole : Progress
      pub takes : TakesRows old whole rows
      pub text : List ℕ
      pub wrote : WritesAll text old.printed.out whole.printed.out
      pub halts : Halts text old.printed.out new.printed.out stop
      pub unsaid : whole.printed.err ≡ old.printed.err
      pub err : new.printed.err ≡ old.printed.err
      pub selected : new.course.selected ≡ old.course.selected
      pub state : new.state ≡ old.state

    abbrev pub TakesRun : Result (Unit {0}) Stop → Type 0
    TakesRun (Ok _) = TakesAhead
    TakesRun (Err stop) = HaltsAhead stop
