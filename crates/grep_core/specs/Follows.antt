-- What follows the last line that is selected: the rows after it → its context.
use Rattle.std.specs.Prelude.{◌≡◌, ℕ, ◌≤◌, ◌<◌, false, List, ◌++◌, length, flat_map, Option, Some, None, Result, Ok}
use Rattle.std.specs.Prelude.{Err, ◌⊎◌}
use Rattle.pcre_io.specs.Told.{Told, Kept}
use Rattle.line_feed.specs.Rows.{Row}
use Rattle.grep_output.specs.LittlePast.{TakesLittlePast}
use Rattle.line_feed.specs.Answers.{Gives, Refuses}
use Rattle.line_feed.specs.declared.phase.FeedError.TheVariants as feed
use Rattle.grep_output.specs.declared.shows.Treatment.{Treatment}
use Rattle.grep_output.specs.declared.ended.Ended.{Ended}
use Rattle.grep_output.specs.declared.ended.Ended.TheVariants as told
use Rattle.grep_output.specs.declared.ended.Stop.{Stop}
use Rattle.grep_output.specs.declared.ended.Stop.TheVariants.{SinkFault, Memory}
use Rattle.grep_output.specs.Shows.{lines_after}
use Rattle.grep_output.specs.Course.{line_as}
use Rattle.tool_io.specs.Writes.{WritesAll}
use Rattle.grep_output.specs.Refused.{GrewBy}
use Rattle.grep_core.specs.WholeScans.{BeginsWith, EndsWith}
use Rattle.grep_core.specs.Turns.{Halts, EndsSo}
use Rattle.grep_core.specs.Work.{Work, Fed}

-- a row is shown as the context of the last line that is selected, where there is one
module _ (work : Work) (old new : Fed) (out_old out_new : Kept) where
  pub record ShowsRow : Type 0 where
    pub row : Row
    pub gives : Gives old.feed new.feed old.source new.source row
    pub wrote : WritesAll (line_as work.plan work.name false row) out_old out_new

  pub record HaltsRow (stop : Stop) : Type 0 where
    pub row : Row
    pub gives : Gives old.feed new.feed old.source new.source row
    pub wrote : Halts (line_as work.plan work.name false row) out_old out_new stop

  abbrev pub FollowsOne : Result (Option Ended) Stop → Type 0
  FollowsOne (Ok None) = ShowsRow
  FollowsOne (Ok (Some ended)) =
      EndsSo old.feed new.feed old.source new.source ended × (out_new ≡ out_old)
  FollowsOne (Err stop) =
      HaltsRow stop ⊎
      ((stop ≡ Memory) × Refuses old.feed new.feed old.source new.source feed.Memory
      × (out_new ≡ out_old))

-- what a scan has read: how the source stood before it, how the input is treated, and the rows
-- that the feed gave
pub record Past : Type 0 where
  pub source : Told
  pub treated : Treatment
  pub given : List Row

abbrev pub past : Told → Treatment → List Row → Past
past source treated given = record { source = source; treated = treated; given = given }

-- what is shown of rows that are context
abbrev pub rows_text : Work → List Row → List ℕ
rows_text work rows = flat_map (line_as work.plan work.name false) rows

-- the rows after the last line that is selected are shown as its context
module _ (work : Work) (had : Past) (after : Told) (out_old out_new : Kept) where
  pub record FollowsAll : Type 0 where
    pub rows : List Row
    pub begins : BeginsWith work.plan had.treated had.source after (had.given ++ rows)
    pub little : TakesLittlePast (had.given ++ rows) had.source after
    pub long : length rows ≡ lines_after work.show work.plan.after_context
    pub wrote : WritesAll (rows_text work rows) out_old out_new

  pub record FollowsSome (ended : Ended) : Type 0 where
    pub rows : List Row
    pub ends : EndsWith work.plan had.treated had.source after (had.given ++ rows) ended
    pub long : length rows < lines_after work.show work.plan.after_context
    pub wrote : WritesAll (rows_text work rows) out_old out_new

  -- a write was refused: the first of these rows were shown whole, and little past the next one was taken
  pub record HaltsSoon (rows : List Row) : Type 0 where
    pub whole : List Row
    pub next : List Row
    pub parts : rows ≡ whole ++ next
    pub one : length next ≤ 1
    pub grew : GrewBy (rows_text work whole) out_old out_new
    pub little : TakesLittlePast (had.given ++ rows) had.source after

  pub record FollowsPart (stop : Stop) : Type 0 where
    pub rows : List Row
    pub some : 1 ≤ lines_after work.show work.plan.after_context
    pub begins : BeginsWith work.plan had.treated had.source after (had.given ++ rows)
    pub long : length rows ≤ lines_after work.show work.plan.after_context
    pub wrote : Halts (rows_text work rows) out_old out_new stop
    pub soon : stop ≡ SinkFault → HaltsSoon rows

  abbrev pub Follows : Result Ended Stop → Type 0
  Follows (Ok told.Early) = FollowsAll
  Follows (Ok ended) = FollowsSome ended
  Follows (Err stop) = FollowsPart stop
