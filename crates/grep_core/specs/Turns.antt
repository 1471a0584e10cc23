-- What the scan of an input does with one line: how it stands, and the line that the feed gives → what is written of
-- it, and how it stands then.
use Rattle.std.specs.Prelude.{[], ◌≡◌, ℕ, ◌+◌, ◌≤◌, ◌==◌, Bool, true, false, ◌&&◌, ◌||◌, nat_le, if◌then◌else◌, List}
use Rattle.std.specs.Prelude.{Option, Some, None, Result, Ok, Err, ◌⊎◌}
use Rattle.pcre_io.specs.Told.{Told, Kept, AppendsPrefix}
use Rattle.pcre_io.specs.Causes.{Rose}
use Rattle.line_feed.specs.Rows.{Row}
use Rattle.line_feed.specs.View.{Feed}
use Rattle.line_feed.specs.Answers.{Gives, Ends, Refuses}
use Rattle.line_feed.specs.declared.phase.FeedError.{FeedError}
use Rattle.line_feed.specs.declared.phase.FeedError.TheVariants as feed
use Rattle.grep_output.specs.declared.ended.Ended.{Ended}
use Rattle.grep_output.specs.declared.ended.Ended.TheVariants as told
use Rattle.grep_output.specs.declared.ended.Stop.{Stop}
use Rattle.grep_output.specs.declared.ended.Stop.TheVariants.{SinkFault, TooManyErrors, Memory}
use Rattle.grep_core.specs.declared.lines.Course.{Course}
use Rattle.grep_core.specs.declared.lines.Next.{Next}
use Rattle.grep_core.specs.declared.lines.Next.TheVariants.{Line, Context}
use Rattle.grep_core.specs.declared.scan.Turn.{Turn}
use Rattle.grep_core.specs.declared.scan.Turn.TheVariants.{Took, Finished}
use Rattle.grep_core.specs.Work.{Work, Progress, Position}
use Rattle.grep_match.specs.Matches.{Tried, tried_row, is_selected, has_error}
use Rattle.grep_output.specs.Messages.{error_message}
use Rattle.grep_output.specs.declared.state.State.{State}
use Rattle.grep_output.specs.Course as course
use Rattle.grep_output.specs.Course.{row_out, selected_out, passed_out, is_lines, course_after}
use Rattle.grep_output.specs.Course.{course_after_selected, course_after_passed, state_after_line}
use Rattle.tool_io.specs.Writes.{WritesAll}
use Rattle.tool_io.specs.Prints.{Wrote, Breaks}

-- the course that the code keeps
abbrev pub course_of : Course → course.Course
course_of c = record { selected = c.selected; context_to = c.context_to; earlier = c.earlier.rows }

-- no further line is selected
abbrev pub is_full : Option ℕ → ℕ → Bool
is_full None selected = false
is_full (Some most) selected = nat_le most selected

-- a part of a text was written: it was refused and that was counted, or memory lacked; no error of a match stops this
abbrev pub Halts : List ℕ → Kept → Kept → Stop → Type 0
Halts text old new SinkFault = AppendsPrefix old.held new.held text × Rose old.faults new.faults
Halts text old new Memory =
    AppendsPrefix old.held new.held text × (new.faults ≡ old.faults)
Halts text old new TooManyErrors = ⊥

module _ (work : Work) (t : Tried) (old new : Progress) where
  -- what is written of a line that isn't selected
  abbrev pub passed_text : List ℕ
  passed_text = passed_out work.plan work.name work.show (course_of old.course) t

  -- a line that isn't selected
  pub record PassesOn : Type 0 where
    pub wrote : WritesAll passed_text old.printed.out new.printed.out
    pub stands : course_of new.course
        ≡ course_after_passed work.plan work.show (course_of old.course) t.row
    pub limit : new.course.earlier.limit ≡ old.course.earlier.limit
    pub longest : new.course.earlier.longest ≡ old.course.earlier.longest

  abbrev pub Passes : Result (Unit {0}) Stop → Type 0
  Passes (Ok _) = PassesOn
  Passes (Err stop) =
      Halts passed_text old.printed.out new.printed.out stop
      × (new.course.selected ≡ old.course.selected)

-- the match error of a line is the last one that there may be: nothing more is shown
abbrev pub is_last : State → Tried → Bool
is_last s t = has_error t && s.errors == 20

-- a line of a scan that selects so many lines at most
module _ (work : Work) (most : Option ℕ) (t : Tried) (old new : Progress) where
  -- what is written of it where it is selected, and as it is
  abbrev pub selected_text : List ℕ
  selected_text =
      selected_out work.plan work.name work.show old.state.has_shown (course_of old.course) t

  abbrev pub row_text : List ℕ
  row_text = row_out work.plan work.name work.show old.state.has_shown (course_of old.course) t

  -- a selected line
  pub record SelectsIt (next : Next) : Type 0 where
    pub wrote : WritesAll selected_text old.printed.out new.printed.out
    pub stands : course_of new.course
        ≡ course_after_selected work.plan work.show (course_of old.course) t.row
    pub limit : new.course.earlier.limit ≡ old.course.earlier.limit
    pub longest : new.course.earlier.longest ≡ old.course.earlier.longest
    pub state : new.state
        ≡ record old.state { has_shown = old.state.has_shown || is_lines work.show }
    pub answer : next ≡ (if is_full most new.course.selected then Context else Line)

  abbrev pub Selects : Result Next Stop → Type 0
  Selects (Ok next) = SelectsIt next
  Selects (Err stop) =
      Halts selected_text old.printed.out new.printed.out stop
      × (new.course.selected ≡ old.course.selected) × (new.state ≡ old.state)

  -- a line was scanned whole
  pub record Takes (next : Next) : Type 0 where
    pub wrote : Wrote row_text (error_message work.name t) old.printed new.printed
    pub stands : course_of new.course ≡ course_after work.plan work.show (course_of old.course) t
    pub limit : new.course.earlier.limit ≡ old.course.earlier.limit
    pub longest : new.course.earlier.longest ≡ old.course.earlier.longest
    pub state : new.state ≡ state_after_line work.plan work.show old.state t
    pub answer : next ≡ (if is_selected work.plan t && is_full most new.course.selected
        then Context else Line)
    pub errors : new.state.errors ≤ 20

  -- its match error is the last one that there may be
  pub record TakesLast : Type 0 where
    pub course : new.course ≡ old.course
    pub error : has_error t ≡ true
    pub errors : old.state.errors + 1 ≡ 21
    pub state : new.state ≡ state_after_line work.plan work.show old.state t
    pub wrote : Wrote [] (error_message work.name t) old.printed new.printed

  -- nothing of it counts, or its match error alone
  abbrev pub LeavesLine : Type 0
  LeavesLine =
      (new.course.selected ≡ old.course.selected) × ((new.state ≡ old.state)
      ⊎ ((has_error t ≡ true)
      × (new.state ≡ state_after_line work.plan work.show old.state t)))

  abbrev pub TakesLine : Result Next Stop → Type 0
  TakesLine (Ok next) = Takes next
  TakesLine (Err TooManyErrors) = TakesLast
  TakesLine (Err stop) =
      Breaks (if is_last old.state t then [] else row_text) (error_message work.name t)
      old.printed new.printed (stop ≡ SinkFault) × LeavesLine

-- the feed gives no row, and the scan ends so
abbrev pub EndsSo : Feed → Feed → Told → Told → Ended → Type 0
EndsSo f g now after told.End = Ends f g now after
EndsSo f g now after told.Early = ⊥
EndsSo f g now after told.ReadFault = Refuses f g now after feed.ReadFault
EndsSo f g now after (told.TooLong line) = Refuses f g now after (feed.TooLong line)
EndsSo f g now after told.TooMuch = Refuses f g now after feed.TooMuch

abbrev pub ended_by : FeedError → Result Ended Stop
ended_by feed.ReadFault = Ok told.ReadFault
ended_by (feed.TooLong line) = Ok (told.TooLong line)
ended_by feed.TooMuch = Ok told.TooMuch
ended_by feed.Memory = Err Memory

-- nothing was written, and nothing changed
pub record Idles (old new : Progress) : Type 0 where
  pub course : new.course ≡ old.course
  pub state : new.state ≡ old.state
  pub out : new.printed.out ≡ old.printed.out
  pub err : new.printed.err ≡ old.printed.err

-- what a turn of a scan comes to, which selects so many lines at most
module _ (work : Work) (most : Option ℕ) (old new : Position) where
  -- the feed gave a row, and it was taken, or it was begun
  pub record TakesRow (result : Result Next Stop) : Type 0 where
    pub row : Row
    pub gives : Gives old.at.feed new.at.feed old.at.source new.at.source row
    pub takes : TakesLine work most (tried_row work.plan work.patterns row)
        old.progress new.progress result

  abbrev pub Turns : Result Turn Stop → Type 0
  Turns (Ok (Took next)) = TakesRow (Ok next)
  Turns (Ok (Finished ended)) =
      EndsSo old.at.feed new.at.feed old.at.source new.at.source ended
      × Idles old.progress new.progress
  Turns (Err stop) =
      TakesRow (Err stop)
      ⊎ ((stop ≡ Memory)
      × Refuses old.at.feed new.at.feed old.at.source new.at.source feed.Memory
      × Idles old.progress new.progress)
