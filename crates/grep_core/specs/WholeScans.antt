-- What the scan of an input does as a whole: what the source told → the input that it stands for → its scan → what was
-- written of it, and what it leaves.
use Rattle.std.specs.Prelude.{[], ◌≡◌, ◌≢◌, ℕ, ◌+◌, ◌≤◌, true, false, ◌||◌, nat_eq, List, ◌∷◌, ◌++◌, length, map}
use Rattle.std.specs.Prelude.{filter, flat_map, Option, Some, None, Result, Ok, Err, ◌⊎◌, ⊤}
use Rattle.std.specs.List.{list_any}
use Rattle.pcre_io.specs.Told.{Told, Kept}
use Rattle.line_feed.specs.Rows.{Row, Rows, Input, Finish, At, End, rows_with}
use Rattle.line_feed.specs.View.{Feed}
use Rattle.line_feed.specs.Hears.{Hears, HasGiven, HasShown}
use Rattle.grep_args.specs.declared.plan.GrepPlan.{GrepPlan}
use Rattle.grep_output.specs.declared.shows.Show.{Show}
use Rattle.grep_output.specs.declared.shows.Treatment.{Treatment}
use Rattle.grep_output.specs.declared.shows.Treatment.TheVariants.{AsText, Skipped}
use Rattle.grep_output.specs.declared.ended.Ended.{Ended}
use Rattle.grep_output.specs.declared.ended.Stop.{Stop}
use Rattle.grep_output.specs.declared.ended.Stop.TheVariants.{SinkFault, TooManyErrors, Memory}
use Rattle.grep_match.specs.PatternTexts.{line_end}
use Rattle.grep_output.specs.Shows.{is_told, show_in, greatest_selected, lines_after}
use Rattle.grep_match.specs.Modes.{mode}
use Rattle.grep_output.specs.Lines.{lines, treatment_by}
use Rattle.grep_match.specs.Matches.{Tried, tried_row, is_selected}
use Rattle.grep_output.specs.Scans as meant
use Rattle.grep_output.specs.Scans.{Scan, IsBelow, scan_of_rows, selected_in, errors_in, too_many_errors}
use Rattle.grep_output.specs.Messages.{error_message}
use Rattle.grep_output.specs.declared.state.State.{State}
use Rattle.grep_output.specs.InputText.{shown_out, shows_group}
use Rattle.grep_output.specs.Course.{scan_so_far}
use Rattle.grep_output.specs.LittlePast.{bytes_in, TakesLittlePast}
use Rattle.grep_output.specs.Refused.{GrewBy, WhereRefused}
use Rattle.grep_output.specs.Ends.{ended_of}
use Rattle.grep_core.specs.FirstBytes.{looks_first, scanned_as}
use Rattle.grep_core.specs.Work.{Work, Standing, Position, stands_at}
use Rattle.tool_io.specs.Printed.{Printed}
use Rattle.tool_io.specs.Prints.{Wrote, Breaks}

-- Since the source stood so, the feed has given these rows; and the input is scanned so, by its first bytes where they
-- were looked at.
abbrev pub Stood : GrepPlan → Treatment → Told → Told → Feed → List Row → Type 0
Stood plan treated before now f given =
    ((looks_first plan (mode plan) ≡ false) × (treated ≡ AsText) × HasGiven before now f given)
    ⊎ ((looks_first plan (mode plan) ≡ true) × ((shown : List ℕ) × HasShown before now f given shown
    × (treatment_by (list_any (nat_eq 0) shown) plan.binary ≡ treated)))

-- A scan that ends before its input does leaves the rest: at most 65,536 bytes past its last line, or its last line of
-- context, were taken, also where a write was refused, in the scan or after it.
abbrev pub LeavesRest : {T : Type 0} → meant.Ended → List Row → Told → Told → Result T Stop → Type 0
LeavesRest ended within before after (Ok _) =
    ended ≡ meant.early → TakesLittlePast within before after
LeavesRest ended within before after (Err SinkFault) =
    ended ≡ meant.early → TakesLittlePast within before after
LeavesRest ended within before after (Err TooManyErrors) = ⊤
LeavesRest ended within before after (Err Memory) = ⊤

module _ (work : Work) (treated : Treatment) (s : State) where
  -- the scan of these lines
  abbrev pub scan_of : Rows → Scan
  scan_of found = scan_of_rows work.plan work.patterns s.errors treated found

  -- what is shown of a scan
  abbrev pub scan_text : Scan → List ℕ
  scan_text scan = shown_out work.plan work.name work.show s.has_shown scan

  -- what the lines of a scan leave
  abbrev pub left_by : Scan → State
  left_by scan =
      record s {
        errors = s.errors + length (errors_in scan);
        has_shown = s.has_shown
            || shows_group work.plan work.name work.show scan;
      }

  -- the scan was written whole
  pub record Scans (scan : Scan) (selected : ℕ) (s_new : State) (old new : Printed) : Type 0 where
    pub wrote : Wrote (scan_text scan) (flat_map (error_message work.name) scan.tried) old new
    pub count : selected ≡ length (selected_in work.plan scan)
    pub state : s_new ≡ left_by scan

  -- it stopped after these of its lines, and they count
  pub record StopsIn (scan : Scan) (selected : ℕ) (s_new : State) : Type 0 where
    pub tried : List Tried
    pub rest : List Tried
    pub begins : scan.tried ≡ tried ++ rest
    pub count : selected ≡ length (selected_in work.plan (scan_so_far tried))
    pub state : s_new ≡ left_by (scan_so_far tried)

  abbrev pub ScansTo : Scan → ℕ → State → Printed → Printed → Result Ended Stop → Type 0
  ScansTo scan selected s_new old new (Ok ended) =
      Scans scan selected s_new old new × (scan.ended ≡ ended_of ended)
  ScansTo scan selected s_new old new (Err TooManyErrors) =
      Scans scan selected s_new old new × (scan.ended ≡ too_many_errors)
  ScansTo scan selected s_new old new (Err stop) =
      Breaks (scan_text scan) (flat_map (error_message work.name) scan.tried)
      old new (stop ≡ SinkFault) × StopsIn scan selected s_new

  -- A write was refused: what is shown of these lines was written whole, and little past the one after them was taken.
  -- Where no context follows, none of these lines was the last one that may be selected.
  pub record StopsSoon (found : Rows) (before after : Told) (old new : Kept) : Type 0 where
    pub given : List Row
    pub next : List Row
    pub more : List Row
    pub all : found.rows ≡ (given ++ next) ++ more
    pub one : length next ≤ 1
    pub grew : GrewBy (scan_text (scan_of (rows_with given (At End)))) old new
    pub little : TakesLittlePast (given ++ next) before after
    pub below : lines_after work.show work.plan.after_context ≡ 0
        → IsBelow (greatest_selected work.plan treated)
        (length (filter (is_selected work.plan) (map (tried_row work.plan work.patterns) given)))

-- the scan of the input that the source stands for was written, or a part of it, and so many of its
-- lines were selected
pub record ScansInput (work : Work) (treated : Treatment) (old new : Standing) (selected : ℕ)
    (result : Result Ended Stop) : Type 0 where
  pub heard : Input
  pub hears : Hears old.source new.source heard
  pub treats : scanned_as work.plan heard ≡ treated
  pub scans : ScansTo work treated old.state
      (scan_of work treated old.state (lines work.plan heard)) selected new.state
      old.printed new.printed result
  pub rest :
      let scan = scan_of work treated old.state (lines work.plan heard) in
      LeavesRest scan.ended scan.within old.source new.source result
  pub refused :
      WhereRefused result (StopsSoon work treated old.state (lines work.plan heard)
      old.source new.source old.printed.out new.printed.out)

-- one line at least may be selected
abbrev pub AtLeastOne : Option ℕ → Type 0
AtLeastOne None = ⊤
AtLeastOne (Some most) = 1 ≤ most

-- A scan of an input of these patterns that is treated so, by a job that is made for it, from the first line on.
pub record IsJob (plan : GrepPlan) (treated : Treatment) (show : Show) (most : Option ℕ) (f : Feed)
    : Type 0 where
  pub show_is : show ≡ show_in (is_told plan treated) (mode plan)
  pub most_is : most ≡ greatest_selected plan treated
  pub some : AtLeastOne most
  pub scanned : treated ≢ Skipped
  pub begun : f.offset ≡ 0
  pub near : length f.held ≤ 65536
  pub kind : f.kind ≡ line_end plan
  pub max : f.max ≡ plan.max_buffer_size

-- The two loops of a scan.

-- the input that the source stands for begins with these rows, and is treated so
pub record BeginsWith (plan : GrepPlan) (treated : Treatment) (before after : Told)
    (given : List Row) : Type 0 where
  pub heard : Input
  pub hears : Hears before after heard
  pub treats : scanned_as plan heard ≡ treated
  pub more : List Row
  pub all : (lines plan heard).rows ≡ given ++ more

-- these are all its rows, and they end so
pub record EndsWith (plan : GrepPlan) (treated : Treatment) (before after : Told) (given : List Row)
    (ended : Ended) : Type 0 where
  pub heard : Input
  pub hears : Hears before after heard
  pub treats : scanned_as plan heard ≡ treated
  pub finish : Finish
  pub all : lines plan heard ≡ record { rows = given; finish = finish }
  pub ended_so : ended_of ended ≡ meant.at_finish finish

module _ (work : Work) (most : Option ℕ) (treated : Treatment) (old new : Position) where
  -- the row was the last one that may be selected, and the lines up to it were scanned
  pub record Pauses : Type 0 where
    pub rows : List Row
    pub row : Row
    pub stood : Stood work.plan treated old.at.source new.at.source new.at.feed (rows ++ row ∷ [])
    pub kind : new.at.feed.kind ≡ line_end work.plan
    pub max : new.at.feed.max ≡ work.plan.max_buffer_size
    pub near : length new.at.feed.held ≤ 65536
    pub whole : new.at.feed.offset ≡ bytes_in (rows ++ row ∷ [])
    pub few : new.progress.state.errors ≤ 20
    pub last : most ≡ Some (length (filter (is_selected work.plan)
        (map (tried_row work.plan work.patterns) rows)) + 1)
    pub selects : is_selected work.plan (tried_row work.plan work.patterns row) ≡ true
    pub scans : Scans work treated old.progress.state
        (scan_so_far (map (tried_row work.plan work.patterns) (rows ++ row ∷ [])))
        new.progress.course.selected new.progress.state old.progress.printed new.progress.printed

  -- all lines were scanned, or a part of them
  abbrev pub TakesWhole : Result Ended Stop → Type 0
  TakesWhole =
      ScansInput work treated (stands_at old) (stands_at new) new.progress.course.selected

  -- the lines up to the last one that may be selected, or all of them
  abbrev pub TakesAll : Result (Option Ended) Stop → Type 0
  TakesAll (Ok None) = Pauses
  TakesAll (Ok (Some ended)) = TakesWhole (Ok ended)
  TakesAll (Err stop) = TakesWhole (Err stop)
