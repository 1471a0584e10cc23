-- What the scan of a text that is held does: its blocks from a place on → their scan → what is written, and how many were
-- selected.
use Rattle.std.specs.Prelude.{◌≡◌, ℕ, ◌+◌, ◌≤◌, ◌<◌, ◌==◌, Bool, true, ◌&&◌, ◌||◌, nat_lt, List, [], length, drop}
use Rattle.std.specs.Prelude.{flat_map, Result, Ok, Err}
use Rattle.line_feed.specs.Rows.{Row, Finish}
use Rattle.grep_multi.specs.grep_match.Compiled.{patterns_in}
use Rattle.grep_multi.specs.declared.cut.LineStart.{LineStart}
use Rattle.grep_multi.specs.Blocks.{TriedBlock, blocks_in}
use Rattle.grep_output.specs.declared.ended.Ended.{Ended}
use Rattle.grep_output.specs.declared.ended.Stop.{Stop}
use Rattle.grep_output.specs.declared.ended.Stop.TheVariants.{SinkFault, TooManyErrors, Memory}
use Rattle.grep_output.specs.declared.ended.FileEnd.{FileEnd}
use Rattle.grep_output.specs.declared.shows.Treatment.{Treatment}
use Rattle.grep_output.specs.declared.shows.Treatment.TheVariants.{AsText, AsBinary, Skipped}
use Rattle.grep_output.specs.declared.state.State.{State}
use Rattle.grep_output.specs.Course.{is_lines}
use Rattle.grep_output.specs.Ends.{ended_of}
use Rattle.grep_output.specs.Messages.{error_message}
use Rattle.grep_output.specs.Scans.{at_finish, early, too_many_errors}
use Rattle.grep_output.specs.Shows.{lines_after}
use Rattle.tool_io.specs.Prints.{Wrote, Breaks}
use Rattle.tool_io.specs.Printed.{Printed}
use Rattle.grep_blocks.specs.declared.job.Job.{Job}
use Rattle.grep_blocks.specs.declared.job.Course.{Course}
use Rattle.grep_blocks.specs.BlockScan.{BlockScan, scan_done, scan_from, first_of, tried_of}
use Rattle.grep_blocks.specs.BlockScan.{selected_in, errors_in}
use Rattle.grep_blocks.specs.BlockText.{out_from}
use Rattle.grep_blocks.specs.Steps.{IsGap, IsStart, all_rows, rows_at}

-- the numbers of a scan between two blocks
pub record Keeps (job : Job) (c : Course) : Type 0 where
  pub from : IsStart job c.from
  pub gap : IsStart job c.gap
  pub ordered : c.gap.lines ≤ c.from.lines
  pub selected : c.selected ≤ c.from.lines
  pub errors : c.errors ≤ 20

-- a block can be taken that ends before a place
pub record IsReady (job : Job) (c : Course) (behind : LineStart) : Type 0 where
  pub keeps : Keeps job c
  pub some : c.from.at < length job.search.text.now
  pub next : c.from.lines < behind.lines

-- these are the lines from a place on, of all lines
abbrev pub IsRest : Job → LineStart → Type 0
IsRest job at = rows_at job at ≡ drop at.lines (all_rows job)

-- this block stands between two places
pub record IsBlock (job : Job) (from behind : LineStart) (b : TriedBlock) : Type 0 where
  pub lines : IsGap job from behind b.lines
  pub number : (first_of b.lines).number ≡ from.lines + 1
  pub rest : IsRest job from

-- nothing was scanned
pub record IsBegun (job : Job) (c : Course) : Type 0 where
  pub from : c.from ≡ record { at = 0; lines = 0 }
  pub gap : c.gap ≡ record { at = 0; lines = 0 }
  pub selected : c.selected ≡ 0
  pub errors : c.errors ≤ 20

-- the scan from here on, of lines that end so
abbrev pub scan_at : Job → Finish → Course → BlockScan
scan_at job finish c =
    let plan = job.search.plan.now in
    scan_from plan job.most (lines_after job.show plan.after_context) finish c.errors c.selected
    (blocks_in plan (patterns_in job.search.patterns.now) job.search.text.now (rows_at job c.from))

-- what it shows behind these lines since the last selected block
abbrev pub out_at : Job → Bool → List Row → BlockScan → List ℕ
out_at job is_first gap s =
    out_from job.search.plan.now job.name.now job.search.text.now (all_rows job) job.has_shown job.show
    s.following is_first gap s.within

abbrev pub errors_at : Job → BlockScan → List ℕ
errors_at job s = flat_map (λ b. error_message job.name.now (tried_of b)) s.tried

module _ (job : Job) (s : BlockScan) (old new : Course) (before after : Printed) where
  abbrev pub out_text : List ℕ
  out_text = out_at job (old.selected == 0) [] s

  pub record ScansAll : Type 0 where
    pub wrote : Wrote out_text (errors_at job s) before after
    pub selected : new.selected ≡ old.selected + length (selected_in job.search.plan.now s)
    pub errors : new.errors ≡ old.errors + length (errors_in s)

  abbrev pub ScansTo : Result Ended Stop → Type 0
  ScansTo (Ok ended) = ScansAll × (s.ended ≡ ended_of ended)
  ScansTo (Err TooManyErrors) = ScansAll × (s.ended ≡ too_many_errors)
  ScansTo (Err stop) = Breaks out_text (errors_at job s) before after (stop ≡ SinkFault)

abbrev pub Scans : Job → Course → Course → Printed → Printed → Result Ended Stop → Type 0
Scans job old new before after result =
    (finish : Finish) → ended_of job.finish ≡ at_finish finish
    → ScansTo job (scan_at job finish old) old new before after result

-- before the first block, behind so many match errors of the run
abbrev pub begun_at : ℕ → Course
begun_at errors = record {
  from = record { at = 0; lines = 0 };
  gap = record { at = 0; lines = 0 };
  selected = 0;
  errors = errors;
}

-- what the blocks of a scan leave
abbrev pub state_after : Job → State → BlockScan → State
state_after job before s = record {
  errors = before.errors + length (errors_in s);
  total = before.total + length (selected_in job.search.plan.now s);
  has_shown = before.has_shown
      || is_lines job.show && nat_lt 0 (length (selected_in job.search.plan.now s));
}

-- a text was scanned, and its blocks count
module _ (job : Job) (s : BlockScan) (old new : State) (before after : Printed) where
  pub record Counts : Type 0 where
    pub wrote : Wrote (out_at job true [] s) (errors_at job s) before after
    pub state : new ≡ state_after job old s

  abbrev pub CountsTo : Result FileEnd Stop → Type 0
  CountsTo (Ok end) =
      Counts × (end.selected ≡ length (selected_in job.search.plan.now s))
      × (s.ended ≡ ended_of end.ended)
  CountsTo (Err TooManyErrors) = Counts × (s.ended ≡ too_many_errors)
  CountsTo (Err stop) = Breaks (out_at job true [] s) (errors_at job s) before after (stop ≡ SinkFault)

-- the scan of a text that is treated so
abbrev pub scan_by : Job → Finish → Treatment → State → BlockScan
scan_by job finish Skipped before = scan_done early
scan_by job finish AsText before = scan_at job finish (begun_at before.errors)
scan_by job finish AsBinary before = scan_at job finish (begun_at before.errors)
