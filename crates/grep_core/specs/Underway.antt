-- A scan between two lines: what stands ready, and what a part of it comes to.
use Rattle.std.specs.Prelude.{◌≡◌, ◌≢◌, ℕ, ◌^◌, ◌<◌, ◌≤◌, List, length, map, flat_map, Option, Result, Ok, Err}
use Rattle.pcre_io.specs.Told.{Told, Kept}
use Rattle.line_feed.specs.View.{Feed}
use Rattle.line_feed.specs.declared.phase.Phase.TheVariants.{Closed}
use Rattle.grep_match.specs.Compiled.{patterns_in}
use Rattle.grep_watch.specs.declared.watch.Watch.{Watch}
use Rattle.grep_watch.specs.Watched.{Watches}
use Rattle.grep_output.specs.declared.shows.Show.TheVariants.{Lines}
use Rattle.grep_output.specs.declared.shows.Treatment.{Treatment}
use Rattle.grep_output.specs.declared.state.State.{State}
use Rattle.grep_output.specs.declared.ended.Stop.{Stop}
use Rattle.grep_core.specs.declared.scan.Came.{Came}
use Rattle.grep_core.specs.declared.scan.Came.TheVariants.{Far, Done}
use Rattle.grep_core.specs.declared.lines.Course.{Course}
use Rattle.grep_core.specs.declared.lines.Job.{Job}
use Rattle.grep_core.specs.Work.{Work, Position, progress, fed, position}
use Rattle.grep_match.specs.Matches.{Tried, tried_row, is_selected, has_error}
use Rattle.grep_match.specs.PatternTexts.{line_end}
use Rattle.line_feed.specs.Rows.{Row}
use Rattle.pat_tree.specs.Pattern.{Pattern}
use Rattle.grep_args.specs.declared.plan.GrepPlan.{GrepPlan}
use Rattle.grep_output.specs.Scans.{IsBelow, errors_left}
use Rattle.grep_output.specs.Messages.{error_message}
use Rattle.grep_output.specs.InputText.{shown_out}
use Rattle.grep_output.specs.Course.{scan_so_far}
use Rattle.grep_output.specs.LittlePast.{bytes_in}
use Rattle.grep_output.proofs.Reached.{Reached}
use Rattle.grep_output.proofs.ScanEnds.{count}
use Rattle.grep_core.specs.Turns.{course_of}
use Rattle.grep_core.specs.WholeScans.{Stood, TakesAll, left_by}
use Rattle.tool_io.specs.Prints.{Wrote}
use Rattle.tool_io.specs.Printed.{printed}

-- the lines that were given, with their matches
abbrev pub tries : GrepPlan → List Pattern → List Row → List Tried
tries plan patterns given = map (tried_row plan patterns) given

-- the numbers of a loop between two lines
pub record Keeps (f : Feed) (c : Course) (s : State) : Type 0 where
  pub max : f.max ≤ 2 ^ 30
  pub numbered : f.number ≤ f.offset
  pub number : f.number ≤ 2 ^ 40
  pub earlier : length c.earlier.rows ≤ f.number
  pub context : c.context_to ≤ 2 ^ 62
  pub selected : c.selected ≤ f.number
  pub errors : s.errors ≤ 20

-- the next line can be taken
pub record IsReady (job : Job) (f : Feed) (c : Course) (s : State) (w : Watch) : Type 0 where
  pub live : f.phase ≢ Closed
  pub longest : f.max ≤ c.earlier.longest
  pub keeps : Keeps f c s
  pub watch : Watches job.plan.now (patterns_in job.patterns.now) w f.held
  pub limit : job.show ≡ Lines → c.earlier.limit ≡ job.plan.now.before_context

-- what lines that were taken leave
module _ (work : Work) (treated : Treatment) (s0 : State) where
  -- the lines were taken
  pub record Taken (ts : List Tried) (c : Course) (s : State) (out0 out err0 err : Kept) : Type 0 where
    pub reached : Reached work.plan work.show ts (course_of c)
    pub wrote : Wrote (shown_out work.plan work.name work.show s0.has_shown (scan_so_far ts))
        (flat_map (error_message work.name) ts) (printed out0 err0) (printed out err)
    pub state : s ≡ left_by work treated s0 (scan_so_far ts)

-- How a scan stands after the rows that were given.
module _ (work : Work) (most : Option ℕ) (treated : Treatment) (s0 : State) where
  pub record Standing (before now : Told) (f : Feed) (c : Course) (s : State) (out0 out err0 err : Kept) : Type 0 where
    pub given : List Row
    pub stood : Stood work.plan treated before now f given
    pub kind : f.kind ≡ line_end work.plan
    pub max : f.max ≡ work.plan.max_buffer_size
    pub whole : f.offset ≡ bytes_in given
    pub near : length f.held ≤ 65536
    pub few : count has_error (tries work.plan work.patterns given) < errors_left s0.errors
    pub below : IsBelow most (count (is_selected work.plan) (tries work.plan work.patterns given))
    pub taken : Taken work treated s0 (tries work.plan work.patterns given) c s out0 out err0 err

-- where a scan began
pub record Origin : Type 0 where
  pub treated : Treatment
  pub before : Told
  pub feed : Feed
  pub course : Course
  pub state : State
  pub out : Kept
  pub err : Kept

abbrev pub began_at : Origin → Position
began_at from =
    position (fed from.feed from.before) (progress from.course from.state (printed from.out from.err))

-- the lines since then were scanned so far
abbrev pub StandsAt : Work → Option ℕ → Origin → Position → Type 0
StandsAt work most from new =
    Standing work most from.treated from.state from.before new.at.source new.at.feed
    new.progress.course new.progress.state from.out new.progress.printed.out from.err
    new.progress.printed.err

-- a part of the scan, up to a line or to its end
abbrev pub TakesPart : Work → Option ℕ → Origin → Position → Result Came Stop → Type 0
TakesPart work most from new (Ok Far) = StandsAt work most from new
TakesPart work most from new (Ok (Done ended)) =
    TakesAll work most from.treated (began_at from) new (Ok ended)
TakesPart work most from new (Err stop) =
    TakesAll work most from.treated (began_at from) new (Err stop)
