-- What the scan of an input is asked for, and how it stands: between two inputs, between two lines,
-- and where it reads.
use Rattle.std.specs.Prelude.{ℕ, List}
use Rattle.pcre_io.specs.Told.{Told}
use Rattle.line_feed.specs.View.{Feed}
use Rattle.grep_args.specs.declared.plan.GrepPlan.{GrepPlan}
use Rattle.pat_tree.specs.Pattern.{Pattern}
use Rattle.grep_match.specs.Compiled.{patterns_in}
use Rattle.grep_output.specs.declared.shows.Show.{Show}
use Rattle.grep_output.specs.declared.state.State.{State}
use Rattle.tool_io.specs.Printed.{Printed}
use Rattle.grep_core.specs.declared.lines.Course.{Course}
use Rattle.grep_core.specs.declared.lines.Job.{Job}

-- what is done with the lines of an input: the plan and the patterns by which they are searched, the
-- name of the input, and what is shown of a selected line
pub record Work : Type 0 where
  pub plan : GrepPlan
  pub patterns : List Pattern
  pub name : List ℕ
  pub show : Show

abbrev pub work_on : GrepPlan → List Pattern → List ℕ → Show → Work
work_on plan patterns name show =
    record { plan = plan; patterns = patterns; name = name; show = show }

-- the work of a job
abbrev pub work_of : Job → Work
work_of job = work_on job.plan.now (patterns_in job.patterns.now) job.name.now job.show

-- how a run stands between two inputs: what the source tells, what the inputs so far leave, and what
-- was written
pub record Standing : Type 0 where
  pub source : Told
  pub state : State
  pub printed : Printed

abbrev pub standing : Told → State → Printed → Standing
standing source state printed = record { source = source; state = state; printed = printed }

-- how a scan stands between two lines: its course, what the inputs and the lines so far leave, and
-- what was written
pub record Progress : Type 0 where
  pub course : Course
  pub state : State
  pub printed : Printed

abbrev pub progress : Course → State → Printed → Progress
progress course state printed = record { course = course; state = state; printed = printed }

-- what a scan reads: a feed, and what its source tells
pub record Fed : Type 0 where
  pub feed : Feed
  pub source : Told

abbrev pub fed : Feed → Told → Fed
fed feed source = record { feed = feed; source = source }

-- where a scan reads, and how it stands there
pub record Position : Type 0 where
  pub at : Fed
  pub progress : Progress

abbrev pub position : Fed → Progress → Position
position at progress = record { at = at; progress = progress }

abbrev pub stands_at : Position → Standing
stands_at p = standing p.at.source p.progress.state p.progress.printed
