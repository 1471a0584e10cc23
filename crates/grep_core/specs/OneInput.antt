-- What searching one input does: what the source told → the input that it stands for → how it is treated → its scan,
-- its summary and its messages → what was written, told and left.
use Rattle.std.specs.Prelude.{◌≡◌, ◌≢◌, ℕ, ◌≤◌, Bool, true, false, List, [], length, ◌++◌, flat_map, Result, Ok, Err}
use Rattle.std.specs.Prelude.{◌⊎◌, ⊤}
use Rattle.pcre_io.specs.Told.{Told}
use Rattle.pcre_io.specs.declared.traits.IoError.{IoError}
use Rattle.line_feed.specs.Rows.{Input}
use Rattle.line_feed.specs.View.{Feed}
use Rattle.line_feed.specs.Hears.{Hears}
use Rattle.line_feed.specs.declared.phase.Phase.TheVariants.{Open, Closed}
use Rattle.grep_args.specs.declared.plan.GrepPlan.{GrepPlan}
use Rattle.grep_output.specs.declared.ended.FileEnd.{FileEnd}
use Rattle.grep_output.specs.declared.ended.Stop.{Stop}
use Rattle.grep_output.specs.declared.ended.Stop.TheVariants.{SinkFault, TooManyErrors, Memory}
use Rattle.grep_output.specs.declared.shows.Treatment.{Treatment}
use Rattle.grep_output.specs.declared.shows.Treatment.TheVariants.{Skipped}
use Rattle.grep_output.specs.declared.state.State.{State}
use Rattle.pat_tree.specs.Pattern.{Pattern}
use Rattle.grep_output.specs.Lines.{lines, treatment}
use Rattle.grep_output.specs.Messages.{error_message}
use Rattle.grep_output.specs.Scans.{Scan, too_many_errors, scan, selected_in}
use Rattle.grep_output.specs.InputText.{Written, input_text, shown_out, state_by}
use Rattle.grep_output.specs.Shows.{is_told, show_in}
use Rattle.grep_match.specs.Modes.{mode}
use Rattle.grep_match.specs.Matches.{Tried}
use Rattle.grep_output.specs.Course.{scan_so_far}
use Rattle.grep_output.specs.Ends.{ended_of, stop_of}
use Rattle.tool_io.specs.Prints.{Wrote, Breaks}
use Rattle.grep_output.specs.Refused.{RefusesSoon, WhereRefused}
use Rattle.grep_core.specs.FirstBytes.{scanned_as}
use Rattle.grep_core.specs.WholeScans.{Stood, LeavesRest, StopsSoon}
use Rattle.tool_io.specs.Printed.{Printed}
use Rattle.grep_core.specs.Work.{Work, work_on, Standing}

abbrev pub is_skipped : Treatment → Bool
is_skipped Skipped = true
is_skipped _ = false

-- the feed has taken nothing
pub record IsNew (f : Feed) : Type 0 where
  pub held : f.held ≡ []
  pub number : f.number ≡ 0
  pub offset : f.offset ≡ 0
  pub phase : f.phase ≡ Open

-- the feed looked at the first bytes at most, and the input is scanned so
pub record Treats (plan : GrepPlan) (f g : Feed) (before after : Told) (treated : Treatment)
    : Type 0 where
  pub stood : Stood plan treated before after g []
  pub live : g.phase ≢ Closed
  pub number : g.number ≡ 0
  pub near : length g.held ≤ 65536
  pub begun : g.offset ≡ 0
  pub kind : g.kind ≡ f.kind
  pub max : g.max ≡ f.max

abbrev pub TreatsTo : GrepPlan → Feed → Feed → Told → Told → Result Treatment Stop → Type 0
TreatsTo plan f g before after (Ok treated) = Treats plan f g before after treated
TreatsTo plan f g before after (Err stop) =
    (stop ≡ Memory) × ((heard : Input) × Hears before after heard)

-- a text was written to each sink; or a part of each, where a write was refused
abbrev pub WritesBoth : {T : Type 0} → List ℕ → List ℕ → Printed → Printed → Result T IoError
    → Type 0
WritesBoth out_text err_text old new (Ok _) = Wrote out_text err_text old new
WritesBoth out_text err_text old new (Err fault) =
    Breaks out_text err_text old new (stop_of fault ≡ SinkFault)

-- an input was scanned
module _ (work : Work) (s : State) where
  -- what is shown of a scan, and what the scan leaves
  abbrev pub shown_text : Scan → List ℕ
  shown_text found = shown_out work.plan work.name work.show s.has_shown found

  abbrev pub state_of : Scan → State
  state_of found = state_by work.plan work.name work.show s found

  -- the scan was written whole, and its lines count
  pub record Counts (found : Scan) (s_new : State) (old new : Printed) : Type 0 where
    pub wrote : Wrote (shown_text found) (flat_map (error_message work.name) found.tried) old new
    pub state : s_new ≡ state_of found

  -- a first part of its lines counts
  pub record CountsPart (found : Scan) (s_new : State) : Type 0 where
    pub tried : List Tried
    pub rest : List Tried
    pub begins : found.tried ≡ tried ++ rest
    pub state : s_new ≡ state_of (scan_so_far tried)

  abbrev pub ScansSo : Scan → State → Printed → Printed → Result FileEnd Stop → Type 0
  ScansSo found s_new old new (Ok end) =
      Counts found s_new old new × (end.selected ≡ length (selected_in work.plan found))
      × (found.ended ≡ ended_of end.ended)
  ScansSo found s_new old new (Err TooManyErrors) =
      Counts found s_new old new × (found.ended ≡ too_many_errors)
  ScansSo found s_new old new (Err stop) =
      Breaks (shown_text found) (flat_map (error_message work.name) found.tried) old new
      (stop ≡ SinkFault) × CountsPart found s_new

  -- what a run that can't go on leaves: the input counts whole, or a first part of its lines
  abbrev pub LeavesTo : Written → Scan → State → Result FileEnd Stop → Type 0
  LeavesTo w found s_new (Ok end) = ⊤
  LeavesTo w found s_new (Err TooManyErrors) = ⊤
  LeavesTo w found s_new (Err stop) = (s_new ≡ w.state) ⊎ CountsPart found s_new

-- the scan of an input, as that of one that is treated so
pub record ScansAs (work : Work) (treated : Treatment) (old new : Standing)
    (result : Result FileEnd Stop) : Type 0 where
  pub heard : Input
  pub hears : Hears old.source new.source heard
  pub treats : scanned_as work.plan heard ≡ treated
  pub scans : ScansSo work old.state
      (scan work.plan work.patterns old.state.errors treated (lines work.plan heard))
      new.state old.printed new.printed result
  pub rest :
      let found = scan work.plan work.patterns old.state.errors treated (lines work.plan heard) in
      LeavesRest found.ended found.within old.source new.source result
  pub refused : WhereRefused result (StopsSoon work treated old.state (lines work.plan heard)
      old.source new.source old.printed.out new.printed.out)

-- all was written, and this is told and left
pub record GrepsAll (w : Written) (s_new : State) (old new : Printed) (end : FileEnd) : Type 0 where
  pub wrote : Wrote w.out w.err old new
  pub selected : end.selected ≡ w.selected
  pub ended : w.ended ≡ ended_of end.ended
  pub state : s_new ≡ w.state

-- all was written up to the last match error that there may be; else, where the run can't go on, a part of it
abbrev pub GrepsTo : Written → State → Printed → Printed → Result FileEnd Stop → Type 0
GrepsTo w s_new old new (Ok end) = GrepsAll w s_new old new end
GrepsTo w s_new old new (Err TooManyErrors) =
    Wrote w.out w.err old new × (w.ended ≡ too_many_errors) × (s_new ≡ w.state)
GrepsTo w s_new old new (Err stop) = Breaks w.out w.err old new (stop ≡ SinkFault)

-- what is written is the text of the input that the source stands for, after what the inputs before left
pub record Greps (plan : GrepPlan) (patterns : List Pattern) (name : List ℕ) (old new : Standing)
    (result : Result FileEnd Stop) : Type 0 where
  pub heard : Input
  pub hears : Hears old.source new.source heard
  pub greps : GrepsTo (input_text plan patterns name old.state heard) new.state
      old.printed new.printed result
  pub left :
      let treated = treatment plan heard in
      LeavesTo (work_on plan patterns name (show_in (is_told plan treated) (mode plan))) old.state
      (input_text plan patterns name old.state heard)
      (scan plan patterns old.state.errors treated (lines plan heard)) new.state result
  pub rest :
      let w = input_text plan patterns name old.state heard in
      LeavesRest w.ended w.within old.source new.source result
  pub refused : WhereRefused result (RefusesSoon plan patterns name old.state
      (treatment plan heard) (lines plan heard).rows old.source new.source
      old.printed.out new.printed.out)
