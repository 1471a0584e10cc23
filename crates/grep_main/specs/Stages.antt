-- What a run does from each of its stages on: words, their plan, and its patterns → the targets that it asks for → what
-- these stand for → its text.
use Rattle.std.specs.Prelude.{◌≡◌, ℕ, Bool, List, ◌++◌, length, Result}
use Rattle.pcre_io.specs.Told.{Told}
use Rattle.pcre_io.specs.Files.{Filed}
use Rattle.line_feed.specs.Rows.{Input}
use Rattle.line_feed.specs.Hears.{Hears}
use Rattle.grep_args.specs.declared.plan.GrepPlan.{GrepPlan}
use Rattle.tool_io.specs.declared.target.Target.{Target}
use Rattle.tool_io.specs.Asked.{Asked, StandFor}
use Rattle.tool_io.specs.Takes.{TakesAll}
use Rattle.tool_io.specs.Printed.{Printed}
use Rattle.grep_core.specs.grep_match.Compiled.{Compiled}
use Rattle.grep_output.specs.declared.ended.Stop.{Stop}
use Rattle.grep_main.specs.Asks.{AsksFor, Lists, asked_by_plan}
use Rattle.grep_main.specs.Leaves.{Ties, Unless, LeavesBy, LeavesPlan, LeavesInput, LeavesUnasked}
use Rattle.grep_main.specs.RunsBy.{RunsBy}
use Rattle.grep_main.specs.declared.streams.Streams.{Streams as Lent}
use Rattle.grep_main.specs.ToolText.{text_by_patterns, text_by_plan, text_of}

-- what a run's files and its standard input tell, and what was printed
pub record Streams : Type 0 where
  pub files : Filed
  pub input : Told
  pub printed : Printed

abbrev pub streams : Filed → Told → Printed → Streams
streams files input printed = record { files = files; input = input; printed = printed }

-- they are the same streams, whatever was read of them and written to them
abbrev pub AreSame : {F S O E : Type 0} → Lent F S O E → Lent F S O E → Type 0
AreSame old new =
    (new.files.ghost_name ≡ old.files.ghost_name) × (new.input.ghost_name ≡ old.input.ghost_name)
    × (new.out.ghost_name ≡ old.out.ghost_name) × (new.err.ghost_name ≡ old.err.ghost_name)

-- what is searched for: these patterns, by a plan, in what these words stand for
pub record Sought : Type 0 where
  pub plan : GrepPlan
  pub patterns : Compiled
  pub words : List (List ℕ)

abbrev pub sought : GrepPlan → Compiled → List (List ℕ) → Sought
sought plan patterns words = record { plan = plan; patterns = patterns; words = words }

-- a search for it, where standard input was or wasn't used
abbrev pub SearchesFor : Sought → Bool → Streams → Streams → Result ℕ Stop → Type 0
SearchesFor s was_used old new result =
    (list : List Target)
    × Lists old.files.contents old.files.faults new.files.faults s.plan s.words list
    × ((given : List Asked) × TakesAll was_used old.input new.input old.files.contents list given
    × RunsBy (text_by_patterns s.words s.plan given s.patterns) old.printed new.printed result
    × Ties old.files new.files given result
    (Unless was_used (LeavesBy old.input new.input s.words s.plan given s.patterns))
    × LeavesUnasked list old.input new.input)

-- a search by a plan
abbrev pub SearchesBy : GrepPlan → List (List ℕ) → Streams → Streams → Result ℕ Stop → Type 0
SearchesBy plan words old new result =
    (heard : Input) × Hears old.input new.input heard
    × ((list : List Target)
    × Lists old.files.contents old.files.faults new.files.faults plan words list
    × ((pattern_files : List Asked) × (given : List Asked)
    × (length pattern_files ≡ length plan.pattern_files)
    × StandFor old.files.contents heard (asked_by_plan plan list) (pattern_files ++ given)
    × RunsBy (text_by_plan words plan pattern_files given) old.printed new.printed result
    × Ties old.files new.files (pattern_files ++ given) result
    (LeavesPlan old.input new.input words plan pattern_files given)
    × LeavesUnasked (asked_by_plan plan list) old.input new.input))

-- a run on the words after the tool's name
abbrev pub RunsOn : List (List ℕ) → Streams → Streams → Result ℕ Stop → Type 0
RunsOn words old new result =
    (heard : Input) × Hears old.input new.input heard
    × ((asked : List Target)
    × AsksFor old.files.contents old.files.faults new.files.faults words asked
    × ((given : List Asked) × StandFor old.files.contents heard asked given
    × RunsBy (text_of words given) old.printed new.printed result
    × Ties old.files new.files given result
    (LeavesInput words given old.input new.input)
    × LeavesUnasked asked old.input new.input))
