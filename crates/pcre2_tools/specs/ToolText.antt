-- What the tool writes: words → the tool that the first one names, the targets that it asks for and what they stand for
-- → its text.
use Rattle.std.specs.Prelude.{◌≡◌, ◌≢◌, ℕ, List, [], ◌∷◌, Bool, true, false, codes, bytes_eq, ⊤}
use Rattle.pcre_io.specs.Told.{Told}
use Rattle.pcre_io.specs.Files.{Filed}
use Rattle.tool_io.specs.declared.target.Target.{Target}
use Rattle.tool_io.specs.Asked.{Asked}
use Rattle.tool_io.specs.Absent.{AbsentBy}
use Rattle.tool_io.specs.Outcomes.{RunOutcome, said}
use Rattle.grep_main.specs.Asks.{AsksFor}
use Rattle.grep_main.specs.Leaves.{LeavesInput, RunTies}
use Rattle.grep_main.specs.Stages.{Streams}
use Rattle.grep_main.specs.ToolText.{text_of}
use Rattle.test_main.specs.Opens.{AreGiven}
use Rattle.test_main.specs.ToolText as script

-- by the name of the tool
abbrev pub is_grep : List ℕ → Bool
is_grep tool = bytes_eq tool (codes "pcre2grep")

abbrev pub is_test : List ℕ → Bool
is_test tool = bytes_eq tool (codes "pcre2test")

-- each tool asks for the targets of its words, and nothing else asks for any
abbrev pub AsksIf : Bool → Bool → Filed → Filed → List (List ℕ) → List Target → Type 0
AsksIf true test old new words asked = AsksFor old.contents old.faults new.faults words asked
AsksIf false true old new words asked = asked ≡ script.asked_targets words
AsksIf false false old new words asked = asked ≡ []

-- the targets that the tool asks for, over files that told this before, and tell this now
abbrev pub ToolAsks : Filed → Filed → List (List ℕ) → List Target → Type 0
ToolAsks old new [] asked = asked ≡ []
ToolAsks old new (tool ∷ words) asked = AsksIf (is_grep tool) (is_test tool) old new words asked

-- what is told of inputs beside the text, for a run that answers this status
abbrev pub TiesIf : {S : Type 0} → (S → Told) → Bool → Streams → Streams → List (List ℕ)
    → List Asked → ℕ → Type 0
TiesIf tells true old new words given status =
    RunTies old.files new.files given status (LeavesInput words given old.input new.input)
TiesIf tells false old new words given status =
    AbsentBy old.files.contents old.files.faults new.files.faults given
    × (status ≢ 3 → AreGiven tells old.files.contents given)

-- A file that a tool was to read is absent only where a fault was counted. Unless memory lacked,
-- little past its last line was taken where pcre2grep's scan of standard input ends early, and what
-- pcre2test's file stands for was given by a source that was opened, which tells so much.
abbrev pub ToolTies : {S : Type 0} → (S → Told) → Streams → Streams → List (List ℕ) → List Asked → ℕ
    → Type 0
ToolTies tells old new [] given status = ⊤
ToolTies tells old new (tool ∷ words) given status =
    TiesIf tells (is_grep tool) old new words given status

-- by the tool
abbrev pub text_by : Bool → Bool → List (List ℕ) → List Asked → RunOutcome
text_by true test words given = text_of words given
text_by false true words given = script.text_of words given
text_by false false words given = said (codes "unknown tool") 2

-- What the tool writes for these words, and its status, where the targets that it asks for stand
-- for these inputs.
abbrev pub tool_text : List (List ℕ) → List Asked → RunOutcome
tool_text [] given = said (codes "unknown tool") 2
tool_text (tool ∷ words) given = text_by (is_grep tool) (is_test tool) words given
