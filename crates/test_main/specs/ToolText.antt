-- What pcre2test writes, and its status: words → plan and script → text of the script.
use Rattle.std.specs.Prelude.{ℕ, not, List, [], ◌∷◌, ◌++◌, codes, decimal, Option, Some, None}
use Rattle.line_feed.specs.Rows.{Input, Finish, At, Long, End, Fault, Limit}
use Rattle.tool_io.specs.Texts.{line, text_if}
use Rattle.tool_io.specs.Outcomes.{RunOutcome, said}
use Rattle.tool_io.specs.declared.target.Target.{Target}
use Rattle.tool_io.specs.declared.target.Target.TheVariants as targets
use Rattle.tool_io.specs.Asked.{Asked, asked}
use Rattle.test_script.specs.declared.plan.TestPlan.{TestPlan}
use Rattle.test_run.specs.TestText.{Tested, test_text}
use Rattle.test_gen.specs.Texts.{generated_text}
use Rattle.test_main.specs.declared.words.Script.{Script}
use Rattle.test_main.specs.declared.words.Script.TheVariants.{Standard, File, Generated}
use Rattle.test_main.specs.declared.words.TestWords.{TestWords}
use Rattle.test_main.specs.Words.{words_of}

-- The messages.

abbrev pub message_on : List ℕ → List ℕ → List ℕ
message_on name text = codes "pcre2test: " ++ (name ++ (codes ": " ++ text))

-- how a script ended that wasn't read to its end
abbrev pub finish_message : List ℕ → Finish → List ℕ
finish_message name (At End) = []
finish_message name (At Fault) = line (message_on name (codes "read error"))
finish_message name (At Limit) = line (message_on name (codes "input too large"))
finish_message name (Long number) =
    line (message_on name (codes "line " ++ (decimal number ++ codes " is too long")))

abbrev pub status_of : Finish → ℕ
status_of (At End) = 0
status_of _ = 2

-- A script that is there.

abbrev pub banner : TestPlan → List ℕ
banner plan = text_if (not plan.quiet) (codes "PCRE2 8-bit profile\n\n")

abbrev pub tested_outcome : TestPlan → List ℕ → Tested → RunOutcome
tested_outcome plan name t = record {
  out = banner plan ++ t.out;
  err = finish_message name t.finish;
  status = status_of t.finish;
}

abbrev pub script_text : TestPlan → List ℕ → Input → RunOutcome
script_text plan name input = tested_outcome plan name (test_text plan input)

-- All together.

-- lines that are made are of no target
abbrev pub targets_of : Script → List Target
targets_of Standard = targets.Input ∷ []
targets_of (File path) = targets.File path ∷ []
targets_of (Generated n) = []

abbrev pub text_on : TestPlan → List ℕ → Option Input → RunOutcome
text_on plan name None = said (message_on name (codes "cannot be opened")) 1
text_on plan name (Some input) = script_text plan name input

-- without a banner
abbrev pub generated_outcome : ℕ → RunOutcome
generated_outcome n = record { out = generated_text n; err = []; status = 0 }

-- what a file of this name stands for
abbrev pub file_given : List ℕ → Option Input → List Asked
file_given path input = asked (targets.File path) input ∷ []

-- the input that the script's target stands for
abbrev pub input_in : List Asked → Option Input
input_in [] = None
input_in (a ∷ given) = a.input

abbrev pub text_for : TestPlan → Script → Option Input → RunOutcome
text_for plan Standard input = text_on plan (codes "(standard input)") input
text_for plan (File path) input = text_on plan path input
text_for plan (Generated n) input = generated_outcome n

abbrev pub text_by : Option TestWords → List Asked → RunOutcome
text_by None given = said (codes "pcre2test: bad arguments") 1
text_by (Some asked) given = text_for asked.plan asked.script (input_in given)

abbrev pub asked_by : Option TestWords → List Target
asked_by None = []
asked_by (Some asked) = targets_of asked.script

-- the target that the words after the tool's name ask for, if they aren't refused
unfoldable pub asked_targets : List (List ℕ) → List Target
asked_targets words = asked_by (words_of words)

-- What pcre2test writes for the words after its name, where its target stands for this input.
unfoldable pub text_of : List (List ℕ) → List Asked → RunOutcome
text_of words given = text_by (words_of words) given
