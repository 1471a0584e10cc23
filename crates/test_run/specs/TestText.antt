-- What pcre2test writes of a script: input → lines → entries → each line, and the result lines of
-- its entry.
use Rattle.std.specs.Prelude.{ℕ, List, [], ◌∷◌, ◌++◌, map}
use Rattle.byte_lanes.specs.declared.line_end.EndKind.TheVariants.{Lf}
use Rattle.line_feed.specs.Rows.{Row, Rows, Input, Finish, rows}
use Rattle.tool_io.specs.Texts.{line}
use Rattle.test_modifiers.specs.declared.modifiers.Modifiers.{Modifiers}
use Rattle.test_script.specs.declared.entries.Entry.{Entry}
use Rattle.test_script.specs.declared.plan.TestPlan.{TestPlan}
use Rattle.test_script.specs.Script.{beginning, entries_of}
use Rattle.test_run.specs.Courses.{Course, between, entry_text, course_after}

-- each line, and what its entry comes to after those before it
unfoldable pub told : Course → List (List ℕ) → List Entry → List ℕ
told course [] entries = []
told course (l ∷ lines) [] = []
told course (l ∷ lines) (e ∷ entries) =
    (line l ++ entry_text course e) ++ told (course_after course e) lines entries

-- the text of a script's lines, where the defaults are these before its first line
abbrev pub text_of : Modifiers → List (List ℕ) → List ℕ
text_of defaults lines = told between lines (entries_of (beginning defaults) lines)

abbrev pub greatest_line : ℕ
greatest_line = 1048576

abbrev pub bytes_of : List Row → List (List ℕ)
bytes_of found = map (λ (r : Row). r.bytes) found

-- what is written of a script, and how its lines end
pub record Tested : Type 0 where
  pub out : List ℕ
  pub finish : Finish

abbrev pub tested_rows : Modifiers → Rows → Tested
tested_rows defaults found =
    record { out = text_of defaults (bytes_of found.rows); finish = found.finish }

-- Lines end at LF, and have at most 1,048,576 bytes.
abbrev pub test_text : TestPlan → Input → Tested
test_text plan input = tested_rows plan.defaults (rows Lf greatest_line input)
