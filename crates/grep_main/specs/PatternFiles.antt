-- Files of patterns (pcre2grep, "OPTIONS", -f): targets → inputs → rows → trimmed lines → patterns, or a message.
use Rattle.std.specs.Prelude.{ℕ, ◌==◌, Bool, true, false, ◌||◌, if◌then◌else◌, List, [], ◌∷◌, ◌++◌, map, filter}
use Rattle.std.specs.Prelude.{codes, Option, Some, None, Result, Ok, Err}
use Rattle.std.specs.Int.{is_in_range}
use Rattle.byte_lanes.specs.declared.line_end.EndKind.TheVariants.{Lf}
use Rattle.line_feed.specs.Rows.{Row, Rows, Input, End, Finish, At, rows}
use Rattle.grep_args.specs.declared.plan.GrepPlan.{GrepPlan}
use Rattle.tool_io.specs.declared.target.Target.{Target}
use Rattle.tool_io.specs.declared.target.Target.TheVariants as targets
use Rattle.tool_io.specs.Asked.{Asked}
use Rattle.grep_output.specs.Messages.{message_on, finish_message}

-- standard input is shown under its label
abbrev pub shown_name : GrepPlan → Target → List ℕ
shown_name plan targets.Input = plan.label
shown_name plan (targets.File path) = path
shown_name plan (targets.NoOpen path) = path
shown_name plan (targets.NoList path) = path
shown_name plan (targets.TooDeep path) = path
shown_name plan (targets.Unnamed path) = path

abbrev pub missing_message : List ℕ → List ℕ
missing_message name = message_on name (codes "cannot be opened")

-- HT, LF, VT, FF, CR and space
abbrev pub is_white : ℕ → Bool
is_white b = is_in_range 9 13 b || b == 32

abbrev pub with_byte : ℕ → List ℕ → List ℕ
with_byte b [] = if is_white b then [] else b ∷ []
with_byte b (c ∷ cs) = b ∷ (c ∷ cs)

-- a line without the white space at its end
abbrev pub trimmed : List ℕ → List ℕ
trimmed [] = []
trimmed (b ∷ bytes) = with_byte b (trimmed bytes)

abbrev pub is_given : List ℕ → Bool
is_given [] = false
is_given (b ∷ bytes) = true

-- blank lines are ignored
abbrev pub patterns_in : List Row → List (List ℕ)
patterns_in found = filter is_given (map (λ (row : Row). trimmed row.bytes) found)

-- the patterns, or the message of the first file that can't be read to its end
abbrev pub FileTexts : Type 0
FileTexts = Result (List (List ℕ)) (List ℕ)

abbrev pub texts_or_message : List ℕ → List Row → Finish → FileTexts
texts_or_message name found (At End) = Ok (patterns_in found)
texts_or_message name found finish = Err (finish_message false name finish)

abbrev pub texts_of_rows : List ℕ → Rows → FileTexts
texts_of_rows name found = texts_or_message name found.rows found.finish

-- lines end at LF
abbrev pub texts_of : GrepPlan → List ℕ → Option Input → FileTexts
texts_of plan name None = Err (missing_message name)
texts_of plan name (Some input) = texts_of_rows name (rows Lf plan.max_buffer_size input)

abbrev pub texts_then : FileTexts → FileTexts → FileTexts
texts_then (Ok first) (Ok more) = Ok (first ++ more)
texts_then (Ok first) (Err text) = Err text
texts_then (Err text) more = Err text

abbrev pub texts_in_files : GrepPlan → List Asked → FileTexts
texts_in_files plan [] = Ok []
texts_in_files plan (a ∷ given) =
    texts_then (texts_of plan (shown_name plan a.target) a.input) (texts_in_files plan given)
