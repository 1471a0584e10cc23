-- What is said of an input (pcre2grep, "DIAGNOSTICS" and "OPTIONS", -s): match errors and how the scan ends → messages.
use Rattle.std.specs.Prelude.{ℕ, Bool, not, List, [], ◌++◌, flat_map, codes, decimal, Ok, Err}
use Rattle.std.specs.Fmt.{signed_decimal}
use Rattle.line_feed.specs.Rows.{Finish, At, Long, End, Fault, Limit}
use Rattle.grep_args.specs.declared.plan.GrepPlan.{GrepPlan}
use Rattle.grep_match.specs.Matches.{Tried}
use Rattle.grep_output.specs.Scans.{Ended, at_finish, early, too_many_errors, Scan}
use Rattle.tool_io.specs.Texts.{line, text_if}

abbrev pub message : List ℕ → List ℕ
message text = line (codes "pcre2grep: " ++ text)

abbrev pub message_on : List ℕ → List ℕ → List ℕ
message_on name text = message (name ++ codes ": " ++ text)

abbrev pub line_said : ℕ → List ℕ → List ℕ
line_said number text = codes "line " ++ decimal number ++ text

-- how the lines end; `-s` leaves out that they couldn't be read
abbrev pub finish_message : Bool → List ℕ → Finish → List ℕ
finish_message is_silent name (At End) = []
finish_message is_silent name (At Fault) =
    text_if (not is_silent) (message_on name (codes "read error"))
finish_message is_silent name (At Limit) = message_on name (codes "input too large")
finish_message is_silent name (Long number) =
    message_on name (line_said number (codes " is too long"))

-- how the scan ends; one that ends early meets nothing after
abbrev pub ended_message : Bool → List ℕ → Ended → List ℕ
ended_message is_silent name (at_finish finish) = finish_message is_silent name finish
ended_message is_silent name early = []
ended_message is_silent name too_many_errors = message (codes "too many match errors")

-- the match error of a line
abbrev pub error_message : List ℕ → Tried → List ℕ
error_message name t = elim t.matches [
  | Ok os ↦ []
  | Err e ↦ message_on name (line_said t.row.number (codes ": error " ++ signed_decimal e))
]

-- all that is said of a scanned input
abbrev pub messages : GrepPlan → List ℕ → Scan → List ℕ
messages plan name s =
    flat_map (error_message name) s.tried ++ ended_message plan.no_messages name s.ended
