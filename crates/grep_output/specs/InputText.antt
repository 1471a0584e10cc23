-- What is written of one input after those before it: input → rows → tried lines → scan → shown lines → text and
-- messages, and what is left to the next input.
use Rattle.std.specs.Prelude.{ℕ, ◌+◌, Bool, true, false, ◌||◌, not, nat_lt, List, [], ◌++◌, length, flat_map, codes}
use Rattle.std.specs.Prelude.{decimal}
use Rattle.line_feed.specs.Rows.{Row, Rows, Input}
use Rattle.grep_args.specs.declared.plan.GrepPlan.{GrepPlan}
use Rattle.pat_tree.specs.Pattern.{Pattern}
use Rattle.grep_output.specs.declared.shows.Treatment.{Treatment}
use Rattle.grep_output.specs.Lines.{lines, treatment}
use Rattle.grep_match.specs.declared.modes.Mode.{Mode}
use Rattle.grep_match.specs.declared.modes.Mode.TheVariants.{NamesWithout, Counts, NamesWith}
use Rattle.grep_output.specs.declared.shows.Show.{Show}
use Rattle.grep_output.specs.declared.shows.Show.TheVariants as show
use Rattle.grep_match.specs.Modes.{mode, is_with, is_matching}
use Rattle.grep_output.specs.Shows.{is_told, show_in}
use Rattle.grep_output.specs.declared.state.State.{State}
use Rattle.grep_output.specs.Scans.{Scan, Ended, too_many_errors, scan, selected_in, errors_in, rows_of}
use Rattle.grep_output.specs.Context.{Shown, shown_lines}
use Rattle.tool_io.specs.Texts.{line, text_if}
use Rattle.grep_output.specs.Texts.{lines_text, matches_text}
use Rattle.grep_output.specs.Messages.{messages}

-- nothing is left before the first input
abbrev pub first_state : State
first_state = record { errors = 0; total = 0; has_shown = false }

-- what is written of an input, the number of its selected lines, how its scan ends, the lines that it went through, and
-- what it leaves
pub record Written : Type 0 where
  pub out : List ℕ
  pub err : List ℕ
  pub selected : ℕ
  pub ended : Ended
  pub within : List Row
  pub state : State

module _ (plan : GrepPlan) (name : List ℕ) where
  -- `-c`: with `-l` the name is always shown, and only a count above 0
  abbrev pub count_text : ℕ → List ℕ
  count_text n =
      text_if (not (is_matching plan.names) || nat_lt 0 n)
      (line (text_if (is_with plan.names || is_matching plan.names) (name ++ codes ":")
      ++ decimal n))

  abbrev pub binary_text : List ℕ
  binary_text = line (codes "Binary file " ++ name ++ codes " matches")

  -- the lines of a scan that are shown
  abbrev pub shown_of : Scan → List Shown
  shown_of s = shown_lines plan (rows_of (selected_in plan s)) s.within

  -- where lines or parts of them are shown
  abbrev pub shown_out : Show → Bool → Scan → List ℕ
  shown_out show.Lines has_shown s = lines_text plan name has_shown (shown_of s)
  shown_out show.Parts has_shown s = flat_map (matches_text plan name) (selected_in plan s)
  shown_out show.Nothing has_shown s = []

  -- what is told of a whole input, once it was scanned
  abbrev pub summary_out : Mode → ℕ → List ℕ
  summary_out NamesWithout n = text_if (not (nat_lt 0 n)) (line name)
  summary_out Counts n = count_text n
  summary_out NamesWith n = text_if (nat_lt 0 n) (line name)
  summary_out _ n = []

  -- a binary file only tells that it matches
  abbrev pub end_out : Mode → Bool → ℕ → List ℕ
  end_out mode true n = text_if (nat_lt 0 n) binary_text
  end_out mode false n = summary_out mode n

  -- after too many match errors no count and no name follow
  abbrev pub out_text : Bool → Bool → Scan → Ended → List ℕ
  out_text is_told has_shown s too_many_errors = shown_out (show_in is_told (mode plan)) has_shown s
  out_text is_told has_shown s _ =
      shown_out (show_in is_told (mode plan)) has_shown s
      ++ end_out (mode plan) is_told (length (selected_in plan s))

  -- a group of lines is shown where lines are
  abbrev pub shows_group : Show → Scan → Bool
  shows_group show.Lines s = nat_lt 0 (length (shown_of s))
  shows_group _ s = false

  -- what a scan leaves whose lines are shown so
  abbrev pub state_by : Show → State → Scan → State
  state_by show before s = record {
    errors = before.errors + length (errors_in s);
    total = before.total + length (selected_in plan s);
    has_shown = before.has_shown || shows_group show s;
  }

  abbrev pub state_after : Bool → State → Scan → State
  state_after is_told before s = state_by (show_in is_told (mode plan)) before s

  abbrev pub written_by : Bool → State → Scan → Written
  written_by is_told before s = record {
    out = out_text is_told before.has_shown s s.ended;
    err = messages plan name s;
    selected = length (selected_in plan s);
    ended = s.ended;
    within = s.within;
    state = state_after is_told before s;
  }

module _ (plan : GrepPlan) (patterns : List Pattern) (name : List ℕ) (before : State) where
  abbrev pub text_of_rows : Treatment → Rows → Written
  text_of_rows treated found =
      written_by plan name (is_told plan treated) before
      (scan plan patterns before.errors treated found)

  -- What is written of an input of this name after what the inputs before it leave.
  unfoldable pub input_text : Input → Written
  input_text input = text_of_rows (treatment plan input) (lines plan input)
