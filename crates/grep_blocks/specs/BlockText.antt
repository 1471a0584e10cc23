-- What is written of an input that is searched by blocks (pcre2grep, "OPTIONS", -M, -A, -B, -o and the offsets): held text
-- → blocks → scan → shown lines or matches → text and messages, and what is left to the next input.
use Rattle.std.specs.Prelude.{ℕ, ◌+◌, ◌-◌, max, Bool, true, false, ◌&&◌, ◌||◌, not, nat_lt, if◌then◌else◌, List, []}
use Rattle.std.specs.Prelude.{◌∷◌, ◌++◌, length, take, drop, flat_map, codes, Ok, Err}
use Rattle.ordered_search.specs.PlaceAnswer.{Outcome}
use Rattle.line_feed.specs.Rows.{Row, Input, Finish, At, End, input_with, row_with}
use Rattle.grep_args.specs.declared.plan.OffsetMode.{OffsetMode}
use Rattle.grep_args.specs.declared.plan.OffsetMode.TheVariants.{NoOffsets, Lines, File}
use Rattle.grep_args.specs.declared.plan.GrepPlan.{GrepPlan}
use Rattle.pat_tree.specs.Pattern.{Pattern}
use Rattle.grep_multi.specs.grep_match.PatternTexts.{line_end}
use Rattle.grep_multi.specs.grep_match.Matches.{is_selected}
use Rattle.grep_multi.specs.grep_match.Modes.{mode}
use Rattle.grep_multi.specs.Held.{held_by, lines_of}
use Rattle.grep_multi.specs.Blocks.{TriedBlock, blocks, last_line, lines_before}
use Rattle.grep_output.specs.declared.shows.Treatment.{Treatment}
use Rattle.grep_output.specs.declared.shows.Treatment.TheVariants.{AsText, AsBinary, Skipped}
use Rattle.grep_output.specs.declared.shows.Show.{Show}
use Rattle.grep_output.specs.declared.shows.Show.TheVariants as show
use Rattle.grep_output.specs.declared.state.State.{State}
use Rattle.grep_output.specs.Context.{parts_groups}
use Rattle.grep_output.specs.Course.{line_as, is_lines}
use Rattle.grep_output.specs.InputText.{Written, end_out}
use Rattle.grep_output.specs.Lines.{treatment}
use Rattle.grep_output.specs.Messages.{ended_message, error_message}
use Rattle.grep_output.specs.Scans.{Ended, at_finish, early, too_many_errors}
use Rattle.grep_output.specs.Shows.{greatest_selected, is_told, show_in, trailing}
use Rattle.grep_output.specs.Texts.{match_text, newline_of}
use Rattle.tool_io.specs.Texts.{text_if}
use Rattle.grep_blocks.specs.BlockScan.{BlockScan, scan_done, scan_from, first_of, tried_of, selected_in, errors_in}

-- Of the lines between two selected blocks, or before the first, those are shown that are near enough to one. Groups are
-- parted where lines are left out, and from what was shown of the inputs before.
module _ (plan : GrepPlan) where
  -- how many lines behind a selected block are shown: none behind none
  abbrev pub after_of : Bool → ℕ
  after_of is_first = if is_first then 0 else plan.after_context

  -- how many of so many lines stand before those that are shown as context of the next block
  abbrev pub behind_of : Bool → ℕ → ℕ
  behind_of is_first count = max (after_of is_first) (count - plan.before_context)

  abbrev pub is_parted : Bool → Bool → ℕ → Bool
  is_parted has_shown is_first count =
      parts_groups plan
      && (if is_first then has_shown else nat_lt (after_of is_first) (behind_of is_first count))

module _ (plan : GrepPlan) (name : List ℕ) where
  -- lines of context
  abbrev pub context : List Row → List ℕ
  context rows = flat_map (line_as plan name false) rows

  abbrev pub gap_out : Bool → Bool → List Row → List ℕ
  gap_out has_shown is_first rows =
      context (take (after_of plan is_first) rows)
      ++ text_if (is_parted plan has_shown is_first (length rows)) (codes "--\n")
      ++ context (drop (behind_of plan is_first (length rows)) rows)

  -- a block, of which the first line alone has name and number
  abbrev pub block_out : List Row → List ℕ
  block_out [] = []
  block_out (row ∷ rows) = line_as plan name true row ++ flat_map (λ (r : Row). r.bytes ++ newline_of r) rows

-- Matches: the number and the place of each are those of the line that it begins in, of the block's lines and those
-- behind them. At the text's end that is the last line.
module _ (plan : GrepPlan) (name text : List ℕ) where
  abbrev pub line_of : Row → List Row → Outcome → Row
  line_of line lines o = last_line line (lines_before (o.keep + 1) lines)

  -- the text, as a line of this number
  abbrev pub text_row : ℕ → Row
  text_row number = row_with text [] number 0

  abbrev pub moved : ℕ → Outcome → Outcome
  moved offset o = record o { keep = o.keep - offset; to = o.to - offset }

  abbrev pub match_out : OffsetMode → Row → Outcome → List ℕ
  match_out NoOffsets line o = match_text plan name NoOffsets (text_row line.number) o
  match_out Lines line o = match_text plan name Lines (text_row line.number) (moved line.offset o)
  match_out File line o = match_text plan name File (text_row line.number) o

  abbrev pub matches_out : Row → List Row → List Outcome → List ℕ
  matches_out line lines os = flat_map (λ o. match_out plan.offsets (line_of line lines o) o) os

-- What is shown of a text with these lines.
module _ (plan : GrepPlan) (name text : List ℕ) (lines : List Row) (has_shown : Bool) where
  abbrev pub parts_out : TriedBlock → List ℕ
  parts_out b = elim b.matches [
    | Ok os ↦ matches_out plan name text (first_of b.lines) (drop (first_of b.lines).number lines) os
    | Err e ↦ []
  ]

  -- of a selected block, behind such a gap
  abbrev pub shown_out : Show → Bool → List Row → TriedBlock → List ℕ
  shown_out show.Lines is_first gap b = gap_out plan name has_shown is_first gap ++ block_out plan name b.lines
  shown_out show.Parts is_first gap b = parts_out b
  shown_out show.Nothing is_first gap b = []

  -- of the lines behind the last selected block
  abbrev pub rest_out : Show → Bool → List Row → List ℕ
  rest_out show.Lines is_first rows = context plan name (take (after_of plan is_first) rows)
  rest_out _ is_first rows = []

  -- of blocks behind such a gap, behind which these lines follow
  unfoldable pub out_from : Show → List Row → Bool → List Row → List TriedBlock → List ℕ
  out_from shows following is_first gap [] = rest_out shows is_first (gap ++ following)
  out_from shows following is_first gap (b ∷ bs) = elim (is_selected plan (tried_of b)) [
    | true ↦ shown_out shows is_first gap b ++ out_from shows following false [] bs
    | false ↦ out_from shows following is_first (gap ++ b.lines) bs
  ]

-- What is written of a text that is held of these bytes, and how it ends.
module _ (plan : GrepPlan) (patterns : List Pattern) (name : List ℕ) (before : State) (bytes text : List ℕ)
    (finish : Finish) where
  abbrev pub scan : Treatment → BlockScan
  scan Skipped = scan_done early
  scan AsText =
      scan_from plan (greatest_selected plan AsText) (trailing plan AsText) finish before.errors 0
      (blocks plan patterns text)
  scan AsBinary =
      scan_from plan (greatest_selected plan AsBinary) (trailing plan AsBinary) finish before.errors 0
      (blocks plan patterns text)

  abbrev pub text_out : Show → BlockScan → List ℕ
  text_out shows s =
      out_from plan name text (lines_of (line_end plan) text End) before.has_shown shows s.following true [] s.within

  abbrev pub out_by : Bool → BlockScan → Ended → List ℕ
  out_by told s too_many_errors = text_out (show_in told (mode plan)) s
  out_by told s _ =
      text_out (show_in told (mode plan)) s
      ++ end_out plan name (mode plan) told (length (selected_in plan s))

  -- an input that is held was gone through whole
  abbrev pub written_by : Bool → BlockScan → Written
  written_by told s = record {
    out = out_by told s s.ended;
    err =
        flat_map (λ b. error_message name (tried_of b)) s.tried
        ++ ended_message plan.no_messages name s.ended;
    selected = length (selected_in plan s);
    ended = s.ended;
    within = lines_of (line_end plan) bytes End;
    state = record {
      errors = before.errors + length (errors_in s);
      total = before.total + length (selected_in plan s);
      has_shown = before.has_shown
          || is_lines (show_in told (mode plan)) && nat_lt 0 (length (selected_in plan s));
    };
  }

-- What is written of an input of this name that isn't too large, after what the inputs before it leave. Its binary test
-- looks at what is held of it.
unfoldable pub block_text : GrepPlan → List Pattern → List ℕ → State → Input → Written
block_text plan patterns name before input =
    let text = held_by (line_end plan) input.bytes input.ending in
    let treated = treatment plan (input_with text input.ending) in
    written_by plan patterns name before input.bytes text (At input.ending) (is_told plan treated)
    (scan plan patterns name before input.bytes text (At input.ending) treated)
