-- How a scan stands between two lines, and what one more line does: the definition's whole lists, one line at a time.
use Rattle.std.specs.Prelude.{◌≡◌, ℕ, ◌+◌, ◌-◌, ◌==◌, Bool, true, false, ◌&&◌, ◌||◌, nat_lt, nat_le, if◌then◌else◌}
use Rattle.std.specs.Prelude.{List, [], ◌∷◌, ◌++◌, length, flat_map, codes, ⊤}
use Rattle.circular_buffer.specs.Buffer.{keep_last}
use Rattle.line_feed.specs.Rows.{Row, At, End}
use Rattle.grep_args.specs.declared.plan.GrepPlan.{GrepPlan}
use Rattle.grep_output.specs.declared.shows.Show.{Show}
use Rattle.grep_output.specs.declared.shows.Show.TheVariants as show
use Rattle.grep_match.specs.Matches.{Tried, is_selected, has_error}
use Rattle.grep_output.specs.Scans.{Scan, whole_scan}
use Rattle.grep_output.specs.Context.{parts_groups}
use Rattle.grep_output.specs.Texts.{line_text, matches_text}
use Rattle.tool_io.specs.Texts.{text_if}
use Rattle.grep_output.specs.declared.state.State.{State}

-- how many lines were selected; the number of the last line that is shown as context of a selected one, 0 where none
-- was selected; and the last ones of the lines after that, which a selected line would show
pub record Course : Type 0 where
  pub selected : ℕ
  pub context_to : ℕ
  pub earlier : List Row

-- before the first line
abbrev pub begun : Course
begun = record { selected = 0; context_to = 0; earlier = [] }

abbrev pub is_lines : Show → Bool
is_lines show.Lines = true
is_lines _ = false

-- the lines that a selected line of this number shows don't touch those that were shown before
abbrev pub begins_group : Course → ℕ → Bool
begins_group c number = c.context_to == 0 || nat_lt (c.context_to + 1) (number - length c.earlier)

module _ (plan : GrepPlan) (name : List ℕ) where
  abbrev pub line_as : Bool → Row → List ℕ
  line_as is_selected row =
      line_text plan name (record { row = row; is_selected = is_selected; begins_group = false })

  abbrev pub separator : Bool → Course → ℕ → List ℕ
  separator has_shown c number = text_if (parts_groups plan && (has_shown && begins_group c number)) (codes "--\n")

  -- what is written of a selected line: the separator, the lines before it, and the line; or its matches
  abbrev pub selected_out : Show → Bool → Course → Tried → List ℕ
  selected_out show.Lines has_shown c t =
      separator has_shown c t.row.number ++ flat_map (line_as false) c.earlier ++ line_as true t.row
  selected_out show.Parts has_shown c t = matches_text plan name t
  selected_out show.Nothing has_shown c t = []

  -- what is written of another line
  abbrev pub passed_out : Show → Course → Tried → List ℕ
  passed_out show.Lines c t = text_if (nat_le t.row.number c.context_to) (line_as false t.row)
  passed_out _ c t = []

  abbrev pub row_out : Show → Bool → Course → Tried → List ℕ
  row_out show has_shown c t =
      if is_selected plan t then selected_out show has_shown c t else passed_out show c t

module _ (plan : GrepPlan) where
  abbrev pub course_after_selected : Show → Course → Row → Course
  course_after_selected show.Lines c row =
      record {
        selected = c.selected + 1;
        context_to = row.number + plan.after_context;
        earlier =
            [];
      }
  course_after_selected _ c row = record c { selected = c.selected + 1 }

  abbrev pub course_after_passed : Show → Course → Row → Course
  course_after_passed show.Lines c row =
      if nat_le row.number c.context_to then c else record c
      { earlier = keep_last plan.before_context (c.earlier ++ row ∷ []) }
  course_after_passed _ c row = c

  -- how it stands after a line
  abbrev pub course_after : Show → Course → Tried → Course
  course_after show c t =
      if is_selected plan t then course_after_selected show c t.row
      else course_after_passed show c t.row

  -- what a line leaves: a match error counts, and a selected line that is shown makes a group
  abbrev pub state_after_line : Show → State → Tried → State
  state_after_line show s t = record s {
    errors = if has_error t then s.errors + 1 else s.errors;
    has_shown = s.has_shown || (is_selected plan t && is_lines show);
  }

-- rows are numbered from a number on
abbrev pub AreNumbered : ℕ → List Row → Type 0
AreNumbered n [] = ⊤
AreNumbered n (row ∷ more) = (row.number ≡ n) × AreNumbered (n + 1) more

-- the scan of lines that stands for those that were tried so far
abbrev pub scan_so_far : List Tried → Scan
scan_so_far ts = whole_scan ts (At End)
