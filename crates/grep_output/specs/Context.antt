-- Which lines are shown, and where groups of them are parted (pcre2grep, "OPTIONS", -A, -B and -C): rows and the
-- selected ones → shown lines.
use Rattle.std.specs.Prelude.{ℕ, ◌+◌, ◌-◌, ◌==◌, Bool, ◌&&◌, ◌||◌, not, nat_le, nat_lt, List, map, filter}
use Rattle.std.specs.List.{list_any}
use Rattle.line_feed.specs.Rows.{Row}
use Rattle.grep_args.specs.declared.plan.GrepPlan.{GrepPlan}

-- a line stands at most so far after a selected line, or before it
abbrev pub is_near : ℕ → ℕ → Row → Row → Bool
is_near after before row selected =
    nat_le row.number (selected.number + after) && nat_le selected.number (row.number + before)

-- a line is shown where it is selected, or by its distance to a selected line
abbrev pub is_shown : GrepPlan → List Row → Row → Bool
is_shown plan selected row = list_any (is_near plan.after_context plan.before_context row) selected

abbrev pub has_number : ℕ → Row → Bool
has_number n row = row.number == n

-- a line to show: selected, or context
pub record Shown : Type 0 where
  pub row : Row
  pub is_selected : Bool
  -- the line just before it isn't shown
  pub begins_group : Bool

abbrev pub shown_row : List Row → List Row → Row → Shown
shown_row selected shown row = record {
  row = row;
  is_selected = list_any (has_number row.number) selected;
  begins_group = not (list_any (has_number (row.number - 1)) shown);
}

abbrev pub all_shown : List Row → List Row → List Shown
all_shown selected shown = map (shown_row selected shown) shown

-- the lines to show of those that may be shown, in order
abbrev pub shown_lines : GrepPlan → List Row → List Row → List Shown
shown_lines plan selected within = all_shown selected (filter (is_shown plan selected) within)

-- only where context is asked for are groups parted
abbrev pub parts_groups : GrepPlan → Bool
parts_groups plan = nat_lt 0 plan.after_context || nat_lt 0 plan.before_context
