-- How far an input is scanned: rows → tried lines → those up to where the scan ends.
use Rattle.std.specs.Prelude.{ℕ, suc, ◌+◌, ◌-◌, ◌<◌, ◌==◌, Bool, true, false, nat_lt, nat_le, if◌then◌else◌, List}
use Rattle.std.specs.Prelude.{[], ◌∷◌, map, take, filter, length, Option, Some, None, option_map, ⊤}
use Rattle.line_feed.specs.Rows.{Row, Rows, Finish}
use Rattle.grep_args.specs.declared.plan.GrepPlan.{GrepPlan}
use Rattle.pat_tree.specs.Pattern.{Pattern}
use Rattle.grep_output.specs.declared.shows.Treatment.{Treatment}
use Rattle.grep_output.specs.declared.shows.Treatment.TheVariants.{AsText, AsBinary, Skipped}
use Rattle.grep_output.specs.Shows.{greatest_selected, trailing}
use Rattle.grep_match.specs.Matches.{Tried, tried_row, is_selected, has_error}

-- how a scan ends
pub data Ended : Type 0 where
  -- after the last line, as the lines end
  at_finish : Finish → Ended
  -- at a line, or before the first one
  early : Ended
  -- at a match error, after which there may be none
  too_many_errors : Ended

pub record Scan : Type 0 where
  -- the lines that were tried, in order
  pub tried : List Tried
  -- the lines that may be shown, in order
  pub within : List Row
  pub ended : Ended

-- the place of the n-th line for which something holds, where there are so many
unfoldable pub nth_place : (Tried → Bool) → ℕ → List Tried → Option ℕ
nth_place holds n [] = None
nth_place holds n (t ∷ ts) =
    elim (holds t) [
      | true ↦ elim (n == 1) [ true ↦ Some 0 | false ↦ option_map suc (nth_place holds (n - 1) ts) ]
      | false ↦ option_map suc (nth_place holds n ts)
    ]

abbrev pub place_of_most : (Tried → Bool) → Option ℕ → List Tried → Option ℕ
place_of_most holds None ts = None
place_of_most holds (Some n) ts = nth_place holds n ts

abbrev pub rows_of : List Tried → List Row
rows_of = map (λ (t : Tried). t.row)

-- a scan of all lines
abbrev pub whole_scan : List Tried → Finish → Scan
whole_scan ts finish = record { tried = ts; within = rows_of ts; ended = at_finish finish }

-- A scan that ends at the line at a place. Where lines follow as context they are not tried; the scan ends with the
-- last of them, or as the lines end where there are fewer.
abbrev pub early_scan : List Tried → Finish → ℕ → ℕ → Scan
early_scan ts finish place following = record {
  tried = take (place + 1) ts;
  within = take (place + 1 + following) (rows_of ts);
  ended = if nat_le (place + 1 + following) (length ts) then early else at_finish finish;
}

-- A scan that ends at a match error at a place: that line and later ones aren't shown.
abbrev pub broken_scan : List Tried → ℕ → Scan
broken_scan ts place =
    record {
      tried = take (place + 1) ts;
      within = take place (rows_of ts);
      ended =
          too_many_errors;
    }

-- by the places of the last match error and of the last selected line that there may be, where they are met
abbrev pub scan_to : List Tried → Finish → ℕ → Option ℕ → Option ℕ → Scan
scan_to ts finish following None None = whole_scan ts finish
scan_to ts finish following (Some e) None = broken_scan ts e
scan_to ts finish following None (Some s) = early_scan ts finish s following
scan_to ts finish following (Some e) (Some s) =
    if nat_lt e s then broken_scan ts e else early_scan ts finish s following

-- fewer lines than that are selected
abbrev pub IsBelow : Option ℕ → ℕ → Type 0
IsBelow None k = ⊤
IsBelow (Some most) k = k < most

-- the 21st match error of a run ends it
abbrev pub errors_left : ℕ → ℕ
errors_left errors = 21 - errors

-- after so many match errors
module _ (plan : GrepPlan) (patterns : List Pattern) (errors : ℕ) where
  abbrev pub scan_of_rows : Treatment → Rows → Scan
  scan_of_rows treated found =
      let ts : List Tried = map (tried_row plan patterns) found.rows in
      scan_to ts found.finish (trailing plan treated)
      (nth_place has_error (errors_left errors) ts)
      (place_of_most (is_selected plan) (greatest_selected plan treated) ts)

  -- The scan of the lines of an input that is treated so. One that counts as without any selected line isn't scanned.
  abbrev pub scan : Treatment → Rows → Scan
  scan Skipped found = record { tried = []; within = []; ended = early }
  scan AsText found = scan_of_rows AsText found
  scan AsBinary found = scan_of_rows AsBinary found

-- the lines that it selects, in order
abbrev pub selected_in : GrepPlan → Scan → List Tried
selected_in plan s = filter (is_selected plan) s.tried

-- those with a match error
abbrev pub errors_in : Scan → List Tried
errors_in s = filter has_error s.tried
