-- The mode of a plan: what is written of an input (pcre2grep, "OPTIONS").
use Rattle.std.specs.Prelude.{ℕ, Bool, true, false, Option, Some}
use Rattle.grep_args.specs.declared.plan.GrepPlan.{GrepPlan}
use Rattle.grep_match.specs.declared.modes.Mode.{Mode}
use Rattle.grep_match.specs.declared.modes.Mode.TheVariants.{Nothing, NamesWithout, NamesWith, Parts, WholeLines}
use Rattle.grep_output.specs.declared.shows.Treatment.{Treatment}
use Rattle.grep_output.specs.declared.shows.Treatment.TheVariants.{AsBinary}
use Rattle.grep_output.specs.declared.shows.Show.{Show}
use Rattle.grep_output.specs.declared.shows.Show.TheVariants as show
use Rattle.grep_match.specs.Modes.{mode}

-- of a binary file these modes tell only that it matches, at its first selected line
abbrev pub tells_binary : Treatment → Mode → Bool
tells_binary AsBinary NamesWith = true
tells_binary AsBinary Parts = true
tells_binary AsBinary WholeLines = true
tells_binary _ _ = false

abbrev pub is_told : GrepPlan → Treatment → Bool
is_told plan treated = tells_binary treated (mode plan)

-- what is written of a selected line, unless only a text tells that the file matches
abbrev pub show_in : Bool → Mode → Show
show_in false WholeLines = show.Lines
show_in false Parts = show.Parts
show_in _ _ = show.Nothing

-- how many lines are selected at most: in some modes the first decides, else `-m` tells it
abbrev pub most_selected : Bool → Mode → Option ℕ → Option ℕ
most_selected true mode most = Some 1
most_selected false Nothing most = Some 1
most_selected false NamesWithout most = Some 1
most_selected false NamesWith most = Some 1
most_selected false _ most = most

abbrev pub greatest_selected : GrepPlan → Treatment → Option ℕ
greatest_selected plan treated = most_selected (is_told plan treated) (mode plan) plan.max_count

-- how many lines follow, as context, the last one that is selected: only where lines are shown
abbrev pub lines_after : Show → ℕ → ℕ
lines_after show.Lines after = after
lines_after _ after = 0

abbrev pub trailing : GrepPlan → Treatment → ℕ
trailing plan treated = lines_after (show_in (is_told plan treated) (mode plan)) plan.after_context
