-- The mode of a plan: what is written of an input (pcre2grep, "OPTIONS").
use Rattle.std.specs.Prelude.{Bool, true, false, ◌||◌, not, if◌then◌else◌}
use Rattle.grep_args.specs.declared.plan.NameMode.{NameMode}
use Rattle.grep_args.specs.declared.plan.NameMode.TheVariants.{With, Matching, NotMatching}
use Rattle.grep_args.specs.declared.plan.GrepPlan.{GrepPlan}
use Rattle.grep_args.specs.Effects.{is_empty, no_offsets}
use Rattle.grep_match.specs.declared.modes.Mode.{Mode}
use Rattle.grep_match.specs.declared.modes.Mode.TheVariants.{Nothing, NamesWithout, Counts, NamesWith, Total, Parts}
use Rattle.grep_match.specs.declared.modes.Mode.TheVariants.{WholeLines}

abbrev pub is_with : NameMode → Bool
is_with With = true
is_with _ = false

abbrev pub is_matching : NameMode → Bool
is_matching Matching = true
is_matching _ = false

abbrev pub is_not_matching : NameMode → Bool
is_not_matching NotMatching = true
is_not_matching _ = false

-- `-o`, `--line-offsets` or `--file-offsets` is given
abbrev pub asks_parts : GrepPlan → Bool
asks_parts plan = not (is_empty plan.only_matching) || not (no_offsets plan.offsets)

-- the first of these that is set
abbrev pub mode : GrepPlan → Mode
mode plan =
    if plan.quiet then Nothing
    else if is_not_matching plan.names then NamesWithout
    else if plan.count then Counts
    else if is_matching plan.names then NamesWith
    else if plan.total_count then Total
    else if asks_parts plan then Parts
    else WholeLines

abbrev pub is_parts : Mode → Bool
is_parts Parts = true
is_parts _ = false
