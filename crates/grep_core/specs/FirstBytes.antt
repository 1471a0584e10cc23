-- When the first bytes of an input are looked at: only where they can change what is written of it (pcre2grep,
-- "OPTIONS",
-- --binary-files): plan → whether they are looked at → how the lines are scanned.
use Rattle.std.specs.Prelude.{Bool, true, false, ◌&&◌, not, take, nat_eq}
use Rattle.std.specs.List.{list_any}
use Rattle.line_feed.specs.Rows.{Input}
use Rattle.grep_args.specs.declared.plan.BinaryMode.{BinaryMode}
use Rattle.grep_args.specs.declared.plan.BinaryMode.TheVariants.{Binary, Text, WithoutMatch}
use Rattle.grep_args.specs.declared.plan.GrepPlan.{GrepPlan}
use Rattle.grep_match.specs.declared.modes.Mode.{Mode}
use Rattle.grep_match.specs.Modes.{mode}
use Rattle.grep_output.specs.declared.shows.Treatment.{Treatment}
use Rattle.grep_output.specs.declared.shows.Treatment.TheVariants.{AsBinary}
use Rattle.grep_output.specs.Lines.{is_nul, treatment_by}
use Rattle.grep_output.specs.Shows.{tells_binary}

-- another text is written of a binary input than of a text with these lines
abbrev pub is_shown_otherwise : BinaryMode → Mode → Bool
is_shown_otherwise Binary mode = tells_binary AsBinary mode
is_shown_otherwise Text mode = false
is_shown_otherwise WithoutMatch mode = true

abbrev pub looks_first : GrepPlan → Mode → Bool
looks_first plan mode = not (is_nul plan.newline) && is_shown_otherwise plan.binary mode

-- How an input is scanned: as it is treated, or as a text where nobody can tell.
abbrev pub scanned_as : GrepPlan → Input → Treatment
scanned_as plan input =
    treatment_by (looks_first plan (mode plan) && list_any (nat_eq 0) (take 1024 input.bytes))
    plan.binary
