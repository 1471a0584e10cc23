-- The lines of an input, and whether it is binary (pcre2grep, "Newlines" and "OPTIONS", --binary-files): input → rows,
-- treatment.
use Rattle.std.specs.Prelude.{Bool, true, false, ◌&&◌, not, take, nat_eq}
use Rattle.std.specs.List.{list_any}
use Rattle.pat_tree.specs.declared.options.Newline.{Newline}
use Rattle.pat_tree.specs.declared.options.Newline.TheVariants.{Nul}
use Rattle.line_feed.specs.Rows.{Rows, Input, rows}
use Rattle.grep_args.specs.declared.plan.BinaryMode.{BinaryMode}
use Rattle.grep_args.specs.declared.plan.BinaryMode.TheVariants.{Binary, Text, WithoutMatch}
use Rattle.grep_args.specs.declared.plan.GrepPlan.{GrepPlan}
use Rattle.grep_output.specs.declared.shows.Treatment.{Treatment}
use Rattle.grep_output.specs.declared.shows.Treatment.TheVariants.{AsText, AsBinary, Skipped}
use Rattle.grep_match.specs.PatternTexts.{line_end}

-- the lines of an input, and how they end
abbrev pub lines : GrepPlan → Input → Rows
lines plan input = rows (line_end plan) plan.max_buffer_size input

abbrev pub is_nul : Newline → Bool
is_nul Nul = true
is_nul _ = false

-- a zero byte stands in the first 1,024 bytes, unless a zero byte ends a line
abbrev pub is_binary : GrepPlan → Input → Bool
is_binary plan input = not (is_nul plan.newline) && list_any (nat_eq 0) (take 1024 input.bytes)

-- how an input is treated
abbrev pub treatment_by : Bool → BinaryMode → Treatment
treatment_by false mode = AsText
treatment_by true Binary = AsBinary
treatment_by true Text = AsText
treatment_by true WithoutMatch = Skipped

abbrev pub treatment : GrepPlan → Input → Treatment
treatment plan input = treatment_by (is_binary plan input) plan.binary
