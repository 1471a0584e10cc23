-- The texts of the patterns that are searched for (pcre2grep, "OPTIONS": -e, -F, -i, -N, -u, -w and -x).
use Rattle.std.specs.Prelude.{ℕ, ◌&&◌, ◌||◌, not, nat_lt, if◌then◌else◌, List, [], ◌∷◌, ◌++◌, length, map, flat_map}
use Rattle.std.specs.Prelude.{codes}
use Rattle.std.specs.Str.{byte}
use Rattle.uni_text.specs.Ascii.{is_letter, is_digit}
use Rattle.byte_lanes.specs.declared.line_end.EndKind.{EndKind}
use Rattle.pat_tree.specs.declared.options.Options.{Options}
use Rattle.pat_tree.specs.declared.options.TheConstants.Options as plain
use Rattle.pat_tree.specs.Newlines.{end_kind}
use Rattle.line_feed.specs.Rows.{Row, End, input_with, rows}
use Rattle.grep_args.specs.declared.plan.GrepPlan.{GrepPlan}

-- what ends a line, in a pattern under `-F` and in an input
abbrev pub line_end : GrepPlan → EndKind
line_end plan = end_kind plan.newline plan.utf

-- a byte below 128 that is neither a letter nor a digit gets a backslash
abbrev pub escaped : ℕ → List ℕ
escaped b = if nat_lt b 128 && not (is_letter b || is_digit b) then byte "\\" ∷ b ∷ [] else b ∷ []

-- the lines of a pattern, an empty pattern being one empty line
abbrev pub or_empty_line : List Row → List (List ℕ)
or_empty_line [] = [] ∷ []
or_empty_line (row ∷ more) = map (λ (r : Row). r.bytes) (row ∷ more)

abbrev pub lines_of : EndKind → List ℕ → List (List ℕ)
lines_of kind text = or_empty_line (rows kind (length text) (input_with text End)).rows

-- under `-F` each line of a pattern is a fixed string, and a pattern of its own
abbrev pub fixed_strings : EndKind → List ℕ → List (List ℕ)
fixed_strings kind text = map (flat_map escaped) (lines_of kind text)

abbrev pub cut : GrepPlan → List (List ℕ) → List (List ℕ)
cut plan texts =
    if plan.fixed_strings then flat_map (fixed_strings (line_end plan)) texts else texts

-- `-x` and `-w` take whole lines and whole words; `-x` wins
abbrev pub wrapped : GrepPlan → List ℕ → List ℕ
wrapped plan text =
    if plan.line_regex then codes "^(?:" ++ text ++ codes ")$"
    else if plan.word_regex then codes "\\b(?:" ++ text ++ codes ")\\b"
    else text

-- The patterns to be compiled, from the plan and the texts of its patterns and of those in its pattern files.
abbrev pub pattern_texts : GrepPlan → List (List ℕ) → List (List ℕ)
pattern_texts plan texts = map (wrapped plan) (cut plan texts)

-- the options by which all patterns are compiled
abbrev pub options_of : GrepPlan → Options
options_of plan =
    record plain.PLAIN { caseless = plan.ignore_case; utf = plan.utf; newline = plan.newline }
