-- What pcre2grep writes, and its status (pcre2grep, "OPTIONS", -t, and "DIAGNOSTICS"): words → plan → patterns → filter
-- → reports → text, total and status.
use Rattle.std.specs.Prelude.{ℕ, ◌==◌, Bool, true, false, ◌&&◌, ◌||◌, not, nat_lt, nat_le, if◌then◌else◌, List, []}
use Rattle.std.specs.Prelude.{◌++◌, length, take, drop, map, flat_map, filter, sum_by, codes, decimal, bytes_eq}
use Rattle.std.specs.Prelude.{Option, Some, None, Result, Ok, Err}
use Rattle.std.specs.List.{list_any}
use Rattle.line_feed.specs.Rows.{At, End}
use Rattle.grep_args.specs.declared.plan.GrepPlan.{GrepPlan}
use Rattle.grep_args.specs.declared.plan.NameMode.{NameMode}
use Rattle.grep_args.specs.declared.plan.NameMode.TheVariants.{Auto, With}
use Rattle.grep_args.specs.declared.plan.HelpKind.{HelpKind}
use Rattle.grep_args.specs.Words.{plan_of}
use Rattle.grep_core.specs.grep_match.Compiled.{Compiled, patterns_of}
use Rattle.grep_core.specs.grep_match.declared.modes.Mode.{Mode}
use Rattle.grep_core.specs.grep_match.declared.modes.Mode.TheVariants.{Nothing, NamesWithout, Counts}
use Rattle.grep_core.specs.grep_match.Modes.{mode, is_with, is_matching}
use Rattle.grep_output.specs.Scans.{Ended, at_finish, early, too_many_errors}
use Rattle.tool_io.specs.Texts.{line, text_if}
use Rattle.tool_io.specs.Outcomes.{RunOutcome}
use Rattle.grep_main.specs.Refusals.{refusal, usage_message, pattern_message, filter_message, help_text}
use Rattle.grep_output.specs.InputText.{first_state}
use Rattle.pat_tree.specs.Pattern.{Pattern}
use Rattle.tool_io.specs.declared.target.Target.{Target}
use Rattle.tool_io.specs.declared.target.Target.TheVariants as targets
use Rattle.grep_targets.specs.Paths.{word_path}
use Rattle.grep_targets.specs.Filters.{Filter, BadFilter, filter_of}
use Rattle.tool_io.specs.Asked.{Asked}
use Rattle.grep_main.specs.Reports.{Report, scanned, missing, is_broken, reports}
use Rattle.grep_main.specs.PatternFiles.{FileTexts, is_given, texts_in_files}

-- The status.

-- an input that is missing, that wasn't read to its end, or whose match errors were too many
abbrev pub is_failed : Ended → Bool
is_failed (at_finish (At End)) = false
is_failed (at_finish _) = true
is_failed early = false
is_failed too_many_errors = true

abbrev pub has_failed : Report → Bool
has_failed (scanned w) = is_failed w.ended
has_failed (missing text) = true

abbrev pub selected_by : Report → ℕ
selected_by (scanned w) = w.selected
selected_by (missing text) = 0

abbrev pub total_of : List Report → ℕ
total_of rs = sum_by selected_by rs

abbrev pub status_of : List Report → ℕ
status_of rs = if list_any has_failed rs then 2 else if nat_lt 0 (total_of rs) then 0 else 1

-- The total of `-t`.

abbrev pub out_of : Report → List ℕ
out_of (scanned w) = w.out
out_of (missing text) = []

abbrev pub err_of : Report → List ℕ
err_of (scanned w) = w.err
err_of (missing text) = text

abbrev pub writes : Report → Bool
writes r = is_given (out_of r)

-- how many counts were written
abbrev pub count_lines : List Report → ℕ
count_lines rs = length (filter writes rs)

abbrev pub total_text : List ℕ → List Report → List ℕ
total_text before rs = line (before ++ decimal (total_of rs))

-- with `-q` and `-L` there is none, and none after just one count
abbrev pub total_after : GrepPlan → List Report → Mode → List ℕ
total_after plan rs Nothing = []
total_after plan rs NamesWithout = []
total_after plan rs Counts =
    if count_lines rs == 1 then []
    else total_text (text_if ((is_with plan.names || is_matching plan.names)
    && nat_lt 0 (count_lines rs)) (codes "TOTAL:")) rs
total_after plan rs _ = total_text [] rs

abbrev pub last_text : GrepPlan → List Report → List ℕ
last_text plan rs =
    text_if (plan.total_count && not (list_any is_broken rs)) (total_after plan rs (mode plan))

-- All together.

abbrev pub outcome_of : GrepPlan → List Report → RunOutcome
outcome_of plan rs =
    record {
      out = flat_map out_of rs ++ last_text plan rs;
      err = flat_map err_of rs;
      status =
          status_of rs;
    }

-- whether it is a file that no word names, so that one of them names a directory
abbrev pub is_below : List (List ℕ) → Target → Bool
is_below words (targets.File path) = not (list_any (λ word. bytes_eq path (word_path word)) words)
is_below words _ = false

-- names are shown by default where there are two or more words for files, or one names a directory
abbrev pub shows_names : List (List ℕ) → List Target → Bool
shows_names words list = nat_le 2 (length words) || list_any (is_below words) list

abbrev pub names_for : Bool → NameMode → NameMode
names_for shown Auto = if shown then With else Auto
names_for shown other = other

abbrev pub with_names : List (List ℕ) → List Target → GrepPlan → GrepPlan
with_names words list plan =
    record plan { names = names_for (shows_names words list) plan.names }

abbrev pub targets_of : List Asked → List Target
targets_of given = map (λ (a : Asked). a.target) given

-- by the filter for names
abbrev pub text_by_filter : List (List ℕ) → GrepPlan → List Asked → List Pattern
    → Result Filter BadFilter → RunOutcome
text_by_filter words plan given patterns (Err bad) = refusal (filter_message bad)
text_by_filter words plan given patterns (Ok filter) =
    let named = with_names words (targets_of given) plan in
    outcome_of named (reports named patterns given first_state)

-- by the patterns; those for names are looked at after them
abbrev pub text_by_patterns : List (List ℕ) → GrepPlan → List Asked → Compiled → RunOutcome
text_by_patterns words plan given (Err bad) = refusal (pattern_message bad)
text_by_patterns words plan given (Ok patterns) =
    text_by_filter words plan given patterns (filter_of plan)

-- the patterns of the plan come first, then those of its files
abbrev pub text_by_texts : List (List ℕ) → GrepPlan → List Asked → FileTexts → RunOutcome
text_by_texts words plan given (Err text) = refusal text
text_by_texts words plan given (Ok texts) =
    text_by_patterns words plan given (patterns_of plan (plan.patterns ++ texts))

-- by the files of patterns, and the targets of these words
abbrev pub text_by_plan : List (List ℕ) → GrepPlan → List Asked → List Asked → RunOutcome
text_by_plan words plan pattern_files given =
    text_by_texts words plan given (texts_in_files plan pattern_files)

abbrev pub text_by_help : List (List ℕ) → GrepPlan → List Asked → Option HelpKind → RunOutcome
text_by_help words plan given (Some kind) =
    record { out = help_text kind; err = []; status = 0 }
text_by_help words plan given None =
    let n = length plan.pattern_files in text_by_plan words plan (take n given) (drop n given)

-- What pcre2grep writes for the words after its name, where the targets that it asks for stand for these inputs.
unfoldable pub text_of : List (List ℕ) → List Asked → RunOutcome
text_of words given = elim (plan_of words) [
  | Err fault ↦ refusal (usage_message words fault)
  | Ok plan ↦ text_by_help (drop plan.files_from words) plan given plan.help
]
