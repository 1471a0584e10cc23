-- What the inputs come to, taken together: reports → their sum.
use Rattle.std.specs.Prelude.{◌≡◌, ℕ, ◌+◌, Bool, true, false, ◌||◌, not, nat_lt, if◌then◌else◌, List, ◌++◌, flat_map}
use Rattle.std.specs.Prelude.{codes, decimal, Option, Some, None, Result, Ok, Err}
use Rattle.std.specs.List.{list_any}
use Rattle.grep_args.specs.declared.plan.GrepPlan.{GrepPlan}
use Rattle.grep_output.specs.declared.ended.FileEnd.{FileEnd}
use Rattle.grep_output.specs.declared.ended.Stop.{Stop}
use Rattle.grep_output.specs.declared.ended.Stop.TheVariants.{SinkFault, TooManyErrors}
use Rattle.grep_core.specs.grep_match.declared.modes.Mode.TheVariants.{Counts}
use Rattle.grep_output.specs.Ends.{ended_of}
use Rattle.grep_core.specs.grep_match.Modes.{mode, is_matching}
use Rattle.tool_io.specs.Texts.{line, text_if}
use Rattle.grep_main.specs.Reports.{Report, is_broken}
use Rattle.grep_main.specs.ToolText.{has_failed, is_failed, total_of, count_lines, out_of, err_of}
use Rattle.tool_io.specs.Prints.{Wrote, Breaks}
use Rattle.grep_main.specs.declared.sum.Sum.{Sum}
use Rattle.tool_io.specs.Printed.{Printed}

-- `-c`: with `-l` only a count above 0 is written
abbrev pub writes_count : GrepPlan → ℕ → Bool
writes_count plan selected = not (is_matching plan.names) || nat_lt 0 selected

abbrev pub one_if : Bool → ℕ
one_if b = if b then 1 else 0

-- with one more input, which was scanned or is missing
abbrev pub adds_end : GrepPlan → Sum → Option FileEnd → Sum
adds_end plan sum None = record sum { has_failed = true }
adds_end plan sum (Some end) = record {
  has_failed = sum.has_failed || is_failed (ended_of end.ended);
  counts = sum.counts + one_if (writes_count plan end.selected);
  total = sum.total + end.selected;
}

-- it is the sum of these inputs, none of which ended the run
pub record SumIs (plan : GrepPlan) (rs : List Report) (sum : Sum) : Type 0 where
  pub whole : list_any is_broken rs ≡ false
  pub failed : sum.has_failed ≡ list_any has_failed rs
  pub counts : mode plan ≡ Counts → sum.counts ≡ count_lines rs
  pub total : sum.total ≡ total_of rs

abbrev pub total_line : Bool → ℕ → List ℕ
total_line is_named total = line (text_if is_named (codes "TOTAL:") ++ decimal total)

-- All that is told of the inputs was written; a match error may have ended the run. Or a part of it was written, where
-- the run can't go on.
abbrev pub SumsTo : GrepPlan → List Report → Printed → Printed → Result Sum Stop → Type 0
SumsTo plan rs old new (Ok sum) =
    Wrote (flat_map out_of rs) (flat_map err_of rs) old new × SumIs plan rs sum
SumsTo plan rs old new (Err TooManyErrors) =
    Wrote (flat_map out_of rs) (flat_map err_of rs) old new × (list_any is_broken rs ≡ true)
SumsTo plan rs old new (Err stop) =
    Breaks (flat_map out_of rs) (flat_map err_of rs) old new (stop ≡ SinkFault)
