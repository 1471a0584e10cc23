-- What is known of a text between two of its blocks, and what one more block does: a place, the lines from it on → what
-- is written of them.
use Rattle.std.specs.Prelude.{◌≡◌, ℕ, ◌+◌, ◌≤◌, ◌<◌, ◌^◌, ◌==◌, Bool, true, false, ◌&&◌, nat_le, if◌then◌else◌, List}
use Rattle.std.specs.Prelude.{[], ◌∷◌, ◌++◌, length, drop, Result, Ok, Err}
use Rattle.line_feed.specs.Rows.{Row}
use Rattle.grep_multi.specs.grep_match.Matches.{is_selected, has_error}
use Rattle.grep_multi.specs.grep_match.Compiled.{patterns_in}
use Rattle.grep_multi.specs.declared.cut.LineStart.{LineStart}
use Rattle.grep_multi.specs.Blocks.{TriedBlock, last_line, lines_before}
use Rattle.grep_multi.specs.Given.{lines_at}
use Rattle.grep_output.specs.declared.ended.Stop.{Stop}
use Rattle.grep_output.specs.declared.ended.Stop.TheVariants.{SinkFault, TooManyErrors, Memory}
use Rattle.grep_output.specs.Course.{line_as}
use Rattle.grep_output.specs.Messages.{error_message}
use Rattle.grep_output.specs.Texts.{newline_of}
use Rattle.grep_core.specs.Turns.{is_full}
use Rattle.tool_io.specs.Prints.{Wrote, Breaks}
use Rattle.tool_io.specs.Printed.{Printed}
use Rattle.grep_blocks.specs.declared.job.Job.{Job}
use Rattle.grep_blocks.specs.declared.job.Course.{Course}
use Rattle.grep_blocks.specs.declared.job.Next.{Next}
use Rattle.grep_blocks.specs.declared.job.Next.TheVariants.{Block, Context}
use Rattle.grep_blocks.specs.BlockScan.{tried_of}
use Rattle.grep_blocks.specs.BlockText.{rest_out, shown_out}

-- the lines from a place on
abbrev pub rows_at : Job → LineStart → List Row
rows_at job at = lines_at job.search.kind job.search.text.now at

-- all lines
abbrev pub all_rows : Job → List Row
all_rows job = rows_at job (record { at = 0; lines = 0 })

-- a line begins here, or the text ends
pub record IsStart (job : Job) (at : LineStart) : Type 0 where
  pub within : at.at ≤ length job.search.text.now
  pub few : at.lines ≤ at.at
  pub short : length job.search.text.now < 4294967295

-- these lines stand between two places
pub record IsGap (job : Job) (gap to : LineStart) (rows : List Row) : Type 0 where
  pub lines : rows_at job gap ≡ rows ++ rows_at job to
  pub many : to.lines ≡ gap.lines + length rows

-- so many lines were passed over
pub record Skips (job : Job) (from : LineStart) (count : ℕ) (to : LineStart) : Type 0 where
  pub lines : rows_at job to ≡ drop count (rows_at job from)
  pub start : IsStart job to

-- a line of context, or one without name and number
abbrev pub line_by : Job → Bool → Row → List ℕ
line_by job is_bare row =
    if is_bare then row.bytes ++ newline_of row
    else line_as job.search.plan.now job.name.now false row

-- The line of a place k, of a line and those behind it, is that of the lines from here on.
pub record IsOnward (job : Job) (line : Row) (lines : List Row) (at : LineStart) : Type 0 where
  pub start : IsStart job at
  pub some : at.at < length job.search.text.now
  pub same : (k : ℕ) (here : Row) (more : List Row) → at.at ≤ k → rows_at job at ≡ here ∷ more
      → last_line line (lines_before (k + 1) lines) ≡ last_line here (lines_before (k + 1) more)

-- the line of a place begins here
pub record IsLineOf (job : Job) (line : Row) (lines : List Row) (place : ℕ) (at : LineStart) : Type 0
  where
    pub onward : IsOnward job line lines at
    pub number : (last_line line (lines_before (place + 1) lines)).number ≡ at.lines + 1
    pub offset : (last_line line (lines_before (place + 1) lines)).offset ≡ at.at

-- A block, behind these lines since the last selected one.
module _ (job : Job) (b : TriedBlock) (gap : List Row) (behind : LineStart) (old new : Course)
    (before after : Printed) where
  abbrev pub is_chosen : Bool
  is_chosen = is_selected job.search.plan.now (tried_of b)

  abbrev pub shown_text : List ℕ
  shown_text =
      shown_out job.search.plan.now job.name.now job.search.text.now (all_rows job) job.has_shown
      job.show (old.selected == 0) gap b

  abbrev pub rest_text : List ℕ
  rest_text =
      rest_out job.search.plan.now job.name.now job.search.text.now (all_rows job) job.has_shown
      job.show (old.selected == 0) gap

  abbrev pub error_text : List ℕ
  error_text = error_message job.name.now (tried_of b)

  -- its match error is the last one that there may be
  abbrev pub is_last : Bool
  is_last = has_error (tried_of b) && nat_le 20 old.errors

  -- it was taken whole
  pub record TakesIt (next : Next) : Type 0 where
    pub wrote : Wrote (if is_chosen then shown_text else []) error_text before after
    pub stands : new ≡ record {
      from = behind;
      gap = if is_chosen then behind else old.gap;
      selected = if is_chosen then old.selected + 1 else old.selected;
      errors = if has_error (tried_of b) then old.errors + 1 else old.errors;
    }
    pub errors : is_last ≡ false
    pub answer : next ≡ (if is_chosen && is_full job.most (old.selected + 1) then Context else Block)

  -- it is the last one
  pub record TakesLast : Type 0 where
    pub wrote : Wrote rest_text error_text before after
    pub stands : new ≡ record old { errors = old.errors + 1 }
    pub errors : is_last ≡ true

  abbrev pub TakesBlock : Result Next Stop → Type 0
  TakesBlock (Ok next) = TakesIt next
  TakesBlock (Err TooManyErrors) = TakesLast
  TakesBlock (Err stop) =
      Breaks (if is_last then rest_text else if is_chosen then shown_text else []) error_text before after
      (stop ≡ SinkFault)
