-- What reading files of patterns does: words, and the patterns so far → what the words stand for → the patterns of
-- their lines, or a message.
use Rattle.std.specs.Prelude.{◌≡◌, ℕ, Bool, true, false, List, [], ◌∷◌, ◌++◌, map, Option, Result, Ok, Err}
use Rattle.pcre_io.specs.Told.{Told, Kept}
use Rattle.pcre_io.specs.Files.{Contents}
use Rattle.byte_lanes.specs.declared.line_end.EndKind.TheVariants.{Lf}
use Rattle.line_feed.specs.Rows.{Input, rows}
use Rattle.line_feed.specs.Hears.{Hears}
use Rattle.grep_args.specs.declared.plan.GrepPlan.{GrepPlan}
use Rattle.grep_output.specs.declared.ended.Ended.{Ended}
use Rattle.grep_output.specs.declared.ended.Stop.{Stop}
use Rattle.grep_output.specs.declared.ended.Stop.TheVariants.{Memory}
use Rattle.tool_io.specs.Absent.{AbsentBy}
use Rattle.tool_io.specs.Asked.{Asked, asked, named_target}
use Rattle.grep_main.specs.PatternFiles.{shown_name, FileTexts, patterns_in, texts_of, texts_in_files}
use Rattle.grep_output.specs.Ends.{ended_of}
use Rattle.grep_output.specs.Scans as meant
use Rattle.tool_io.specs.Writes.{WritesAll}
use Rattle.grep_core.specs.Turns.{Halts}
use Rattle.tool_io.specs.Takes.{Takes, TakesAll, Inputs}

-- the lines of a source gave these patterns, and end so; or memory lacked
abbrev pub AddsLines : ℕ → Told → Told → List (List ℕ) → List (List ℕ) → Result Ended Stop → Type 0
AddsLines max before after old new (Ok ended) =
    (heard : Input) × Hears before after heard
    × (ended_of ended ≡ meant.at_finish (rows Lf max heard).finish)
    × (new ≡ old ++ patterns_in (rows Lf max heard).rows)
AddsLines max before after old new (Err stop) =
    ((heard : Input) × Hears before after heard) × (stop ≡ Memory)

-- The patterns were added, or a message was written; or a part of it, where a write was refused.
abbrev pub AddsTo : FileTexts → List (List ℕ) → List (List ℕ) → Kept → Kept → Result Bool Stop
    → Type 0
AddsTo (Ok more) old new err_old err_new (Ok true) = (new ≡ old ++ more) × (err_new ≡ err_old)
AddsTo (Ok more) old new err_old err_new (Ok false) = ⊥
AddsTo (Ok more) old new err_old err_new (Err stop) = (stop ≡ Memory) × (err_new ≡ err_old)
AddsTo (Err text) old new err_old err_new (Ok true) = ⊥
AddsTo (Err text) old new err_old err_new (Ok false) = WritesAll text err_old err_new
AddsTo (Err text) old new err_old err_new (Err stop) = Halts text err_old err_new stop

module _ (plan : GrepPlan) where
  -- the file of patterns that a word names was read
  pub record AddsWordFrom (word : List ℕ) (contents : Option Contents) (first last : ℕ)
      (was_used is_used : Bool) (before after : Told) (old new : List (List ℕ))
      (err_old err_new : Kept) (result : Result Bool Stop) : Type 0 where
    pub given : Option Input
    pub takes : Takes was_used is_used before after contents (named_target word ∷ [])
        (asked (named_target word) given ∷ [])
    pub adds : AddsTo (texts_of plan (shown_name plan (named_target word)) given) old new err_old err_new result
    pub absent : AbsentBy contents first last (asked (named_target word) given ∷ [])

  -- all files were read, or one of them can't be
  abbrev pub AddsAllFrom : Option Contents → ℕ → ℕ → Bool → Bool → Told → Told → List (List ℕ)
      → List (List ℕ) → Kept → Kept → Result Bool Stop → Type 0
  AddsAllFrom contents first last was_used is_used before after old new err_old err_new (Ok true) =
      (given : List Asked) × Takes was_used is_used before after contents (map named_target plan.pattern_files) given
      × AddsTo (texts_in_files plan given) old new err_old err_new (Ok true)
      × AbsentBy contents first last given
  AddsAllFrom contents first last was_used is_used before after old new err_old err_new result =
      (given : List Asked) × TakesAll was_used before after contents (map named_target plan.pattern_files) given
      × AddsTo (texts_in_files plan given) old new err_old err_new result
      × AbsentBy contents first last given

-- how the reading of files of patterns stands: the inputs, the patterns so far, and what the messages tell
pub record Reading : Type 0 where
  pub inputs : Inputs
  pub texts : List (List ℕ)
  pub err : Kept

abbrev pub reading : Inputs → List (List ℕ) → Kept → Reading
reading inputs texts err = record { inputs = inputs; texts = texts; err = err }

abbrev pub AddsWord : GrepPlan → List ℕ → Reading → Reading → Result Bool Stop → Type 0
AddsWord plan word old new result =
    AddsWordFrom plan word old.inputs.contents old.inputs.faults new.inputs.faults
    old.inputs.is_used new.inputs.is_used old.inputs.standard new.inputs.standard
    old.texts new.texts old.err new.err result

abbrev pub AddsAll : GrepPlan → Reading → Reading → Result Bool Stop → Type 0
AddsAll plan old new result =
    AddsAllFrom plan old.inputs.contents old.inputs.faults new.inputs.faults
    old.inputs.is_used new.inputs.is_used old.inputs.standard new.inputs.standard
    old.texts new.texts old.err new.err result
