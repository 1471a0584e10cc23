-- Where the first bytes of an input aren't looked at, the same is written of it as of a text.
use Rattle.std.proofs.Common.{◌≡◌, ℕ, ◌≤◌, ◌<◌, Bool, true, false, ◌&&◌, not, List, length, map, Result, Ok, Err}
use Rattle.std.proofs.Common.{refl, sym, ap, subst, ◌∙◌, inl, inr, ◌⊎◌, take, nat_eq}
use Rattle.std.specs.List.{list_any}
use Rattle.pcre_io.specs.Told.{Told, Kept}
use Rattle.line_feed.specs.Rows.{Row, Rows, Input, At, End, rows_with}
use Rattle.grep_args.specs.declared.plan.BinaryMode.{BinaryMode}
use Rattle.grep_args.specs.declared.plan.BinaryMode.TheVariants.{Binary, Text, WithoutMatch}
use Rattle.grep_args.specs.declared.plan.GrepPlan.{GrepPlan}
use Rattle.grep_match.specs.declared.modes.Mode.{Mode}
use Rattle.grep_match.specs.declared.modes.Mode.TheVariants as mode_of
use Rattle.grep_match.specs.Matches.{Tried, tried_row, is_selected, has_error}
use Rattle.grep_match.specs.Modes.{mode}
use Rattle.pat_tree.specs.Pattern.{Pattern}
use Rattle.grep_output.specs.declared.ended.Stop.{Stop}
use Rattle.grep_output.specs.declared.ended.Stop.TheVariants.{SinkFault, TooManyErrors, Memory}
use Rattle.grep_output.specs.declared.shows.Treatment.{Treatment}
use Rattle.grep_output.specs.declared.shows.Treatment.TheVariants.{AsText, AsBinary}
use Rattle.grep_output.specs.declared.state.State.{State}
use Rattle.grep_output.specs.InputText.{text_of_rows, written_by}
use Rattle.grep_output.specs.Lines.{is_nul, treatment, treatment_by}
use Rattle.grep_output.specs.Refused.{IsCut, RefusesSoon, WhereRefused, text_to}
use Rattle.grep_output.specs.Scans.{scan, scan_to, nth_place, place_of_most, errors_left}
use Rattle.grep_output.specs.Shows.{is_told, tells_binary, show_in, most_selected, lines_after}
use Rattle.grep_core.specs.FirstBytes.{is_shown_otherwise, scanned_as}

-- It is scanned as it is treated, or it is binary and scanned as a text, and nothing else is told of it.
abbrev IsEither : Treatment → Treatment → Mode → Type 0
IsEither treated scanned md = (treated ≡ scanned) ⊎
    ((treated ≡ AsBinary) × (scanned ≡ AsText) × (tells_binary AsBinary md ≡ false))

either-unseen : (zero : Bool) (md : Mode) → tells_binary AsBinary md ≡ false
    → IsEither (treatment_by zero Binary) AsText md
either-unseen false md untold = inl refl
either-unseen true md untold = inr (refl, refl, untold)

either-binary : (zero : Bool) (md : Mode) → IsEither (treatment_by zero Binary)
    (treatment_by (tells_binary AsBinary md && zero) Binary) md
either-binary zero mode_of.Nothing = either-unseen zero mode_of.Nothing refl
either-binary zero mode_of.NamesWithout = either-unseen zero mode_of.NamesWithout refl
either-binary zero mode_of.Counts = either-unseen zero mode_of.Counts refl
either-binary zero mode_of.NamesWith = inl refl
either-binary zero mode_of.Total = either-unseen zero mode_of.Total refl
either-binary zero mode_of.Parts = inl refl
either-binary zero mode_of.WholeLines = inl refl

either-text : (zero : Bool) → treatment_by zero Text ≡ AsText
either-text false = refl
either-text true = refl

either-by : (nul zero : Bool) (kind : BinaryMode) (md : Mode)
    → IsEither (treatment_by (not nul && zero) kind)
    (treatment_by ((not nul && is_shown_otherwise kind md) && zero) kind) md
either-by true zero kind md = inl refl
either-by false zero Binary md = either-binary zero md
either-by false zero Text md = inl (either-text zero)
either-by false zero WithoutMatch md = inl refl

either-as : (P : Treatment → Type 0) (md : Mode) (treated scanned : Treatment) → IsEither treated scanned md
    → (tells_binary AsBinary md ≡ false → P AsText → P AsBinary) → P scanned → P treated
either-as P md treated scanned (inl same) goes p = subst P (sym same) p
either-as P md treated scanned (inr other) goes p = subst P (sym other.0) (goes other.2 (subst P other.1 p))

-- What holds of an input as it is scanned holds of it as it is treated, where it goes from a text to a binary input of
-- which nothing else is told.
pub as-treated : (plan : GrepPlan) (input : Input) (P : Treatment → Type 0)
    → (is_told plan AsBinary ≡ false → P AsText → P AsBinary) → P (scanned_as plan input) → P (treatment plan input)
as-treated plan input P goes p =
    either-as P (mode plan) (treatment plan input) (scanned_as plan input)
    (either-by (is_nul plan.newline) (list_any (nat_eq 0) (take 1024 input.bytes)) plan.binary (mode plan)) goes p

text-untold : (md : Mode) → tells_binary AsText md ≡ false
text-untold mode_of.Nothing = refl
text-untold mode_of.NamesWithout = refl
text-untold mode_of.Counts = refl
text-untold mode_of.NamesWith = refl
text-untold mode_of.Total = refl
text-untold mode_of.Parts = refl
text-untold mode_of.WholeLines = refl

-- nothing else is told of a binary input
module _ (plan : GrepPlan) (patterns : List Pattern) (untold : is_told plan AsBinary ≡ false) where
  pub told-alike : is_told plan AsText ≡ is_told plan AsBinary
  told-alike = text-untold (mode plan) ∙ sym untold

  pub scan-alike : (errors : ℕ) (found : Rows) → scan plan patterns errors AsText found ≡ scan plan patterns errors
      AsBinary found
  scan-alike errors found =
      let ts : List Tried = map (tried_row plan patterns) found.rows in
      ap (λ b.
      scan_to ts found.finish (lines_after (show_in b (mode plan)) plan.after_context)
      (nth_place has_error (errors_left errors) ts)
      (place_of_most (is_selected plan) (most_selected b (mode plan) plan.max_count) ts)) told-alike

  module _ (name : List ℕ) (s : State) where
    text-alike : (found : Rows) → text_of_rows plan patterns name s AsText found ≡ text_of_rows plan patterns name s
        AsBinary found
    text-alike found = λ i. written_by plan name (told-alike i) s (scan-alike s.errors found i)

    text-to : (rows : List Row) (n : ℕ) → text_to plan patterns name s AsText rows n ≡ text_to plan patterns name s
        AsBinary rows n
    text-to rows n = ap (λ w. w.out) (text-alike (rows_with (take n rows) (At End)))

    cut-alike : (rows : List Row) (written : List ℕ) (n : ℕ) → IsCut plan patterns name s AsBinary rows written n
        → IsCut plan patterns name s AsText rows written n
    cut-alike rows written n cut = record {
      longer = subst (λ x. length written < length x) (sym (text-to rows n)) cut.longer;
      first = λ m below. subst (λ x. length x ≤ length written) (sym (text-to rows m)) (cut.first m below);
    }

    soon-alike : (rows : List Row) (before after : Told) (old new : Kept)
        → RefusesSoon plan patterns name s AsText rows before after old new
        → RefusesSoon plan patterns name s AsBinary rows before after old new
    soon-alike rows before after old new soon = λ plain written n to cut. soon plain written n to
        (cut-alike rows written n cut)

    -- a refused write is met as soon
    pub refused-alike : {T : Type 0} (result : Result T Stop) (rows : List Row) (before after : Told) (old new : Kept)
        → WhereRefused result (RefusesSoon plan patterns name s AsText rows before after old new)
        → WhereRefused result (RefusesSoon plan patterns name s AsBinary rows before after old new)
    refused-alike (Ok end) rows before after old new h = tt
    refused-alike (Err SinkFault) rows before after old new h = soon-alike rows before after old new h
    refused-alike (Err TooManyErrors) rows before after old new h = tt
    refused-alike (Err Memory) rows before after old new h = tt
