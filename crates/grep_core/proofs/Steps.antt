-- The steps of a scan: what is written of a selected line, and of the lines before it.
use Rattle.std.proofs.Common.{◌≡◌, ℕ, zero, suc, ◌+◌, ◌<◌, Bool, true, false, ◌||◌, if◌then◌else◌, List, [], ◌∷◌}
use Rattle.std.proofs.Common.{◌++◌, drop, length, flat_map, codes, Option, Some, None, Result, Ok, Err, refl, ap}
use Rattle.std.proofs.Common.{◌∙◌, arith, append-nil}
use Rattle.std.specs.Prelude.{slice_get}
use Rattle.std.proofs.lemmas.List.{at_drop_more}
use Rattle.std.proofs.lemmas.Option.{slice_get_within, get_or_from_slice_get}
use Rattle.line_feed.specs.Rows.{Row}
use Rattle.ordered_search.specs.PlaceAnswer.{Outcome}
use Rattle.pcre_io.specs.Told.{Kept}
use Rattle.pcre_io.specs.declared.traits.IoError.{IoError}
use Rattle.grep_args.specs.declared.plan.GrepPlan.{GrepPlan}
use Rattle.pat_tree.specs.Pattern.{Pattern}
use Rattle.tool_io.specs.Printed.{printed}
use Rattle.grep_match.specs.Matches.{Tried, Matches}
use Rattle.grep_match.specs.Found.{Listed, Lists, ListsMatches}
use Rattle.tool_io.specs.Writes.{Writes, WritesAll}
use denote.Enum.Bare.{sameb}
use Rattle.grep_output.specs.contracts.shows.Show.{the_type}
use Rattle.grep_output.specs.declared.shows.Show.{Show}
use Rattle.grep_output.specs.declared.shows.Show.TheVariants as show
use Rattle.grep_core.specs.declared.lines.Course.{Course}
use Rattle.grep_core.specs.declared.lines.Next.{Next}
use Rattle.grep_core.specs.declared.lines.Next.TheVariants.{Line, Context}
use Rattle.grep_output.specs.declared.state.State.{State}
use Rattle.grep_output.specs.Earlier.{EarlierRows}
use Rattle.grep_output.specs.Course.{is_lines, selected_out}
use Rattle.grep_core.specs.Work.{work_on, progress}
use Rattle.grep_core.specs.Turns.{course_of, is_full, SelectsIt}
use Rattle.tool_io.specs.Texts.{text_if}
use Rattle.grep_output.specs.Texts.{match_text, matches_text}

-- the text of the next row is left in front of that of the later ones
pub rest-more : (f : Row → List ℕ) (rows : List Row) (i : ℕ) (row : Row) → slice_get rows i ≡ Some row
    → flat_map f (drop i rows) ≡ f row ++ flat_map f (drop (i + 1) rows)
rest-more f rows i row e =
    at_drop_more (flat_map f) rows i row (slice_get_within rows i row e)
    ∙ ap (λ (r : Row). f r ++ flat_map f (drop (i + 1) rows)) (get_or_from_slice_get rows i row row e)

-- a row stands at each place within
pub is-there : (rows : List Row) (i : ℕ) → slice_get rows i ≡ None → i < length rows → ⊥
is-there [] i e h = omega arith
is-there (r ∷ rs) zero e h = cc
is-there (r ∷ rs) (suc i) e h = is-there rs i e (omega arith)

-- the separator, as it is written
pub gap-text : (is_gap other : Bool) (text : List ℕ) → text ≡ text_if is_gap (codes "--\n") → is_gap ≡ other
    → text ++ [] ≡ text_if other (codes "--\n")
gap-text is_gap other text e same = append-nil text ∙ e ∙ ap (λ b. text_if b (codes "--\n")) same

-- the matches that are listed are those of the line
pub parts-written : (plan : GrepPlan) (name : List ℕ) (t : Tried) (row : Row) (len : ℕ) (list : Listed)
    (old new : Kept) (result : Result (Unit {0}) IoError) (m : Matches)
    → t.matches ≡ m → ListsMatches plan.only_matching len list m → t.row ≡ row
    → ((os : List Outcome) → Lists plan.only_matching len list os
    → Writes (flat_map (match_text plan name plan.offsets row) os) old new result)
    → Writes (matches_text plan name t) old new result
parts-written plan name t row len list old new result (Ok os) is l e w = rw (is, e) (w os l)
parts-written plan name t row len list old new result (Err n) is l e w = absurd l

-- After a selected line.

-- whether lines are shown, as it is tested
pub shows-lines : (asked : Show) → sameb the_type asked show.Lines ≡ is_lines asked
shows-lines show.Lines = refl
shows-lines show.Parts = refl
shows-lines show.Nothing = refl

or-true : (b : Bool) → true ≡ (b || true)
or-true true = refl
or-true false = refl

or-false : (b : Bool) → b ≡ (b || false)
or-false true = refl
or-false false = refl

written-out : {text : List ℕ} {old new : Kept} (u : Unit {0}) → Writes text old new (Ok u) → WritesAll text old new
written-out u w = record { all = w.all; steady = w.cause }

module _ (plan : GrepPlan) (patterns : List Pattern) (name : List ℕ) (most : Option ℕ) (t : Tried) (c : Course)
    (s : State) (c_new : Course) (s_new : State) (old new err : Kept) (next : Next) (u : Unit {0}) where
  -- where lines are shown
  pub selected-line : (show : Show) (number after : ℕ) (earlier : EarlierRows) → is_lines show ≡ true
      → Writes (selected_out plan name show s.has_shown (course_of c) t) old new (Ok u)
      → t.row.number ≡ number → after ≡ plan.after_context → earlier ≡ record {
        limit = c.earlier.limit;
        longest = c.earlier.longest;
        rows = [];
      }
      → c_new ≡ record { selected = c.selected + 1; context_to = number + after; earlier = earlier }
      → s_new ≡ record { errors = s.errors; total = s.total; has_shown = true }
      → next ≡ (if is_full most c_new.selected then Context else Line)
      → SelectsIt (work_on plan patterns name show) most t (progress c s (printed old err))
      (progress c_new s_new (printed new err)) next
  selected-line show.Lines number after earlier is w n a b e es answer = record {
    wrote = written-out u w;
    stands = ap course_of e ∙ rw (a, ← n, b) refl;
    limit = ap (λ (d : Course). d.earlier.limit) e ∙ ap (λ (d : EarlierRows). d.limit) b;
    longest = ap (λ (d : Course). d.earlier.longest) e ∙ ap (λ (d : EarlierRows). d.longest) b;
    state = es ∙ ap {A = Bool} {B = State} (λ h. record { errors = s.errors; total = s.total; has_shown = h })
        (or-true s.has_shown);
    answer = answer;
  }
  selected-line show.Parts number after earlier is w n a b e es answer = absurd cc
  selected-line show.Nothing number after earlier is w n a b e es answer = absurd cc

  -- where they aren't
  pub selected-only : (show : Show) → is_lines show ≡ false
      → Writes (selected_out plan name show s.has_shown (course_of c) t) old new (Ok u)
      → c_new ≡ record { selected = c.selected + 1; context_to = c.context_to; earlier = c.earlier } → s_new ≡ s
      → next ≡ (if is_full most c_new.selected then Context else Line)
      → SelectsIt (work_on plan patterns name show) most t (progress c s (printed old err))
      (progress c_new s_new (printed new err)) next
  selected-only show.Lines is w e es answer = absurd cc
  selected-only show.Parts is w e es answer = record {
    wrote = written-out u w;
    stands = ap course_of e;
    limit = ap (λ (d : Course). d.earlier.limit) e;
    longest = ap (λ (d : Course). d.earlier.longest) e;
    state = es ∙ ap {A = Bool} {B = State} (λ h. record { errors = s.errors; total = s.total; has_shown = h })
        (or-false s.has_shown);
    answer = answer;
  }
  selected-only show.Nothing is w e es answer = record {
    wrote = written-out u w;
    stands = ap course_of e;
    limit = ap (λ (d : Course). d.earlier.limit) e;
    longest = ap (λ (d : Course). d.earlier.longest) e;
    state = es ∙ ap {A = Bool} {B = State} (λ h. record { errors = s.errors; total = s.total; has_shown = h })
        (or-false s.has_shown);
    answer = answer;
  }
