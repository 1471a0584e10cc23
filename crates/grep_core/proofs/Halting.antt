-- The steps of a scan: what a line leaves, and what is left where a write is refused.
use Rattle.std.proofs.Common.{◌≡◌, ℕ, ◌+◌, ◌<◌, ◌≤◌, ◌==◌, Bool, true, false, ◌||◌, ◌&&◌, cond, List, [], ◌∷◌, ◌++◌}
use Rattle.std.proofs.Common.{Option, Ok, Err, ℤ, if◌then◌else◌, refl, sym, ap, subst, ◌∙◌, arith, ⊎_elim, inl, inr}
use Rattle.std.specs.Prelude.{nat_le}
use Rattle.std.proofs.lemmas.Bool.{le-leb, eqb-true, cases_Bool, cond-false}
use Rattle.std.proofs.KnownBytes.{Appends-nil}
use Rattle.std.specs.Io.KnownBytes.{Appends}
use Rattle.circular_buffer.specs.Buffer.{keep_last}
use Rattle.pcre_io.specs.Told.{Kept}
use Rattle.pcre_io.specs.declared.traits.IoError.{IoError}
use Rattle.pcre_io.specs.declared.traits.IoError.TheVariants as io
use Rattle.line_feed.specs.Rows.{Row}
use Rattle.grep_args.specs.declared.plan.GrepPlan.{GrepPlan}
use Rattle.grep_output.specs.declared.shows.Show.{Show}
use Rattle.grep_output.specs.declared.shows.Show.TheVariants as show
use Rattle.grep_output.specs.declared.ended.Stop.{Stop}
use Rattle.grep_output.specs.declared.ended.Stop.TheVariants.{SinkFault, TooManyErrors, Memory}
use Rattle.grep_core.specs.declared.lines.Course.{Course}
use Rattle.grep_core.specs.declared.lines.Next.TheVariants.{Line, Context}
use Rattle.grep_output.specs.declared.state.State.{State}
use Rattle.grep_match.specs.Matches.{Matches, Tried, is_selected, has_error}
use Rattle.grep_output.specs.Messages.{error_message}
use Rattle.grep_output.specs.Course.{line_as, passed_out, row_out, course_after, course_after_passed}
use Rattle.grep_output.specs.Course.{state_after_line, is_lines}
use Rattle.tool_io.specs.Texts.{text_if}
use Rattle.grep_output.specs.Ends.{stop_of}
use Rattle.grep_core.specs.Turns.{course_of, Halts, Passes, PassesOn, Takes, TakesLast, TakesLine, is_last, is_full}
use Rattle.grep_core.specs.Work.{Work, progress}
use Rattle.tool_io.specs.Writes.{Writes, WritesAll}
use Rattle.tool_io.specs.Prints.{Breaks}
use Rattle.grep_output.proofs.Reached.{unselected-error}
use Rattle.tool_io.specs.Printed.{printed}
use Rattle.tool_io.proofs.Printing.{prefix-of}

-- a refused write
pub halts-of : {T : Type 0} (text : List ℕ) (old new : Kept) (e : IoError) → Writes {T = T} text old new (Err e)
    → Halts text old new (stop_of e)
halts-of text old new io.Failed w = (w.part, w.cause)
halts-of text old new io.Memory w = (w.part, w.cause)

-- a line that is context
pub context-text : (plan : GrepPlan) (name : List ℕ) (shows : Show) (c : Course) (t : Tried) (row : Row)
    → shows ≡ show.Lines → t.row ≡ row → row.number ≤ c.context_to
    → line_as plan name false row ≡ passed_out plan name shows (course_of c) t
context-text plan name shows c t row lines same near =
    sym (ap (λ s. passed_out plan name s (course_of c) t) lines
    ∙ ap (λ (r : Row). text_if (nat_le r.number c.context_to) (line_as plan name false r)) same
    ∙ ap (λ b. text_if b (line_as plan name false row)) (le-leb row.number c.context_to near))

pub context-after : (plan : GrepPlan) (shows : Show) (c : Course) (t : Tried) (row : Row) → shows ≡ show.Lines
    → t.row ≡ row → row.number ≤ c.context_to
    → course_of c ≡ course_after_passed plan shows (course_of c) t.row
context-after plan shows c t row lines same near =
    sym (ap (λ s. course_after_passed plan s (course_of c) t.row) lines
    ∙ ap (λ (r : Row). course_after_passed plan show.Lines (course_of c) r) same
    ∙ ap (λ b. cond b (course_of c)
    (record (course_of c) { earlier = keep_last plan.before_context (c.earlier.rows ++ row ∷ []) }))
    (le-leb row.number c.context_to near))

-- A line with a match error.
error-of : (t : Tried) (e : ℤ) → t.matches ≡ Err e → has_error t ≡ true
error-of t e is = ap (λ (m : Matches). elim m [ Ok os ↦ false | Err n ↦ true ]) is

or-none : (b l : Bool) → (b || (false && l)) ≡ b
or-none true l = refl
or-none false l = refl

pub error-state : (plan : GrepPlan) (shows : Show) (s : State) (t : Tried) (e : ℤ) → t.matches ≡ Err e
    → record { errors = s.errors + 1; total = s.total; has_shown = s.has_shown } ≡ state_after_line plan shows s t
error-state plan shows s t e is =
    let yes_error = error-of t e is in
    let not_selected = unselected-error plan t yes_error in
    sym ((λ i. let r : State = record {
      errors = cond (yes_error i) (s.errors + 1) s.errors;
      total = s.total;
      has_shown = s.has_shown || (not_selected i && is_lines shows);
    } in r)
    ∙ ap (λ b. let r : State = record { errors = s.errors + 1; total = s.total; has_shown = b } in r)
    (or-none s.has_shown (is_lines shows)))

pub error-passed : (plan : GrepPlan) (name : List ℕ) (shows : Show) (has_shown : Bool) (c : Course) (t : Tried)
    (e : ℤ) → t.matches ≡ Err e
    → passed_out plan name shows (course_of c) t ≡ row_out plan name shows has_shown (course_of c) t
error-passed plan name shows has_shown c t e is =
    sym (cond-false (is_selected plan t) _ _ (unselected-error plan t (error-of t e is)))

pub error-after : (plan : GrepPlan) (shows : Show) (c : Course) (t : Tried) (e : ℤ) → t.matches ≡ Err e
    → course_after_passed plan shows (course_of c) t.row ≡ course_after plan shows (course_of c) t
error-after plan shows c t e is = sym (cond-false (is_selected plan t) _ _ (unselected-error plan t (error-of t e is)))

-- the last one
pub takes-last : (work : Work) (most : Option ℕ) (c : Course) (s : State) (t : Tried) (e : ℤ)
    (out err_old err_new : Kept) → t.matches ≡ Err e → s.errors ≤ 20 → 21 ≤ s.errors + 1
    → WritesAll (error_message work.name t) err_old err_new
    → TakesLast work most t (progress c s (printed out err_old))
    (progress c (record { errors = s.errors + 1; total = s.total; has_shown = s.has_shown })
    (printed out err_new))
takes-last work most c s t e out err_old err_new is few many said = record {
  course = refl;
  error = error-of t e is;
  errors = omega (arith, few, many);
  state = error-state work.plan work.show s t e is;
  wrote = record { out = Appends-nil out.held; err = said.all; steady = (refl, said.steady) };
}

not_last : (s : State) (t : Tried) → s.errors + 1 < 21 → is_last s t ≡ false
not_last s t few =
    ⊎_elim (λ (e : (s.errors == 20) ≡ true). absurd (let is = eqb-true s.errors 20 e in omega (arith, is, few)))
    (λ (e : (s.errors == 20) ≡ false). ap (λ b. has_error t && b) e ∙ and-false (has_error t))
    (cases_Bool (s.errors == 20))
  where
    and-false : (b : Bool) → (b && false) ≡ false
    and-false true = refl
    and-false false = refl

-- where a part of what is shown of it was written, after its message
pub error-halts : (plan : GrepPlan) (name : List ℕ) (shows : Show) (c : Course) (s : State) (t : Tried) (e : ℤ)
    (out_old out_new err_old err_new : Kept) (stop : Stop) → t.matches ≡ Err e → s.errors + 1 < 21
    → WritesAll (error_message name t) err_old err_new
    → Halts (passed_out plan name shows (course_of c) t) out_old out_new stop
    → Breaks (if is_last s t then [] else row_out plan name shows s.has_shown (course_of c) t) (error_message name t)
    (printed out_old err_old) (printed out_new err_new) (stop ≡ SinkFault)
error-halts plan name shows c s t e out_old out_new err_old err_new stop is few said halts =
    subst (λ l. Breaks l (error_message name t) (printed out_old err_old) (printed out_new err_new) (stop ≡ SinkFault))
    (error-passed plan name shows s.has_shown c t e is ∙ sym (cond-false (is_last s t) _ _ (not_last s t few)))
    (by_stop stop halts)
  where
    by_stop : (stop : Stop) → Halts (passed_out plan name shows (course_of c) t) out_old out_new stop
        → Breaks (passed_out plan name shows (course_of c) t) (error_message name t) (printed out_old err_old)
        (printed out_new err_new) (stop ≡ SinkFault)
    by_stop SinkFault h = record {
      out = h.0;
      err = prefix-of err_old.held err_new.held (error_message name t) said.all;
      cause = λ _. inl h.1;
      steady = λ other. absurd (other refl);
    }
    by_stop Memory h = record {
      out = h.0;
      err = prefix-of err_old.held err_new.held (error_message name t) said.all;
      cause = λ is. absurd (cc);
      steady = λ _. (h.1, said.steady);
    }
    by_stop TooManyErrors h = absurd h

-- a line with a match error was scanned whole
pub error-takes : (work : Work) (most : Option ℕ) (c c_new : Course) (s : State) (t : Tried) (e : ℤ)
    (out_old out_new err_old err_new : Kept) → t.matches ≡ Err e → s.errors + 1 < 21
    → WritesAll (error_message work.name t) err_old err_new
    → PassesOn work t (progress c s (printed out_old err_old)) (progress c_new s (printed out_new err_old))
    → Takes work most t (progress c s (printed out_old err_old))
    (progress c_new (record { errors = s.errors + 1; total = s.total; has_shown = s.has_shown })
    (printed out_new err_new)) Line
error-takes work most c c_new s t e out_old out_new err_old err_new is few said passes = record {
  wrote = record {
    out = subst (Appends out_old.held out_new.held) (error-passed work.plan work.name work.show s.has_shown c t e is)
        passes.wrote.all;
    err = said.all;
    steady = (passes.wrote.steady, said.steady);
  };
  stands = passes.stands ∙ error-after work.plan work.show c t e is;
  limit = passes.limit;
  longest = passes.longest;
  state = error-state work.plan work.show s t e is;
  answer = sym (ap (λ b. cond (b && is_full most c_new.selected) Context Line)
      (unselected-error work.plan t (error-of t e is)));
  errors = omega (arith, few);
}

pub error-refused : (work : Work) (most : Option ℕ) (c c_new : Course) (s : State) (t : Tried) (e : ℤ)
    (out_old out_new err_old err_new : Kept) (stop : Stop) → t.matches ≡ Err e → s.errors + 1 < 21
    → WritesAll (error_message work.name t) err_old err_new
    → Passes work t (progress c s (printed out_old err_old)) (progress c_new s (printed out_new err_old)) (Err stop)
    → TakesLine work most t (progress c s (printed out_old err_old))
    (progress c_new (record { errors = s.errors + 1; total = s.total; has_shown = s.has_shown })
    (printed out_new err_new)) (Err stop)
error-refused work most c c_new s t e out_old out_new err_old err_new SinkFault is few said halts = (
  error-halts work.plan work.name work.show c s t e out_old out_new err_old err_new SinkFault is few said halts.0,
  (halts.1, inr (error-of t e is, error-state work.plan work.show s t e is)),
)
error-refused work most c c_new s t e out_old out_new err_old err_new Memory is few said halts = (
  error-halts work.plan work.name work.show c s t e out_old out_new err_old err_new Memory is few said halts.0,
  (halts.1, inr (error-of t e is, error-state work.plan work.show s t e is)),
)
error-refused work most c c_new s t e out_old out_new err_old err_new TooManyErrors is few said halts = absurd halts.0
