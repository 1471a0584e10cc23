-- A line without a match error: it is selected or passed.
use Rattle.std.proofs.Common.{◌≡◌, ◌≢◌, ◌++◌, flat_map, ℕ, ◌+◌, ◌≤◌, ◌==◌, Bool, true, false, not}
use Rattle.std.proofs.Common.{◌||◌, ◌&&◌, List, [], ◌∷◌, Option}
use Rattle.std.proofs.Common.{Result, Ok, Err, ℤ, refl, sym, ap, subst, ◌∙◌, arith, inl, if◌then◌else◌}
use Rattle.std.proofs.lemmas.Bool.{cond-true, cond-false, false≢true}
use Rattle.std.proofs.Math.Bool.{beq}
use Rattle.std.proofs.KnownBytes.{Appends-nil}
use Rattle.std.specs.Io.KnownBytes.{Appends}
use Rattle.pcre_io.specs.Told.{Kept}
use Rattle.ordered_search.specs.PlaceAnswer.{Outcome}
use Rattle.grep_output.specs.declared.ended.Stop.{Stop}
use Rattle.grep_output.specs.declared.ended.Stop.TheVariants.{SinkFault, TooManyErrors, Memory}
use Rattle.grep_core.specs.declared.lines.Course.{Course}
use Rattle.grep_core.specs.declared.lines.Next.{Next}
use Rattle.grep_core.specs.declared.lines.Next.TheVariants.{Line, Context}
use Rattle.grep_match.specs.declared.search.Verdict.TheVariants.{Match, NoMatch, Error}
use Rattle.grep_output.specs.declared.state.State.{State}
use Rattle.grep_match.specs.Matches.{Matches, Tried, is_selected, has_error, selects}
use Rattle.grep_output.specs.Messages.{error_message}
use Rattle.line_feed.specs.Rows.{Row}
use Rattle.grep_output.specs.declared.shows.Show.{Show}
use Rattle.grep_output.specs.declared.shows.Show.TheVariants.{Lines, Parts, Nothing}
use Rattle.grep_output.specs.Course.{selected_out, passed_out, row_out, state_after_line, is_lines, separator, line_as}
use Rattle.grep_output.specs.Course.{course_after_selected}
use Rattle.grep_match.specs.Found.{Listed, Lists, ListsMatches, IsVerdict}
use Rattle.grep_core.specs.Turns.{course_of, Halts, Passes, PassesOn, Takes, TakesLine, Selects, is_last, is_full}
use Rattle.grep_core.specs.Work.{Work, Progress, progress}
use Rattle.tool_io.specs.Prints.{Breaks}
use Rattle.tool_io.specs.Writes.{WritesAll}
use Rattle.tool_io.proofs.Printing.{prefix-none}
use Rattle.tool_io.specs.Printed.{printed}

-- What a verdict says of the matches.

pub verdict-error : (wanted : List ℕ) (len : ℕ) (list : Listed) (n : ℤ) (ms : Matches)
    → IsVerdict wanted len list (Error n) ms → ms ≡ Err n
verdict-error wanted len list n (Ok []) h = absurd h
verdict-error wanted len list n (Ok (o ∷ os)) h = absurd h
verdict-error wanted len list n (Err e) h = ap Err (sym h)

-- the line has no match error, its matches are listed, and it is selected so
pub record IsTried (wanted : List ℕ) (len : ℕ) (list : Listed) (is_match : Bool) (ms : Matches) : Type 0 where
  pub found : List Outcome
  pub is : ms ≡ Ok found
  pub listed : Lists wanted len list found
  pub selects_so : (invert : Bool) → selects invert ms ≡ (if is_match then not invert else invert)

pub verdict-match : (wanted : List ℕ) (len : ℕ) (list : Listed) (ms : Matches) → IsVerdict wanted len list Match ms
    → IsTried wanted len list true ms
verdict-match wanted len list (Ok []) h = absurd h
verdict-match wanted len list (Ok (o ∷ os)) h = record {
  found = o ∷ os;
  is = refl;
  listed = h;
  selects_so = λ invert. refl;
}
verdict-match wanted len list (Err e) h = absurd h

pub verdict-none : (wanted : List ℕ) (len : ℕ) (list : Listed) (ms : Matches) → IsVerdict wanted len list NoMatch ms
    → IsTried wanted len list false ms
verdict-none wanted len list (Ok []) h = record { found = []; is = refl; listed = h; selects_so = λ invert. refl }
verdict-none wanted len list (Ok (o ∷ os)) h = absurd h
verdict-none wanted len list (Err e) h = absurd h

pub tried-listed : (wanted : List ℕ) (len : ℕ) (list : Listed) (is_match : Bool) (ms : Matches)
    → IsTried wanted len list is_match ms → ListsMatches wanted len list ms
tried-listed wanted len list is_match ms tried = subst (ListsMatches wanted len list) (sym tried.is) tried.listed

-- Such a line.
module _ (work : Work) (most : Option ℕ) (t : Tried) (found : List Outcome) (is : t.matches ≡ Ok found) where
  no_error : has_error t ≡ false
  no_error = ap (λ (m : Matches). elim m [ Ok os ↦ false | Err n ↦ true ]) is

  unsaid : error_message work.name t ≡ []
  unsaid = ap (λ (m : Matches). error_message work.name (record { row = t.row; matches = m })) is

  shown : (s : State) (c : Course) → row_out work.plan work.name work.show s.has_shown (course_of c)
      t ≡ (if is_last s t then [] else row_out work.plan work.name work.show s.has_shown (course_of c) t)
  shown s c = ap (λ b. if b && s.errors == 20 then [] else row_out work.plan work.name work.show s.has_shown
      (course_of c) t) (sym no_error)

  -- a part of it was written
  pub line-refused : (c c_new : Course) (s s_new : State) (text : List ℕ) (out_old out_new err : Kept) (stop : Stop)
      → text ≡ row_out work.plan work.name work.show s.has_shown (course_of c) t → Halts text out_old out_new stop
      → c_new.selected ≡ c.selected → s_new ≡ s
      → TakesLine work most t (progress c s (printed out_old err)) (progress c_new s_new (printed out_new err))
      (Err stop)
  line-refused c c_new s s_new text out_old out_new err SinkFault same halts count left = (
    subst (λ l. Breaks l (error_message work.name t) (printed out_old err) (printed out_new err)
        (SinkFault ≡ SinkFault)) (same ∙ shown s c)
        (record {
          out = halts.0;
          err = prefix-none err.held (error_message work.name t);
          cause = λ _. inl halts.1;
          steady = λ other. absurd (other refl);
        }),
    (count, inl left),
  )
  line-refused c c_new s s_new text out_old out_new err Memory same halts count left = (
    subst (λ l. Breaks l (error_message work.name t) (printed out_old err) (printed out_new err) (Memory ≡ SinkFault))
        (same ∙ shown s c)
        (record {
          out = halts.0;
          err = prefix-none err.held (error_message work.name t);
          cause = λ is. absurd (cc);
          steady = λ _. (halts.1, refl);
        }),
    (count, inl left),
  )
  line-refused c c_new s s_new text out_old out_new err TooManyErrors same halts count left = absurd halts

  and-or : (b l : Bool) → (b || (true && l)) ≡ (b || l)
  and-or true l = refl
  and-or false l = refl

  or-none : (b l : Bool) → (b || (false && l)) ≡ b
  or-none true l = refl
  or-none false l = refl

  state-so : (s : State) (b : Bool) → is_selected work.plan t ≡ b
      → record s { has_shown = s.has_shown || (b && is_lines work.show) } ≡ state_after_line work.plan work.show s t
  state-so s b selected = sym (λ i. let r : State = record {
    errors = if no_error i then s.errors + 1 else s.errors;
    total = s.total;
    has_shown = s.has_shown || (selected i && is_lines work.show);
  } in r)

  -- it is selected
  pub selected-takes : (c c_new : Course) (s s_new : State) (out_old out_new err : Kept) (result : Result Next Stop)
      → is_selected work.plan t ≡ true → s.errors ≤ 20
      → Selects work most t (progress c s (printed out_old err)) (progress c_new s_new (printed out_new err)) result
      → TakesLine work most t (progress c s (printed out_old err)) (progress c_new s_new (printed out_new err)) result
  selected-takes c c_new s s_new out_old out_new err (Ok next) yes_selected few sel = record {
    wrote = record {
      out = subst (Appends out_old.held out_new.held) (sym (cond-true (is_selected work.plan t) _ _ yes_selected))
          sel.wrote.all;
      err = subst (Appends err.held err.held) (sym unsaid) (Appends-nil err.held);
      steady = (sel.wrote.steady, refl);
    };
    stands = sel.stands ∙ sym (cond-true (is_selected work.plan t) _ _ yes_selected);
    limit = sel.limit;
    longest = sel.longest;
    state = sel.state ∙ ap (λ b. let r : State = record s { has_shown = b } in r)
        (sym (and-or s.has_shown (is_lines work.show))) ∙ state-so s true yes_selected;
    answer = sel.answer ∙ sym (ap (λ b. if b && is_full most c_new.selected then Context else Line) yes_selected);
    errors = let same = ap (λ (r : State). r.errors) sel.state in omega (arith, same, few);
  }
  selected-takes c c_new s s_new out_old out_new err (Err stop) yes_selected few sel =
      line-refused c c_new s s_new (selected_out work.plan work.name work.show s.has_shown (course_of c) t) out_old
      out_new err stop (sym (cond-true (is_selected work.plan t) _ _ yes_selected)) sel.0 sel.1 sel.2

  -- it is passed
  pub passed-takes : (c c_new : Course) (s : State) (out_old out_new err : Kept) → is_selected work.plan t ≡ false
      → s.errors ≤ 20 → PassesOn work t (progress c s (printed out_old err)) (progress c_new s (printed out_new err))
      → Takes work most t (progress c s (printed out_old err)) (progress c_new s (printed out_new err)) Line
  passed-takes c c_new s out_old out_new err not_selected few passes = record {
    wrote = record {
      out = subst (Appends out_old.held out_new.held) (sym (cond-false (is_selected work.plan t) _ _ not_selected))
          passes.wrote.all;
      err = subst (Appends err.held err.held) (sym unsaid) (Appends-nil err.held);
      steady = (passes.wrote.steady, refl);
    };
    stands = passes.stands ∙ sym (cond-false (is_selected work.plan t) _ _ not_selected);
    limit = passes.limit;
    longest = passes.longest;
    state = ap (λ b. let r : State = record s { has_shown = b } in r) (sym (or-none s.has_shown (is_lines work.show)))
        ∙ state-so s false not_selected;
    answer = sym (ap (λ b. if b && is_full most c_new.selected then Context else Line) not_selected);
    errors = few;
  }

  pub passed-refused : (c c_new : Course) (s : State) (out_old out_new err : Kept) (stop : Stop)
      → is_selected work.plan t ≡ false → Passes work t (progress c s (printed out_old err))
      (progress c_new s (printed out_new err)) (Err stop)
      → TakesLine work most t (progress c s (printed out_old err)) (progress c_new s (printed out_new err)) (Err stop)
  passed-refused c c_new s out_old out_new err stop not_selected halts =
      line-refused c c_new s s (passed_out work.plan work.name work.show (course_of c) t) out_old out_new err stop
      (sym (cond-false (is_selected work.plan t) _ _ not_selected)) halts.0 halts.1 refl

-- Where no more than the line is shown it doesn't matter which its matches are.
module _ (work : Work) (most : Option ℕ) (t u : Tried) (same : u.row ≡ t.row) (whole : work.show ≢ Parts) where
  out-alike : (shown : Bool) (c : Course) → selected_out work.plan work.name work.show shown (course_of c) u
      ≡ selected_out work.plan work.name work.show shown (course_of c) t
  out-alike shown c = by_show work.show whole
    where
      by_show : (s : Show) → s ≢ Parts → selected_out work.plan work.name s shown (course_of c) u
          ≡ selected_out work.plan work.name s shown (course_of c) t
      by_show Lines h =
          ap (λ (r : Row). separator work.plan work.name shown (course_of c) r.number
          ++ flat_map (line_as work.plan work.name false) (course_of c).earlier
          ++ line_as work.plan work.name true r) same
      by_show Parts h = absurd (h refl)
      by_show Nothing h = refl

  pub selects-alike : (old new : Progress) (result : Result Next Stop) → Selects work most u old new result
      → Selects work most t old new result
  selects-alike old new (Ok next) sel = record {
    wrote = subst (λ l. WritesAll l old.printed.out new.printed.out)
        (out-alike old.state.has_shown old.course) sel.wrote;
    stands = sel.stands ∙ ap (course_after_selected work.plan work.show (course_of old.course)) same;
    limit = sel.limit;
    longest = sel.longest;
    state = sel.state;
    answer = sel.answer;
  }
  selects-alike old new (Err stop) sel = (
    subst (λ l. Halts l old.printed.out new.printed.out stop) (out-alike old.state.has_shown old.course) sel.0,
    sel.1,
    sel.2,
  )

-- whether a line is selected
pub chosen : (b i : Bool) → not (beq b i) ≡ true → (if b then not i else i) ≡ true
chosen true true e = absurd (false≢true e)
chosen true false e = refl
chosen false true e = refl
chosen false false e = absurd (false≢true e)

pub unchosen : (b i : Bool) → not (beq b i) ≡ false → (if b then not i else i) ≡ false
unchosen true true e = refl
unchosen true false e = absurd (false≢true (sym e))
unchosen false true e = absurd (false≢true (sym e))
unchosen false false e = refl
