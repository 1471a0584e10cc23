-- The loop that takes lines: its start, and the numbers that it keeps.
use Rattle.std.proofs.Common.{◌≡◌, ℕ, ◌+◌, ◌-◌, ◌^◌, ◌<◌, ◌≤◌, ◌||◌, Bool, true, false, List, [], ◌∷◌, ◌++◌, length}
use Rattle.std.proofs.Common.{Option, None, Some, refl, sym, ap, subst, ◌∙◌, arith, length-append, length-drop}
use Rattle.std.specs.Prelude.{nat_le}
use Rattle.std.proofs.lemmas.Bool.{cond_both}
use Rattle.pcre_io.specs.Told.{Told, Kept}
use Rattle.line_feed.specs.Rows.{Row}
use Rattle.line_feed.specs.View.{Feed}
use Rattle.line_feed.specs.Answers.{Gives}
use Rattle.circular_buffer.specs.Buffer.{keep_last}
use Rattle.grep_args.specs.declared.plan.GrepPlan.{GrepPlan}
use Rattle.grep_output.specs.declared.shows.Show.{Show}
use Rattle.grep_output.specs.declared.shows.Show.TheVariants as show
use Rattle.grep_output.specs.declared.shows.Treatment.{Treatment}
use Rattle.grep_core.specs.declared.lines.Course.{Course}
use Rattle.grep_core.specs.declared.lines.Next.{Next}
use Rattle.grep_output.specs.declared.state.State.{State}
use Rattle.grep_match.specs.Matches.{Tried, is_selected}
use Rattle.grep_output.specs.InputText.{shown_out, shows_group}
use Rattle.grep_output.specs.Course as course
use Rattle.grep_output.specs.Course.{begun, course_after, course_after_selected, course_after_passed, scan_so_far}
use Rattle.grep_core.specs.Turns.{course_of, Takes}
use Rattle.grep_core.specs.Work.{Work, progress}
use Rattle.grep_core.specs.WholeScans.{Stood, IsJob, AtLeastOne}
use Rattle.tool_io.specs.Prints.{Wrote}
use Rattle.grep_output.proofs.Reached.{Reached, reached-begun}
use Rattle.grep_output.specs.Scans.{IsBelow}
use Rattle.tool_io.proofs.Printing.{wrote-none}
use Rattle.grep_core.specs.Underway.{Keeps, Standing}
use Rattle.tool_io.specs.Printed.{printed}

shown-none : (plan : GrepPlan) (name : List ℕ) (shows : Show) (hs : Bool)
    → shown_out plan name shows hs (scan_so_far []) ≡ []
shown-none plan name show.Lines hs = refl
shown-none plan name show.Parts hs = refl
shown-none plan name show.Nothing hs = refl

group-none : (plan : GrepPlan) (name : List ℕ) (shows : Show) → shows_group plan name shows (scan_so_far []) ≡ false
group-none plan name show.Lines = refl
group-none plan name show.Parts = refl
group-none plan name show.Nothing = refl

or_none : (a : Bool) → (a || false) ≡ a
or_none true = refl
or_none false = refl

below-none : (most : Option ℕ) → AtLeastOne most → IsBelow most 0
below-none None some = tt
below-none (Some m) some = omega arith

-- before the first line
pub standing-begun : (work : Work) (most : Option ℕ) (treated : Treatment) (s0 : State) (before now : Told)
    (f0 : Feed) (c : Course) (out err : Kept)
    → IsJob work.plan treated work.show most f0 → Stood work.plan treated before now f0 [] → c.selected ≡ 0
    → c.context_to ≡ 0 → c.earlier.rows ≡ [] → s0.errors ≤ 20
    → Standing work most treated s0 before now f0 c s0 out out err err
standing-begun work most treated s0 before now f0 c out err job stood selected context earlier errors =
    let is : course_of c ≡ begun = λ i. record { selected = selected i; context_to = context i; earlier = earlier i } in
    let none : s0.errors + 0 ≡ s0.errors = omega arith in
    let shown : (s0.has_shown || shows_group work.plan work.name work.show (scan_so_far [])) ≡ s0.has_shown =
    ap (λ b. s0.has_shown || b) (group-none work.plan work.name work.show) ∙ or_none s0.has_shown in record {
      given = [];
      stood = stood;
      kind = job.kind;
      max = job.max;
      whole = job.begun;
      near = job.near;
      few = omega arith;
      below = below-none most job.some;
      taken = record {
        reached = subst (λ (d : course.Course). Reached work.plan work.show [] d) (sym is)
            (reached-begun work.plan work.show);
        wrote = subst (λ l. Wrote l [] (printed out err) (printed out err))
            (sym (shown-none work.plan work.name work.show s0.has_shown)) (wrote-none (printed out err));
        state = λ i. record s0 { errors = sym none i; has_shown = sym shown i };
      };
    }

-- what one more line makes of the numbers

kept-few : (n : ℕ) (rows : List Row) → length (keep_last n rows) ≤ length rows
kept-few n rows = let long = length-drop (length rows - n) rows in omega arith

after-earlier : (plan : GrepPlan) (shows : Show) (c : course.Course) (t : Tried)
    → length (course_after plan shows c t).earlier ≤ length c.earlier + 1
after-earlier plan shows c t = cond_both (is_selected plan t) (course_after_selected plan shows c t.row)
    (course_after_passed plan shows c t.row) (λ (d : course.Course). length d.earlier ≤ length c.earlier + 1)
    (λ e. selected shows) (λ e. passed shows)
  where
    selected : (s : Show) → length (course_after_selected plan s c t.row).earlier ≤ length c.earlier + 1
    selected show.Lines = omega arith
    selected show.Parts = omega arith
    selected show.Nothing = omega arith

    passed : (s : Show) → length (course_after_passed plan s c t.row).earlier ≤ length c.earlier + 1
    passed show.Lines =
        let few = kept-few plan.before_context (c.earlier ++ t.row ∷ []) in
        let long = length-append c.earlier (t.row ∷ []) in
        cond_both (nat_le t.row.number c.context_to) c
        (record c { earlier = keep_last plan.before_context (c.earlier ++ t.row ∷ []) })
        (λ (d : course.Course). length d.earlier ≤ length c.earlier + 1) (λ e. omega arith) (λ e. omega arith)
    passed show.Parts = omega arith
    passed show.Nothing = omega arith

after-context : (plan : GrepPlan) (shows : Show) (c : course.Course) (t : Tried) (n : ℕ) → c.context_to ≤ n
    → t.row.number + plan.after_context ≤ n → (course_after plan shows c t).context_to ≤ n
after-context plan shows c t n old new = cond_both (is_selected plan t) (course_after_selected plan shows c t.row)
    (course_after_passed plan shows c t.row) (λ (d : course.Course). d.context_to ≤ n) (λ e. selected shows)
    (λ e. passed shows)
  where
    selected : (s : Show) → (course_after_selected plan s c t.row).context_to ≤ n
    selected show.Lines = new
    selected show.Parts = old
    selected show.Nothing = old

    passed : (s : Show) → (course_after_passed plan s c t.row).context_to ≤ n
    passed show.Lines = cond_both (nat_le t.row.number c.context_to) c
        (record c { earlier = keep_last plan.before_context (c.earlier ++ t.row ∷ []) })
        (λ (d : course.Course). d.context_to ≤ n) (λ e. old) (λ e. old)
    passed show.Parts = old
    passed show.Nothing = old

after-count : (plan : GrepPlan) (shows : Show) (c : course.Course) (t : Tried)
    → (course_after plan shows c t).selected ≤ c.selected + 1
after-count plan shows c t = cond_both (is_selected plan t) (course_after_selected plan shows c t.row)
    (course_after_passed plan shows c t.row) (λ (d : course.Course). d.selected ≤ c.selected + 1)
    (λ e. selected shows) (λ e. passed shows)
  where
    selected : (s : Show) → (course_after_selected plan s c t.row).selected ≤ c.selected + 1
    selected show.Lines = omega arith
    selected show.Parts = omega arith
    selected show.Nothing = omega arith

    passed : (s : Show) → (course_after_passed plan s c t.row).selected ≤ c.selected + 1
    passed show.Lines = cond_both (nat_le t.row.number c.context_to) c
        (record c { earlier = keep_last plan.before_context (c.earlier ++ t.row ∷ []) })
        (λ (d : course.Course). d.selected ≤ c.selected + 1) (λ e. omega arith) (λ e. omega arith)
    passed show.Parts = omega arith
    passed show.Nothing = omega arith

-- the numbers of a feed that gave a row
pub record Gave (f g : Feed) (row : Row) : Type 0 where
  pub number : g.number ≡ f.number + 1
  pub row_number : row.number ≡ f.number + 1
  pub offset : f.offset < g.offset
  pub limit : g.offset ≤ 2 ^ 40
  pub max : g.max ≡ f.max

pub gave : (f g : Feed) (now after : Told) (row : Row) → Gives f g now after row → Gave f g row
gave f g now after row gives =
    let moves = gives.reads.moves in
    let cuts = gives.cuts in
    let number = moves.number in
    let offset = moves.offset in
    let row_number = cuts.number in
    let next_number = cuts.next_number in
    let row_offset = cuts.offset in
    let next_offset = cuts.next_offset in
    let some = cuts.some in
    record {
      number = omega arith;
      row_number = omega arith;
      offset = omega arith;
      limit = cuts.limit;
      max = cuts.max ∙ moves.max;
    }

pub keeps-more : (work : Work) (most : Option ℕ) (f g : Feed) (now after : Told) (row : Row) (t : Tried) (c : Course)
    (s : State) (c1 : Course) (s1 : State) (out out1 err err1 : Kept) (next : Next)
    → work.plan.after_context < 2 ^ 32 → t.row ≡ row → Keeps f c s → Gives f g now after row
    → Takes work most t (progress c s (printed out err)) (progress c1 s1 (printed out1 err1)) next → Keeps g c1 s1
keeps-more work most f g now after row t c s c1 s1 out out1 err err1 next few is keeps gives takes =
    let grew = gave f g now after row gives in
    let number = grew.number in
    let row_number = grew.row_number in
    let offset = grew.offset in
    let limit = grew.limit in
    let max = grew.max in
    let had_max = keeps.max in
    let had_numbered = keeps.numbered in
    let had_number = keeps.number in
    let had_back = keeps.earlier in
    let had_context = keeps.context in
    let had_selected = keeps.selected in
    let same : t.row.number ≡ row.number = ap (λ (r : Row). r.number) is in
    let earlier = after-earlier work.plan work.show (course_of c) t in
    let count = after-count work.plan work.show (course_of c) t in
    let context = after-context work.plan work.show (course_of c) t (2 ^ 62) had_context (omega arith) in
    let back_is : length c1.earlier.rows ≡ length (course_after work.plan work.show (course_of c) t).earlier =
    ap (λ (d : course.Course). length d.earlier) takes.stands in
    let context_is : c1.context_to ≡ (course_after work.plan work.show (course_of c) t).context_to =
    ap (λ (d : course.Course). d.context_to) takes.stands in
    let count_is : c1.selected ≡ (course_after work.plan work.show (course_of c) t).selected =
    ap (λ (d : course.Course). d.selected) takes.stands in
    record {
      max = omega arith;
      numbered = omega arith;
      number = omega arith;
      earlier = omega arith;
      context = omega arith;
      selected = omega arith;
      errors = takes.errors;
    }
