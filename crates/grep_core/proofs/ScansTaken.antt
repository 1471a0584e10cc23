-- The lines that a scan has taken so far, and what one more does.
use Rattle.std.proofs.Common.{◌≡◌, ℕ, ◌+◌, ◌<◌, ◌≤◌, ◌||◌, ◌&&◌, Bool, true, false, cond, List, [], ◌∷◌, ◌++◌}
use Rattle.std.proofs.Common.{length, Option, None, Some, refl, sym, ap, subst, ◌∙◌, ⊎_elim, arith}
use Rattle.std.specs.Prelude.{flat_map, nat_le}
use Rattle.std.proofs.lemmas.Bool.{cases_Bool, cases_lt, cond-true, cond-false, le-leb, leb-true}
use Rattle.std.proofs.lemmas.List.{map-append}
use Rattle.pcre_io.specs.Told.{Told, Kept}
use Rattle.line_feed.specs.Rows.{Row}
use Rattle.line_feed.specs.View.{Feed}
use Rattle.line_feed.specs.Answers.{Gives}
use Rattle.line_feed.proofs.Given.{kind-gives, max-gives}
use Rattle.grep_args.specs.declared.plan.GrepPlan.{GrepPlan}
use Rattle.pat_tree.specs.Pattern.{Pattern}
use Rattle.grep_output.specs.declared.shows.Treatment.{Treatment}
use Rattle.grep_core.specs.declared.lines.Course.{Course}
use Rattle.grep_core.specs.declared.lines.Next.{Next}
use Rattle.grep_core.specs.declared.lines.Next.TheVariants.{Line, Context}
use Rattle.grep_output.specs.declared.state.State.{State}
use Rattle.grep_match.specs.PatternTexts.{line_end}
use Rattle.grep_match.specs.Matches.{Tried, tried_row, is_selected, has_error}
use Rattle.grep_output.specs.Scans.{Scan, IsBelow, rows_of, errors_left}
use Rattle.grep_output.specs.Messages.{error_message}
use Rattle.grep_output.specs.InputText.{shown_out, shows_group}
use Rattle.grep_output.specs.Course as course
use Rattle.grep_output.specs.Course.{AreNumbered, row_out, state_after_line, is_lines, scan_so_far}
use Rattle.grep_core.specs.Turns.{course_of, is_full, Takes}
use Rattle.grep_core.specs.Work.{Work, progress, fed, position}
use Rattle.grep_core.specs.Underway.{tries, Taken, Standing}
use Rattle.grep_core.specs.WholeScans.{Stood, StopsIn, left_by, Pauses}
use Rattle.tool_io.specs.Prints.{Wrote}
use Rattle.grep_output.proofs.ReachRows.{numbered-left}
use Rattle.grep_output.proofs.Reached.{Reached, reached-more, out-more, group-more}
use Rattle.grep_output.proofs.ScanEnds.{count, count-more, count-one, count-none}
use Rattle.grep_output.proofs.Extends.{error-unselected, said-more, number-of, numbered-first, still-below}
use Rattle.grep_output.specs.LittlePast.{bytes_in}
use Rattle.grep_core.proofs.ScansRows.{stood-gives, stood-begins, begins-numbered, whole-gives}
use Rattle.tool_io.proofs.Printing.{wrote-more}
use Rattle.tool_io.specs.Printed.{printed}

pub tries-more : (plan : GrepPlan) (patterns : List Pattern) (given more : List Row)
    → tries plan patterns (given ++ more) ≡ tries plan patterns given ++ tries plan patterns more
tries-more plan patterns given more = map-append (tried_row plan patterns) given more

pub rows-tried : (plan : GrepPlan) (patterns : List Pattern) (given : List Row)
    → rows_of (tries plan patterns given) ≡ given
rows-tried plan patterns [] = refl
rows-tried plan patterns (row ∷ given) = ap (λ l. row ∷ l) (rows-tried plan patterns given)

or_joined : (a b c : Bool) → (a || (b || c)) ≡ ((a || b) || c)
or_joined true b c = refl
or_joined false b c = refl

-- what a list of lines leaves
module _ (work : Work) (treated : Treatment) (s0 : State) where
  abbrev pub left_so : List Tried → State
  left_so ts = left_by work treated s0 (scan_so_far ts)

  pub errors-more : (ts : List Tried) (t : Tried) → s0.errors + count has_error (ts ++ t ∷ []) ≡ cond (has_error t)
      (s0.errors + count has_error ts + 1) (s0.errors + count has_error ts)
  errors-more ts t =
      let n = s0.errors + count has_error ts in
      let more = count-more has_error ts t in
      ⊎_elim
      (λ (e : has_error t ≡ true).
      let one = count-one has_error t e in
      let sum : s0.errors + count has_error (ts ++ t ∷ []) ≡ n + 1 = omega arith in
      sum ∙ sym (cond-true (has_error t) (n + 1) n e))
      (λ (e : has_error t ≡ false).
      let none = count-none has_error t e in
      let sum : s0.errors + count has_error (ts ++ t ∷ []) ≡ n = omega arith in
      sum ∙ sym (cond-false (has_error t) (n + 1) n e))
      (cases_Bool (has_error t))

  pub left-more : (ts : List Tried) (c : course.Course) (t : Tried) → Reached work.plan work.show ts c
      → AreNumbered 1 (rows_of (ts ++ t ∷ [])) → left_so (ts ++ t ∷ []) ≡ state_after_line work.plan work.show
      (left_so ts) t
  left-more ts c t reached numbered =
      let group = group-more work.plan work.name work.show ts c t reached (numbered-first ts (t ∷ []) numbered)
      (number-of ts t [] numbered) in
      let shown = ap (λ b. s0.has_shown || b) group ∙ or_joined s0.has_shown
      (shows_group work.plan work.name work.show (scan_so_far ts)) (is_selected work.plan t && is_lines work.show)
      in
      λ i. record s0 { errors = errors-more ts t i; has_shown = shown i }

  -- a scan that begins with them stops after them
  pub stops-in : {scan : Scan} {ts : List Tried} {c : Course} {s : State} {out0 out err0 err : Kept}
      (rest : List Tried) (selected : ℕ) → selected ≡ c.selected → scan.tried ≡ ts ++ rest
      → Taken work treated s0 ts c s out0 out err0 err → StopsIn work treated s0 scan selected s
  stops-in {scan} {ts} rest selected same begins taken = record {
    tried = ts;
    rest = rest;
    begins = begins;
    count = same ∙ taken.reached.selected;
    state = taken.state;
  }

  -- a line more that has a match error
  pub stops-error : {scan : Scan} (ts : List Tried) (t : Tried) {c : Course} {s : State} {out0 out err0 err : Kept}
      (rest : List Tried) (selected : ℕ) (s1 : State) → selected ≡ c.selected → scan.tried ≡ (ts ++ t ∷ []) ++ rest
      → Taken work treated s0 ts c s out0 out err0 err
      → AreNumbered 1 (rows_of (ts ++ t ∷ [])) → has_error t ≡ true → s1 ≡ state_after_line work.plan work.show s t
      → StopsIn work treated s0 scan selected s1
  stops-error {scan} ts t {c} rest selected s1 same begins taken numbered error state =
      let more = count-more (is_selected work.plan) ts t in
      let none = count-none (is_selected work.plan) t (error-unselected work.plan t error) in
      let had = taken.reached.selected in record {
        tried = ts ++ t ∷ [];
        rest = rest;
        begins = begins;
        count = let sum : selected ≡ count (is_selected work.plan) (ts ++ t ∷ []) = omega arith in sum;
        state = state ∙ ap (λ (x : State). state_after_line work.plan work.show x t) taken.state
            ∙ sym (left-more ts (course_of c) t taken.reached numbered);
      }

  module _ (most : Option ℕ) (ts : List Tried) (t : Tried) (c : Course) (s : State) (c1 : Course) (s1 : State)
      (out0 out out1 err0 err err1 : Kept) (next : Next) (taken : Taken work treated s0 ts c s out0 out err0 err)
      (numbered : AreNumbered 1 (rows_of (ts ++ t ∷ [])))
      (takes : Takes work most t (progress c s (printed out err)) (progress c1 s1 (printed out1 err1)) next) where
    first : AreNumbered 1 (rows_of ts)
    first = numbered-first ts (t ∷ []) numbered

    number : t.row.number ≡ length ts + 1
    number = number-of ts t [] numbered

    pub taken-line : Taken work treated s0 (ts ++ t ∷ []) c1 s1 out0 out1 err0 err1
    taken-line =
        let had : s.has_shown ≡ (s0.has_shown || shows_group work.plan work.name work.show (scan_so_far ts)) =
        ap (λ (x : State). x.has_shown) taken.state in
        let out_is : shown_out work.plan work.name work.show s0.has_shown (scan_so_far (ts ++ t ∷ [])) ≡ shown_out
        work.plan work.name work.show s0.has_shown (scan_so_far ts) ++ row_out work.plan work.name work.show
        s.has_shown (course_of c) t =
        out-more work.plan work.name work.show ts (course_of c) t taken.reached first number s0.has_shown
        ∙ ap (λ b. shown_out work.plan work.name work.show s0.has_shown (scan_so_far ts) ++ row_out work.plan
        work.name work.show b (course_of c) t) (sym had) in
        let err_is = said-more work.name ts t in
        let all = wrote-more (shown_out work.plan work.name work.show s0.has_shown (scan_so_far ts))
        (flat_map (error_message work.name) ts)
        (row_out work.plan work.name work.show s.has_shown (course_of c) t) (error_message work.name t)
        taken.wrote takes.wrote in record {
          reached = subst (λ (d : course.Course). Reached work.plan work.show (ts ++ t ∷ []) d) (sym takes.stands)
              (reached-more work.plan work.show ts (course_of c) t taken.reached first number);
          wrote = subst (λ l. Wrote l (flat_map (error_message work.name) (ts ++ t ∷ [])) (printed out0 err0)
              (printed out1 err1)) (sym out_is)
              (subst (λ l. Wrote (shown_out work.plan work.name work.show s0.has_shown (scan_so_far ts) ++ row_out
              work.plan work.name work.show s.has_shown (course_of c) t) l (printed out0 err0)
              (printed out1 err1)) (sym err_is) all);
          state = takes.state ∙ ap (λ (x : State). state_after_line work.plan work.show x t) taken.state
              ∙ sym (left-more ts (course_of c) t taken.reached numbered);
        }

    pub few-line : count has_error (ts ++ t ∷ []) < errors_left s0.errors
    few-line =
        let is : s1.errors ≡ s0.errors + count has_error (ts ++ t ∷ []) =
        ap (λ (x : State). x.errors) taken-line.state in
        let few = takes.errors in
        omega arith

    pub selected-line : c1.selected ≡ count (is_selected work.plan) (ts ++ t ∷ [])
    selected-line = taken-line.reached.selected

-- what the answer says
below-full : (most : Option ℕ) (n : ℕ) (next : Next) → next ≡ cond (is_full most n) Context Line → next ≡ Line
    → IsBelow most n
below-full None n next is line = tt
below-full (Some m) n next is line = ⊎_elim
    (λ (l : n < m). l)
    (λ (l : m ≤ n). let e : Context ≡ Line = sym (cond-true (nat_le m n) Context Line (le-leb m n l)) ∙ sym is
    ∙ line in absurd (cc))
    (cases_lt n m)

pub below-line : (plan : GrepPlan) (most : Option ℕ) (ts : List Tried) (t : Tried)
    → IsBelow most (count (is_selected plan) ts)
    → Line ≡ cond (is_selected plan t && is_full most (count (is_selected plan) (ts ++ t ∷ []))) Context Line
    → IsBelow most (count (is_selected plan) (ts ++ t ∷ []))
below-line plan most ts t below is =
    let n = count (is_selected plan) (ts ++ t ∷ []) in
    ⊎_elim
    (λ (e : is_selected plan t ≡ true). below-full most n Line
    (is ∙ ap (λ b. cond (b && is_full most n) Context Line) e) refl)
    (λ (e : is_selected plan t ≡ false). still-below plan most ts t e below)
    (cases_Bool (is_selected plan t))

last-full : (most : Option ℕ) (k n : ℕ) → n ≡ k + 1 → IsBelow most k → Context ≡ cond (is_full most n) Context Line
    → most ≡ Some (k + 1)
last-full None k n is below e = absurd (cc)
last-full (Some m) k n is below e = ⊎_elim
    (λ (f : nat_le m n ≡ true). let le = leb-true m n f in let same : m ≡ k + 1 = omega arith in ap Some same)
    (λ (f : nat_le m n ≡ false). let g : Context ≡ Line = e ∙ cond-false (nat_le m n) Context Line f in absurd (cc))
    (cases_Bool (nat_le m n))

pub last-line : (plan : GrepPlan) (most : Option ℕ) (ts : List Tried) (t : Tried)
    → IsBelow most (count (is_selected plan) ts)
    → Context ≡ cond (is_selected plan t && is_full most (count (is_selected plan) (ts ++ t ∷ []))) Context Line
    → (is_selected plan t ≡ true) × (most ≡ Some (count (is_selected plan) ts + 1))
last-line plan most ts t below is =
    let sel = is_selected plan in
    let n = count sel (ts ++ t ∷ []) in
    ⊎_elim
    (λ (e : sel t ≡ true).
    let one : n ≡ count sel ts + 1 = count-more sel ts t ∙ ap (λ k. count sel ts + k) (count-one sel t e) in
    (e, last-full most (count sel ts) n one below (is ∙ ap (λ b. cond (b && is_full most n) Context Line) e)))
    (λ (e : sel t ≡ false). let g : Context ≡ Line = is ∙ ap (λ b. cond (b && is_full most n) Context Line) e in
    absurd (cc))
    (cases_Bool (sel t))

-- How a scan stands after the rows that were given.
module _ (work : Work) (most : Option ℕ) (treated : Treatment) (s0 : State) where
  module _ (before now after : Told) (f g : Feed) (row : Row) (c : Course) (s : State) (c1 : Course) (s1 : State)
      (out0 out out1 err0 err err1 : Kept)
      (standing : Standing work most treated s0 before now f c s out0 out err0 err)
      (gives : Gives f g now after row) where
    abbrev ts : List Tried
    ts = tries work.plan work.patterns standing.given

    abbrev t : Tried
    t = tried_row work.plan work.patterns row

    abbrev more : List Row
    more = standing.given ++ row ∷ []

    pub next-stood : Stood work.plan treated before after g more
    next-stood = stood-gives work.plan treated before now after f g standing.given row standing.stood gives

    pub next-kind : g.kind ≡ line_end work.plan
    next-kind = kind-gives f g now after row gives ∙ standing.kind

    pub next-max : g.max ≡ work.plan.max_buffer_size
    next-max = max-gives f g now after row gives ∙ standing.max

    pub next-whole : g.offset ≡ bytes_in more
    next-whole = whole-gives now after f g standing.given row standing.whole gives

    pub same-tries : tries work.plan work.patterns more ≡ ts ++ t ∷ []
    same-tries = tries-more work.plan work.patterns standing.given (row ∷ [])

    pub next-numbered : AreNumbered 1 (rows_of (ts ++ t ∷ []))
    next-numbered =
        let begins = stood-begins work.plan treated before after g more next-kind next-max next-stood in
        let all = numbered-left 1 more begins.more (begins-numbered work.plan treated before after more begins) in
        subst (λ l. AreNumbered 1 l) (sym (rows-tried work.plan work.patterns more) ∙ ap rows_of same-tries) all

    pub standing-line : Takes work most t (progress c s (printed out err)) (progress c1 s1 (printed out1 err1)) Line
        → Standing work most treated s0 before after g c1 s1 out0 out1 err0 err1
    standing-line takes =
        let is = takes.answer ∙ ap (λ n. cond (is_selected work.plan t && is_full most n) Context Line)
        (selected-line work treated s0 most ts t c s c1 s1 out0 out out1 err0 err err1 Line standing.taken
        next-numbered takes) in record {
          given = more;
          stood = next-stood;
          kind = next-kind;
          max = next-max;
          whole = next-whole;
          near = gives.cuts.near;
          few = subst (λ l. count has_error l < errors_left s0.errors) (sym same-tries)
              (few-line work treated s0 most ts t c s c1 s1 out0 out out1 err0 err err1 Line standing.taken
              next-numbered takes);
          below = subst (λ l. IsBelow most (count (is_selected work.plan) l)) (sym same-tries)
              (below-line work.plan most ts t standing.below is);
          taken = subst (λ l. Taken work treated s0 l c1 s1 out0 out1 err0 err1) (sym same-tries)
              (taken-line work treated s0 most ts t c s c1 s1 out0 out out1 err0 err err1 Line standing.taken
              next-numbered takes);
        }

    pub line-given : (takes : Takes work most t (progress c s (printed out err)) (progress c1 s1 (printed out1 err1))
        Line) → (standing-line takes).given ≡ more
    unfolding standing-line
    line-given takes = refl

    pub standing-pauses : (f0 : Feed) (c0 : Course) → Takes work most t (progress c s (printed out err))
        (progress c1 s1 (printed out1 err1)) Context → Pauses work most treated
        (position (fed f0 before) (progress c0 s0 (printed out0 err0)))
        (position (fed g after) (progress c1 s1 (printed out1 err1)))
    standing-pauses f0 c0 takes =
        let is = takes.answer ∙ ap (λ n. cond (is_selected work.plan t && is_full most n) Context Line)
        (selected-line work treated s0 most ts t c s c1 s1 out0 out out1 err0 err err1 Context standing.taken
        next-numbered takes) in
        let last = last-line work.plan most ts t standing.below is in
        let taken = subst (λ l. Taken work treated s0 l c1 s1 out0 out1 err0 err1) (sym same-tries)
        (taken-line work treated s0 most ts t c s c1 s1 out0 out out1 err0 err err1 Context standing.taken
        next-numbered takes) in record {
          rows = standing.given;
          row = row;
          stood = next-stood;
          kind = next-kind;
          max = next-max;
          near = gives.cuts.near;
          whole = next-whole;
          few = takes.errors;
          last = last.1;
          selects = last.0;
          scans = record { wrote = taken.wrote; count = taken.reached.selected; state = taken.state };
        }
