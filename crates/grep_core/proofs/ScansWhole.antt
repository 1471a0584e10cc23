-- A scan that ends early: its lines, and the rows that follow them as context.
use Rattle.std.proofs.Common.{◌≡◌, ℕ, ◌+◌, ◌-◌, ◌<◌, ◌≤◌, ◌||◌, ◌&&◌, true, false, List, [], ◌∷◌, ◌++◌, length, take}
use Rattle.std.proofs.Common.{Option, Result, Ok, Err, refl, sym, ap, subst, ◌∙◌, arith, append_assoc, append-nil}
use Rattle.std.proofs.Common.{length-append}
use Rattle.std.specs.Prelude.{filter, flat_map, nat_lt, nat_le}
use Rattle.std.proofs.lemmas.Bool.{cond-true, cond-false, le-leb, lt-leb, lt-ltb, ltb-true, or_right}
use Rattle.std.proofs.lemmas.List.{length-map, take_all}
use Rattle.std.proofs.lemmas.List.Elements.{filter-append}
use Rattle.std.proofs.lemmas.List.Concat.{flat_map-append}
use Rattle.std.proofs.Math.Seq.{take-append_seam, take-append-add}
use Rattle.pcre_io.specs.Told.{Told, Kept}
use Rattle.line_feed.specs.Rows.{Row, Finish, At, End, rows_with}
use Rattle.line_feed.specs.View.{Feed}
use Rattle.grep_output.specs.LittlePast.{TakesLittlePast}
use Rattle.grep_args.specs.declared.plan.GrepPlan.{GrepPlan}
use Rattle.grep_output.specs.declared.shows.Show.{Show}
use Rattle.grep_output.specs.declared.shows.Show.TheVariants as show
use Rattle.grep_output.specs.declared.shows.Treatment.{Treatment}
use Rattle.grep_output.specs.declared.ended.Ended.{Ended}
use Rattle.grep_output.specs.declared.ended.Ended.TheVariants as told
use Rattle.grep_output.specs.declared.ended.Stop.{Stop}
use Rattle.grep_output.specs.declared.ended.Stop.TheVariants.{SinkFault, TooManyErrors, Memory}
use Rattle.grep_output.specs.declared.state.State.{State}
use Rattle.grep_output.specs.Lines.{lines}
use Rattle.grep_output.specs.Shows.{lines_after}
use Rattle.grep_match.specs.Matches.{Tried, tried_row, is_selected, has_error}
use Rattle.grep_output.specs.Scans.{Scan, rows_of, errors_left, early_scan, early, at_finish, errors_in}
use Rattle.grep_output.specs.Context.{is_shown, shown_row, shown_lines}
use Rattle.grep_output.specs.Messages.{error_message}
use Rattle.grep_output.specs.InputText.{shown_out, shows_group}
use Rattle.grep_output.specs.Course as course
use Rattle.grep_output.specs.Course.{AreNumbered, line_as, scan_so_far, begun, course_after}
use Rattle.tool_io.specs.Prints.{Wrote, Breaks}
use Rattle.tool_io.specs.Writes.{WritesAll}
use Rattle.grep_core.specs.Turns.{Halts}
use Rattle.grep_output.specs.Refused.{GrewBy}
use Rattle.grep_core.specs.declared.lines.Course.{Course}
use Rattle.grep_core.specs.Work.{Work, progress, fed, position, standing}
use Rattle.grep_core.specs.WholeScans.{Scans, StopsIn, StopsSoon, ScansTo, ScansInput, scan_of, left_by, IsJob, Pauses}
use Rattle.grep_core.specs.Follows.{past, FollowsAll, FollowsSome, FollowsPart, Follows}
use Rattle.grep_output.proofs.Reached.{Reached, reached-begun, reached-more, group-more}
use Rattle.grep_output.proofs.ScanEnds.{count, early-tried, early-within}
use Rattle.grep_output.proofs.Extends.{LastSelected, follow_out, early-is, early_out, number-of, numbered-first}
use Rattle.grep_output.proofs.Extends.{TextsBegin}
use Rattle.grep_core.proofs.ScansRows.{ends-numbered}
use Rattle.grep_core.proofs.ScansTexts.{wrote-out, breaks-out, breaks-ext, grew-then}
use Rattle.grep_core.specs.Underway.{tries}
use Rattle.grep_core.proofs.ScansTaken.{tries-more, rows-tried}
use Rattle.grep_core.proofs.Resting.{little-more}
use Rattle.grep_core.proofs.ScansEnd.{full_of, scan-is, begins-scan, begins-tried, ends-scan, rest-late}
use Rattle.tool_io.specs.Printed.{printed}

-- some course is reached by any lines
reach-from : (plan : GrepPlan) (shows : Show) (vs us : List Tried) (c : course.Course) → Reached plan shows us c
    → AreNumbered 1 (rows_of (us ++ vs)) → (d : course.Course) × Reached plan shows (us ++ vs) d
reach-from plan shows [] us c reached numbered = (c, subst (λ l. Reached plan shows l c) (sym (append-nil us)) reached)
reach-from plan shows (v ∷ vs) us c reached numbered =
    let same = append_assoc us (v ∷ []) vs in
    let moved = subst (λ l. AreNumbered 1 (rows_of l)) (sym same) numbered in
    let more = reach-from plan shows vs (us ++ v ∷ []) (course_after plan shows c v)
    (reached-more plan shows us c v reached (numbered-first us (v ∷ vs) numbered) (number-of us v vs numbered))
    moved in
    (more.0, subst (λ l. Reached plan shows l more.0) same more.1)

pub reach-all : (plan : GrepPlan) (shows : Show) (us : List Tried) → AreNumbered 1 (rows_of us)
    → (d : course.Course) × Reached plan shows us d
reach-all plan shows us numbered = reach-from plan shows us [] begun (reached-begun plan shows) numbered

-- what is written of rows that follow
no-rows : (fs : List Row) → length fs ≤ 0 → fs ≡ []
no-rows [] few = refl
no-rows (f ∷ fs) few = absurd (omega arith)

follow-texts : (plan : GrepPlan) (name : List ℕ) (shows : Show) (fs : List Row)
    → length fs ≤ lines_after shows plan.after_context
    → follow_out plan name shows fs ≡ flat_map (line_as plan name false) fs
follow-texts plan name show.Lines fs few = refl
follow-texts plan name show.Parts fs few = ap (λ l. flat_map (line_as plan name false) l) (sym (no-rows fs few))
follow-texts plan name show.Nothing fs few = ap (λ l. flat_map (line_as plan name false) l) (sym (no-rows fs few))

follow-begins : (plan : GrepPlan) (name : List ℕ) (shows : Show) (fs more : List Row)
    → length fs ≤ lines_after shows plan.after_context
    → (rest : List ℕ) × (follow_out plan name shows (take (lines_after shows plan.after_context) (fs ++ more))
    ≡ flat_map (line_as plan name false) fs ++ rest)
follow-begins plan name show.Lines fs more few =
    let n = plan.after_context in
    let text = flat_map (line_as plan name false) in
    let m = n - length fs in
    let split : n ≡ length fs + m = omega arith in (
      text (take m more),
      ap (λ k. text (take k (fs ++ more))) split ∙ ap text (take-append-add fs more m)
          ∙ flat_map-append (line_as plan name false) fs (take m more),
    )
follow-begins plan name show.Parts fs more few =
    ([], ap (λ l. flat_map (line_as plan name false) l ++ []) (sym (no-rows fs few)))
follow-begins plan name show.Nothing fs more few =
    ([], ap (λ l. flat_map (line_as plan name false) l ++ []) (sym (no-rows fs few)))

-- whether a group is shown
early-group : (plan : GrepPlan) (name : List ℕ) (shows : Show) (finish : Finish) (us : List Tried) (t : Tried)
    (vs : List Tried) (c : course.Course) → Reached plan shows us c → AreNumbered 1 (rows_of (us ++ t ∷ vs))
    → is_selected plan t ≡ true
    → shows_group plan name shows (early_scan (us ++ t ∷ vs) finish (length us)
    (lines_after shows plan.after_context)) ≡ shows_group plan name shows (scan_so_far (us ++ t ∷ []))
early-group plan name show.Lines finish us t vs c reached numbered e =
    let n = plan.after_context in
    let sel = rows_of (filter (is_selected plan) (us ++ t ∷ [])) in
    let rows = rows_of (us ++ t ∷ []) in
    let fs = take n (rows_of vs) in
    let p = is_shown plan sel in
    let group : nat_lt 0 (length (shown_lines plan sel rows)) ≡ true =
    group-more plan name show.Lines us c t reached (numbered-first us (t ∷ vs) numbered) (number-of us t vs numbered)
    ∙ or_right (shows_group plan name show.Lines (scan_so_far us)) (is_selected plan t && true)
    (ap (λ b. b && true) e) in
    let some = ltb-true 0 (length (shown_lines plan sel rows)) group in
    let size = length-map (filter p rows) (shown_row sel (filter p rows)) in
    let more = length-map (filter p (rows ++ fs)) (shown_row sel (filter p (rows ++ fs))) in
    let parts = ap length (filter-append p rows fs) in
    let sum = length-append (filter p rows) (filter p fs) in
    let some_more : 0 < length (shown_lines plan sel (rows ++ fs)) = omega arith in
    (λ i. nat_lt 0
    (length (shown_lines plan (rows_of (filter (is_selected plan) (early-tried us t vs i)))
    (early-within us t vs n i))))
    ∙ lt-ltb 0 (length (shown_lines plan sel (rows ++ fs))) some_more ∙ sym group
early-group plan name show.Parts finish us t vs c reached numbered e = refl
early-group plan name show.Nothing finish us t vs c reached numbered e = refl

module _ (work : Work) (most : Option ℕ) (treated : Treatment) (s0 : State) (f0 : Feed)
    (job : IsJob work.plan treated work.show most f0)
    (before mid : Told) (g : Feed) (c0 c1 : Course) (s1 : State) (out0 out err0 err : Kept)
    (pauses : Pauses work most treated (position (fed f0 before) (progress c0 s0 (printed out0 err0)))
    (position (fed g mid) (progress c1 s1 (printed out err)))) where
  abbrev us : List Tried
  us = tries work.plan work.patterns pauses.rows

  abbrev t : Tried
  t = tried_row work.plan work.patterns pauses.row

  abbrev given : List Row
  given = pauses.rows ++ pauses.row ∷ []

  abbrev after_n : ℕ
  after_n = lines_after work.show work.plan.after_context

  given-tries : tries work.plan work.patterns given ≡ us ++ t ∷ []
  given-tries = tries-more work.plan work.patterns pauses.rows (pauses.row ∷ [])

  given-rows : rows_of (us ++ t ∷ []) ≡ given
  given-rows = ap rows_of (sym given-tries) ∙ rows-tried work.plan work.patterns given

  errors-are : s1.errors ≡ s0.errors + count has_error (us ++ t ∷ [])
  errors-are = ap (λ (x : State). x.errors) pauses.scans.state ∙ ap (λ l. s0.errors + count has_error l) given-tries

  last-selected : LastSelected work.plan work.show (errors_left s0.errors) most us t
  last-selected =
      let few = pauses.few in
      let are = errors-are in record {
        few = omega arith;
        most_is = pauses.last;
        selected = pauses.selects;
      }

  wrote-so : Wrote (shown_out work.plan work.name work.show s0.has_shown (scan_so_far (us ++ t ∷ [])))
      (flat_map (error_message work.name) (us ++ t ∷ [])) (printed out0 err0) (printed out err)
  wrote-so = subst (λ l. Wrote (shown_out work.plan work.name work.show s0.has_shown (scan_so_far l))
      (flat_map (error_message work.name) l) (printed out0 err0) (printed out err)) given-tries pauses.scans.wrote

  module _ (vs : List Tried) (finish : Finish) (numbered : AreNumbered 1 (rows_of (us ++ t ∷ vs))) (out1 : Kept) where
    abbrev early_of : Scan
    early_of = early_scan (us ++ t ∷ vs) finish (length us) after_n

    is-early : full_of work most treated s0 finish (us ++ t ∷ vs) ≡ early_of
    is-early = early-is work.plan work.name work.show s0.has_shown (errors_left s0.errors) most finish us t vs
        last-selected

    reached-us : (c : course.Course) × Reached work.plan work.show us c
    reached-us = reach-all work.plan work.show us (numbered-first us (t ∷ vs) numbered)

    out-is : shown_out work.plan work.name work.show s0.has_shown early_of ≡ shown_out work.plan work.name work.show
        s0.has_shown (scan_so_far (us ++ t ∷ [])) ++ follow_out work.plan work.name work.show
        (take after_n (rows_of vs))
    out-is =
        let c = reached-us.0 in
        let reached = reached-more work.plan work.show us c t reached-us.1 (numbered-first us (t ∷ vs) numbered)
        (number-of us t vs numbered) in
        early_out work.plan work.name work.show s0.has_shown finish us (course_after work.plan work.show c t) t vs
        reached pauses.selects numbered

    said-is : flat_map (error_message work.name) early_of.tried ≡ flat_map (error_message work.name) (us ++ t ∷ [])
    said-is = ap (λ l. flat_map (error_message work.name) l) (early-tried us t vs)

    early-scans : (text : List ℕ) → follow_out work.plan work.name work.show (take after_n (rows_of vs)) ≡ text
        → WritesAll text out out1 → Scans work treated s0 early_of c1.selected s1 (printed out0 err0)
        (printed out1 err)
    early-scans text is writes =
        let a = shown_out work.plan work.name work.show s0.has_shown (scan_so_far (us ++ t ∷ [])) in
        let b = flat_map (error_message work.name) (us ++ t ∷ []) in
        let all = wrote-out a b text out0 out out1 err0 err wrote-so writes in
        let whole : a ++ text ≡ shown_out work.plan work.name work.show s0.has_shown early_of =
        ap (λ l. a ++ l) (sym is) ∙ sym out-is in
        let tried : tries work.plan work.patterns given ≡ early_of.tried = given-tries ∙ sym (early-tried us t vs) in
        let errors : s0.errors + count has_error (tries work.plan work.patterns given) ≡ s0.errors + length
        (errors_in early_of) = ap (λ l. s0.errors + count has_error l) tried in
        let group : shows_group work.plan work.name work.show (scan_so_far (tries work.plan work.patterns given))
        ≡ shows_group work.plan work.name work.show early_of =
        ap (λ l. shows_group work.plan work.name work.show (scan_so_far l)) given-tries
        ∙ sym (early-group work.plan work.name work.show finish us t vs reached-us.0 reached-us.1 numbered
        pauses.selects) in record {
          wrote = subst (λ l. Wrote l (flat_map (error_message work.name) early_of.tried) (printed out0 err0)
              (printed out1 err)) whole (subst (λ l. Wrote (a ++ text) l (printed out0 err0) (printed out1 err))
              (sym said-is) all);
          count = pauses.scans.count ∙ ap (λ l. count (is_selected work.plan) l) tried;
          state = pauses.scans.state ∙ (λ i. record s0 { errors = errors i; has_shown = s0.has_shown || group i });
        }

    early-breaks : (text rest : List ℕ) (stop : Stop) → follow_out work.plan work.name work.show
        (take after_n (rows_of vs)) ≡ text ++ rest → Halts text out out1 stop
        → Breaks (shown_out work.plan work.name work.show s0.has_shown early_of)
        (flat_map (error_message work.name) early_of.tried) (printed out0 err0) (printed out1 err)
        (stop ≡ SinkFault) × StopsIn work treated s0 early_of c1.selected s1
    early-breaks text rest stop is halts =
        let a = shown_out work.plan work.name work.show s0.has_shown (scan_so_far (us ++ t ∷ [])) in
        let b = flat_map (error_message work.name) (us ++ t ∷ []) in
        let begins : early_of.tried ≡ (us ++ t ∷ []) ++ [] = early-tried us t vs ∙ sym (append-nil (us ++ t ∷ [])) in
        let ext : TextsBegin work.plan work.name work.show s0.has_shown early_of (a ++ text) (us ++ t ∷ []) = record {
          rest_out = rest;
          rest = [];
          out_is = out-is ∙ ap (λ l. a ++ l) is ∙ sym (append_assoc a text rest);
          tried_is = begins;
        } in (
          breaks-ext work.plan work.name work.show s0.has_shown early_of (a ++ text) (us ++ t ∷ []) out0 out1 err0 err
              stop ext (breaks-out a b text out0 out out1 err0 err wrote-so stop halts),
          record {
            tried = us ++ t ∷ [];
            rest = [];
            begins = begins;
            count = pauses.scans.count ∙ ap (λ l. count (is_selected work.plan) l) given-tries;
            state = pauses.scans.state ∙ ap (λ l. left_by work treated s0 (scan_so_far l)) given-tries;
          },
        )

    long-tries : length (us ++ t ∷ vs) ≡ length us + 1 + length vs
    long-tries =
        let sum = length-append us (t ∷ vs) in
        omega arith

    ended-early : after_n ≤ length vs → early_of.ended ≡ early
    ended-early enough =
        let long = long-tries in
        cond-true (nat_le (length us + 1 + after_n) (length (us ++ t ∷ vs))) early (at_finish finish)
        (le-leb (length us + 1 + after_n) (length (us ++ t ∷ vs)) (omega arith))

    ended-late : length vs < after_n → early_of.ended ≡ at_finish finish
    ended-late few =
        let long = long-tries in
        cond-false (nat_le (length us + 1 + after_n) (length (us ++ t ∷ vs))) early (at_finish finish)
        (lt-leb (length us + 1 + after_n) (length (us ++ t ∷ vs)) (omega arith))

  abbrev Input : Told → Kept → Result Ended Stop → Type 0
  Input after out1 result = ScansInput work treated (standing before s0 (printed out0 err0))
      (standing after s1 (printed out1 err)) c1.selected result

  begins-all : (fs more : List Row) → tries work.plan work.patterns (given ++ fs) ++ tries work.plan work.patterns
      more ≡ us ++ t ∷ (tries work.plan work.patterns fs ++ tries work.plan work.patterns more)
  begins-all fs more =
      ap (λ l. l ++ tries work.plan work.patterns more) (tries-more work.plan work.patterns given fs
      ∙ ap (λ l. l ++ tries work.plan work.patterns fs) given-tries)
      ∙ append_assoc (us ++ t ∷ []) (tries work.plan work.patterns fs) (tries work.plan work.patterns more)
      ∙ append_assoc us (t ∷ []) (tries work.plan work.patterns fs ++ tries work.plan work.patterns more)

  rows-all : (fs more : List Row) → rows_of (tries work.plan work.patterns fs ++ tries work.plan work.patterns more)
      ≡ fs ++ more
  rows-all fs more = ap rows_of (sym (tries-more work.plan work.patterns fs more))
      ∙ rows-tried work.plan work.patterns (fs ++ more)

  long-rows : (fs : List Row) → length (tries work.plan work.patterns fs) ≡ length fs
  long-rows fs = length-map fs (tried_row work.plan work.patterns)

  -- all the rows that may follow were shown
  pub scans-early : (after : Told) (out1 : Kept) → FollowsAll work (past before treated given) after out out1
      → Input after out1 (Ok told.Early)
  scans-early after out1 follows =
      let fs = follows.rows in
      let begins = follows.begins in
      let vs = tries work.plan work.patterns fs ++ tries work.plan work.patterns begins.more in
      let finish = (lines work.plan begins.heard).finish in
      let numbered = subst (λ l. AreNumbered 1 (rows_of l)) (begins-all fs begins.more)
      (begins-tried work most treated s0 f0 job before after (given ++ fs) begins) in
      let is = begins-scan work most treated s0 f0 job before after (given ++ fs) begins
      ∙ ap (λ l. full_of work most treated s0 finish l) (begins-all fs begins.more)
      ∙ is-early vs finish numbered out1 in
      let long = follows.long in
      let first : take after_n (rows_of vs) ≡ fs = (λ i. take (sym long i) (rows-all fs begins.more i))
      ∙ take-append_seam fs begins.more in
      let text = ap (λ l. follow_out work.plan work.name work.show l) first
      ∙ follow-texts work.plan work.name work.show fs (omega arith) in
      let sum = length-append (tries work.plan work.patterns fs) (tries work.plan work.patterns begins.more) in
      let long_rows = long-rows fs in
      record {
        heard = begins.heard;
        hears = begins.hears;
        treats = begins.treats;
        scans = subst (λ x. ScansTo work treated s0 x c1.selected s1 (printed out0 err0) (printed out1 err)
            (Ok told.Early)) (sym is) (
              early-scans vs finish numbered out1 (flat_map (line_as work.plan work.name false) fs) text follows.wrote,
              ended-early vs finish numbered out1 (omega arith),
            );
        rest = λ _. subst (λ l. TakesLittlePast l before after)
            (sym (ap (λ (x : Scan). x.within) is ∙ early-within us t vs after_n ∙ (λ i. given-rows i ++ first i)))
            follows.little;
        refused = tt;
      }

  -- the rows ended before
  scans-some : (after : Told) (out1 : Kept) (ended : Ended)
      → FollowsSome work (past before treated given) after out out1 ended → Input after out1 (Ok ended)
  scans-some after out1 ended follows =
      let fs = follows.rows in
      let ends = follows.ends in
      let vs = tries work.plan work.patterns fs in
      let all : tries work.plan work.patterns (given ++ fs) ≡ us ++ t ∷ vs =
      tries-more work.plan work.patterns given fs ∙ ap (λ l. l ++ vs) given-tries ∙ append_assoc us (t ∷ []) vs in
      let numbered = subst (λ l. AreNumbered 1 l) (sym (rows-tried work.plan work.patterns (given ++ fs))
      ∙ ap rows_of all) (ends-numbered work.plan treated before after (given ++ fs) ended ends) in
      let is = ends-scan work most treated s0 f0 job before after (given ++ fs) ended ends
      ∙ ap (λ l. full_of work most treated s0 ends.finish l) all ∙ is-early vs ends.finish numbered out1 in
      let long = follows.long in
      let first : take after_n (rows_of vs) ≡ fs = ap (λ l. take after_n l) (rows-tried work.plan work.patterns fs)
      ∙ take_all after_n fs (omega arith) in
      let text = ap (λ l. follow_out work.plan work.name work.show l) first
      ∙ follow-texts work.plan work.name work.show fs (omega arith) in
      let long_rows = long-rows fs in
      record {
        heard = ends.heard;
        hears = ends.hears;
        treats = ends.treats;
        scans = subst (λ x. ScansTo work treated s0 x c1.selected s1 (printed out0 err0) (printed out1 err)
            (Ok ended)) (sym is) (
              early-scans vs ends.finish numbered out1 (flat_map (line_as work.plan work.name false) fs) text
                  follows.wrote,
              ended-late vs ends.finish numbered out1 (omega arith) ∙ sym ends.ended_so,
            );
        rest = rest-late (scan_of work treated s0 (lines work.plan ends.heard)) ends.finish before after ended
            (ap (λ (x : Scan). x.ended) is ∙ ended-late vs ends.finish numbered out1 (omega arith));
        refused = tt;
      }

  -- a part of what follows was written
  part-breaks : (after : Told) (out1 : Kept) (stop : Stop)
      (follows : FollowsPart work (past before treated given) after out out1 stop) → let x : Scan =
      scan_of work treated s0 (lines work.plan follows.begins.heard) in
      Breaks (shown_out work.plan work.name work.show s0.has_shown x) (flat_map (error_message work.name) x.tried)
      (printed out0 err0) (printed out1 err) (stop ≡ SinkFault) × StopsIn work treated s0 x c1.selected s1
  part-breaks after out1 stop follows =
      let fs = follows.rows in
      let begins = follows.begins in
      let vs = tries work.plan work.patterns fs ++ tries work.plan work.patterns begins.more in
      let finish = (lines work.plan begins.heard).finish in
      let numbered = subst (λ l. AreNumbered 1 (rows_of l)) (begins-all fs begins.more)
      (begins-tried work most treated s0 f0 job before after (given ++ fs) begins) in
      let is = begins-scan work most treated s0 f0 job before after (given ++ fs) begins
      ∙ ap (λ l. full_of work most treated s0 finish l) (begins-all fs begins.more)
      ∙ is-early vs finish numbered out1 in
      let part = follow-begins work.plan work.name work.show fs begins.more follows.long in
      let text = ap (λ l. follow_out work.plan work.name work.show (take after_n l)) (rows-all fs begins.more)
      ∙ part.1 in
      subst (λ (x : Scan). Breaks (shown_out work.plan work.name work.show s0.has_shown x)
      (flat_map (error_message work.name) x.tried) (printed out0 err0) (printed out1 err) (stop ≡ SinkFault)
      × StopsIn work treated s0 x c1.selected s1) (sym is)
      (early-breaks vs finish numbered out1 (flat_map (line_as work.plan work.name false) fs) part.0 stop text
      follows.wrote)

  -- what is shown of the first of them was written
  part-soon : (after : Told) (out1 : Kept) (follows : FollowsPart work (past before treated given) after out out1
      SinkFault) → StopsSoon work treated s0 (lines work.plan follows.begins.heard) before after out0 out1
  part-soon after out1 follows =
      let soon = follows.soon refl in
      let whole = soon.whole in
      let begins = follows.begins in
      let vs = tries work.plan work.patterns whole in
      let numbered_all = subst (λ l. AreNumbered 1 (rows_of l)) (begins-all follows.rows begins.more)
      (begins-tried work most treated s0 f0 job before after (given ++ follows.rows) begins) in
      let parted : tries work.plan work.patterns follows.rows ++ tries work.plan work.patterns begins.more ≡ vs
      ++ (tries work.plan work.patterns soon.next ++ tries work.plan work.patterns begins.more) =
      ap (λ l. tries work.plan work.patterns l ++ tries work.plan work.patterns begins.more) soon.parts
      ∙ ap (λ l. l ++ tries work.plan work.patterns begins.more)
      (tries-more work.plan work.patterns whole soon.next)
      ∙ append_assoc vs (tries work.plan work.patterns soon.next) (tries work.plan work.patterns begins.more) in
      let numbered = numbered-first (us ++ t ∷ vs)
      (tries work.plan work.patterns soon.next ++ tries work.plan work.patterns begins.more)
      (subst (λ l. AreNumbered 1 (rows_of l)) (ap (λ l. us ++ t ∷ l) parted
      ∙ sym (append_assoc us (t ∷ vs) (tries work.plan work.patterns soon.next ++ tries work.plan
      work.patterns begins.more))) numbered_all) in
      let all : tries work.plan work.patterns (given ++ whole) ≡ us ++ t ∷ vs =
      tries-more work.plan work.patterns given whole ∙ ap (λ l. l ++ vs) given-tries
      ∙ append_assoc us (t ∷ []) vs in
      let is = scan-is work most treated s0 job.show_is job.most_is (rows_with (given ++ whole) (At End))
      ∙ ap (λ l. full_of work most treated s0 (At End) l) all ∙ is-early vs (At End) numbered out1 in
      let size = ap length soon.parts in
      let sum = length-append whole soon.next in
      let most_rows = follows.long in
      let first : take after_n (rows_of vs) ≡ whole = ap (λ l. take after_n l)
      (rows-tried work.plan work.patterns whole) ∙ take_all after_n whole (omega arith) in
      let text = ap (λ l. follow_out work.plan work.name work.show l) first
      ∙ follow-texts work.plan work.name work.show whole (omega arith) in
      let a = shown_out work.plan work.name work.show s0.has_shown (scan_so_far (us ++ t ∷ [])) in
      let b = flat_map (line_as work.plan work.name false) whole in
      let shown : a ++ b ≡ shown_out work.plan work.name work.show s0.has_shown
      (scan_of work treated s0 (rows_with (given ++ whole) (At End))) =
      ap (λ l. a ++ l) (sym text) ∙ sym (out-is vs (At End) numbered out1)
      ∙ ap (λ x. shown_out work.plan work.name work.show s0.has_shown x) (sym is) in
      record {
        given = given ++ whole;
        next = soon.next;
        more = begins.more;
        all = begins.all ∙ ap (λ l. l ++ begins.more) (ap (λ l. given ++ l) soon.parts
            ∙ sym (append_assoc given whole soon.next));
        one = soon.one;
        grew = subst (λ l. GrewBy l out0 out1) shown
            (grew-then a b out0.held out.held out1.held wrote-so.out soon.grew);
        little = subst (λ l. TakesLittlePast l before after) (ap (λ l. given ++ l) soon.parts
            ∙ sym (append_assoc given whole soon.next)) soon.little;
        below = λ none. let some = follows.some in absurd (omega arith);
      }

  -- little past the lines that the scan has within it was taken
  part-rest : (after : Told) (out1 : Kept) (follows : FollowsPart work (past before treated given) after out out1
      SinkFault) → let x : Scan = scan_of work treated s0 (lines work.plan follows.begins.heard) in
      x.ended ≡ early → TakesLittlePast x.within before after
  part-rest after out1 follows =
      let fs = follows.rows in
      let begins = follows.begins in
      let vs = tries work.plan work.patterns fs ++ tries work.plan work.patterns begins.more in
      let finish = (lines work.plan begins.heard).finish in
      let numbered = subst (λ l. AreNumbered 1 (rows_of l)) (begins-all fs begins.more)
      (begins-tried work most treated s0 f0 job before after (given ++ fs) begins) in
      let is = begins-scan work most treated s0 f0 job before after (given ++ fs) begins
      ∙ ap (λ l. full_of work most treated s0 finish l) (begins-all fs begins.more)
      ∙ is-early vs finish numbered out1 in
      let few = follows.long in
      let m = after_n - length fs in
      let split : after_n ≡ length fs + m = omega arith in
      let first : take after_n (rows_of vs) ≡ fs ++ take m begins.more =
      (λ i. take (split i) (rows-all fs begins.more i)) ∙ take-append-add fs begins.more m in
      let within = ap (λ (x : Scan). x.within) is ∙ early-within us t vs after_n ∙ (λ i. given-rows i ++ first i)
      ∙ sym (append_assoc given fs (take m begins.more)) in
      λ _. subst (λ l. TakesLittlePast l before after) (sym within)
      (little-more (given ++ fs) (take m begins.more) before after (follows.soon refl).little)

  scans-part : (after : Told) (out1 : Kept) (stop : Stop)
      → FollowsPart work (past before treated given) after out out1 stop → Input after out1 (Err stop)
  scans-part after out1 SinkFault follows = record {
    heard = follows.begins.heard;
    hears = follows.begins.hears;
    treats = follows.begins.treats;
    scans = part-breaks after out1 SinkFault follows;
    rest = part-rest after out1 follows;
    refused = part-soon after out1 follows;
  }
  scans-part after out1 Memory follows = record {
    heard = follows.begins.heard;
    hears = follows.begins.hears;
    treats = follows.begins.treats;
    scans = part-breaks after out1 Memory follows;
    rest = tt;
    refused = tt;
  }
  scans-part after out1 TooManyErrors follows = absurd follows.wrote

  pub scans-follow : (after : Told) (out1 : Kept) (result : Result Ended Stop)
      → Follows work (past before treated given) after out out1 result → Input after out1 result
  scans-follow after out1 (Ok told.End) follows = scans-some after out1 told.End follows
  scans-follow after out1 (Ok told.Early) follows = scans-early after out1 follows
  scans-follow after out1 (Ok told.ReadFault) follows = scans-some after out1 told.ReadFault follows
  scans-follow after out1 (Ok (told.TooLong line)) follows = scans-some after out1 (told.TooLong line) follows
  scans-follow after out1 (Ok told.TooMuch) follows = scans-some after out1 told.TooMuch follows
  scans-follow after out1 (Err stop) follows = scans-part after out1 stop follows
