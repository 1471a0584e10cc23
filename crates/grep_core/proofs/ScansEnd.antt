-- How a scan ends among its lines, or where they end.
use Rattle.std.proofs.Common.{◌≡◌, ◌≢◌, ℕ, ◌+◌, ◌<◌, ◌==◌, ◌||◌, ◌&&◌, Bool, true, false, cond, List, [], ◌∷◌, ◌++◌}
use Rattle.std.proofs.Common.{length, Option, Result, Ok, Err, refl, sym, ap, subst, ◌∙◌, ⊎_elim, inl, inr, arith}
use Rattle.std.proofs.Common.{append_assoc, append-nil}
use Rattle.std.specs.Prelude.{filter, flat_map, nat_lt}
use Rattle.std.proofs.lemmas.Bool.{cases_Bool, cond-true, cond-false, eqb-true, eqb-false, false≢true}
use Rattle.pcre_io.specs.Told.{Told, Kept}
use Rattle.line_feed.specs.Rows.{Row, Rows, Finish, At, Long, End, Fault, Limit, rows_with}
use Rattle.line_feed.specs.View.{Feed}
use Rattle.line_feed.specs.Answers.{Gives, Refuses}
use Rattle.line_feed.specs.declared.phase.FeedError.TheVariants as feed
use Rattle.grep_args.specs.declared.plan.GrepPlan.{GrepPlan}
use Rattle.grep_output.specs.declared.shows.Show.{Show}
use Rattle.grep_output.specs.declared.shows.Show.TheVariants as show
use Rattle.grep_output.specs.declared.shows.Treatment.{Treatment}
use Rattle.grep_output.specs.declared.ended.Ended.{Ended}
use Rattle.grep_output.specs.declared.ended.Ended.TheVariants as told
use Rattle.grep_output.specs.declared.ended.Stop.{Stop}
use Rattle.grep_output.specs.declared.ended.Stop.TheVariants.{SinkFault, TooManyErrors, Memory}
use Rattle.grep_core.specs.declared.lines.Course.{Course}
use Rattle.grep_output.specs.declared.state.State.{State}
use Rattle.grep_match.specs.PatternTexts.{line_end}
use Rattle.grep_output.specs.Lines.{lines}
use Rattle.grep_output.specs.Shows.{is_told, show_in, greatest_selected, lines_after}
use Rattle.grep_match.specs.Modes.{mode}
use Rattle.grep_match.specs.Matches.{Tried, tried_row, is_selected, has_error}
use Rattle.grep_output.specs.Scans.{Scan, IsBelow, rows_of, errors_left, nth_place, place_of_most, scan_to}
use Rattle.grep_output.specs.Scans.{whole_scan, broken_scan, errors_in, selected_in, at_finish, early}
use Rattle.grep_output.specs.Context.{shown_lines}
use Rattle.grep_output.specs.Messages.{error_message}
use Rattle.grep_output.specs.InputText.{shown_out, shows_group}
use Rattle.grep_output.specs.Course.{AreNumbered, row_out, state_after_line, is_lines, scan_so_far}
use Rattle.grep_core.specs.Turns.{course_of, LeavesLine, TakesLine, TakesLast, is_last, EndsSo, Idles, Turns}
use Rattle.grep_core.specs.Work.{Work, progress, fed, position}
use Rattle.grep_core.specs.Work as between
use Rattle.grep_core.specs.WholeScans.{Stood, Scans, StopsIn, StopsSoon, ScansTo, ScansInput, scan_of, left_by}
use Rattle.grep_core.specs.WholeScans.{IsJob, BeginsWith, EndsWith, LeavesRest}
use Rattle.grep_output.specs.LittlePast.{TakesLittlePast}
use Rattle.grep_output.specs.Refused.{GrewBy, WhereRefused}
use Rattle.tool_io.specs.Prints.{Wrote, Breaks}
use Rattle.grep_output.proofs.Reached.{out-broken}
use Rattle.grep_output.proofs.ScanEnds.{count, count-more, count-one, count-none, early-tried, broken-within}
use Rattle.grep_output.proofs.Extends.{TextsBegin, Goes, LastError, full, whole-is, whole-out, broken-is, broken_out}
use Rattle.grep_output.proofs.Extends.{row-broken, row-extends, extends, said-more, error-unselected}
use Rattle.grep_core.proofs.ScansRows.{stood-moves, stood-begins, stood-stops, stood-little, begins-numbered}
use Rattle.grep_core.proofs.ScansTexts.{breaks-more, breaks-memory, breaks-ext, grew-part}
use Rattle.grep_core.proofs.Resting.{rest-below}
use Rattle.tool_io.proofs.Printing.{wrote-more}
use Rattle.grep_core.specs.Underway.{tries, Standing}
use Rattle.grep_core.proofs.ScansTaken.{tries-more, rows-tried, errors-more, stops-in, stops-error, next-stood}
use Rattle.grep_core.proofs.ScansTaken.{next-kind, next-max, next-whole, next-numbered}
use Rattle.tool_io.specs.Printed.{printed}

-- how the feed ends is how the rows end
pub ends-so : (plan : GrepPlan) (treated : Treatment) (before now after : Told) (f g : Feed) (given : List Row)
    (ended : Ended) → Stood plan treated before now f given → f.kind ≡ line_end plan → f.max ≡ plan.max_buffer_size
    → EndsSo f g now after ended → EndsWith plan treated before after given ended
ends-so plan treated before now after f g given told.End stood kind max ends =
    let moves = ends.reads.moves in
    stood-stops plan treated before after g given (moves.kind ∙ kind) (moves.max ∙ max) (At End) told.End
    (stood-moves plan treated before now after f g given stood moves) ends.none refl
ends-so plan treated before now after f g given told.Early stood kind max ends = absurd ends
ends-so plan treated before now after f g given told.ReadFault stood kind max ends =
    let moves = ends.reads.moves in
    stood-stops plan treated before after ends.mid given (moves.kind ∙ kind) (moves.max ∙ max) (At Fault)
    told.ReadFault (stood-moves plan treated before now after f ends.mid given stood moves) ends.none refl
ends-so plan treated before now after f g given (told.TooLong line) stood kind max ends =
    let moves = ends.reads.moves in
    stood-stops plan treated before after ends.mid given (moves.kind ∙ kind) (moves.max ∙ max) (Long line)
    (told.TooLong line) (stood-moves plan treated before now after f ends.mid given stood moves) ends.none refl
ends-so plan treated before now after f g given told.TooMuch stood kind max ends =
    let moves = ends.reads.moves in
    stood-stops plan treated before after ends.mid given (moves.kind ∙ kind) (moves.max ∙ max) (At Limit) told.TooMuch
    (stood-moves plan treated before now after f ends.mid given stood moves) ends.none refl

-- the feed lacks memory
pub lacks-so : (plan : GrepPlan) (treated : Treatment) (before now after : Told) (f g : Feed) (given : List Row)
    → Stood plan treated before now f given → f.kind ≡ line_end plan → f.max ≡ plan.max_buffer_size
    → Refuses f g now after feed.Memory → BeginsWith plan treated before after given
lacks-so plan treated before now after f g given stood kind max lacks =
    let moves = lacks.0.moves in
    stood-begins plan treated before after g given (moves.kind ∙ kind) (moves.max ∙ max)
    (stood-moves plan treated before now after f g given stood moves)

-- a scan that came to the end of the lines didn't end early
finish-early : (finish : Finish) → at_finish finish ≢ early
finish-early finish e = cc

pub rest-late : (x : Scan) (finish : Finish) (before after : Told) (ended : Ended) → x.ended ≡ at_finish finish
    → LeavesRest {T = Ended} x.ended x.within before after (Ok ended)
rest-late x finish before after ended is = λ e. absurd (finish-early finish (sym is ∙ e))

whole-group : (plan : GrepPlan) (name : List ℕ) (shows : Show) (us : List Tried) (finish : Finish)
    → shows_group plan name shows (whole_scan us finish) ≡ shows_group plan name shows (scan_so_far us)
whole-group plan name show.Lines us finish = refl
whole-group plan name show.Parts us finish = refl
whole-group plan name show.Nothing us finish = refl

broken-group : (plan : GrepPlan) (name : List ℕ) (shows : Show) (us : List Tried) (t : Tried) (vs : List Tried)
    → has_error t ≡ true
    → shows_group plan name shows (broken_scan (us ++ t ∷ vs) (length us)) ≡ shows_group plan name shows
    (scan_so_far us)
broken-group plan name show.Lines us t vs e =
    (λ i. nat_lt 0
    (length (shown_lines plan (rows_of (filter (is_selected plan) (early-tried us t vs i)))
    (broken-within us t vs i))))
    ∙ ap (λ l. nat_lt 0 (length (shown_lines plan (rows_of l) (rows_of us)))) (out-broken plan us t e)
broken-group plan name show.Parts us t vs e = refl
broken-group plan name show.Nothing us t vs e = refl

or_false : (a b : Bool) → b ≡ false → (a || b) ≡ a
or_false true b e = refl
or_false false b e = e

and-first : (a b : Bool) → (a && b) ≡ true → a ≡ true
and-first true b e = refl
and-first false b e = e

and-second : (a b : Bool) → (a && b) ≡ true → b ≡ true
and-second true b e = e
and-second false b e = absurd (false≢true e)

module _ (work : Work) (most : Option ℕ) (treated : Treatment) (s0 : State) where
  abbrev pub left : ℕ
  left = errors_left s0.errors

  abbrev pub full_of : Finish → List Tried → Scan
  full_of finish ts = full work.plan work.name work.show s0.has_shown left most finish ts

  abbrev scan_in : Rows → Scan
  scan_in found = scan_of work treated s0 found

  -- the scan by the job
  pub scan-is : work.show ≡ show_in (is_told work.plan treated) (mode work.plan)
      → most ≡ greatest_selected work.plan treated → (found : Rows)
      → scan_in found ≡ full_of found.finish (tries work.plan work.patterns found.rows)
  scan-is show_is most_is found =
      let ts = tries work.plan work.patterns found.rows in
      λ i. scan_to ts found.finish (lines_after (sym show_is i) work.plan.after_context) (nth_place has_error left ts)
      (place_of_most (is_selected work.plan) (sym most_is i) ts)

  module _ (f0 : Feed) (job : IsJob work.plan treated work.show most f0) where
    pub begins-scan : (before after : Told) (given : List Row)
        (begins : BeginsWith work.plan treated before after given)
        → scan_in (lines work.plan begins.heard) ≡ full_of (lines work.plan begins.heard).finish
        (tries work.plan work.patterns given ++ tries work.plan work.patterns begins.more)
    begins-scan before after given begins =
        scan-is job.show_is job.most_is (lines work.plan begins.heard)
        ∙ ap (λ l. full_of (lines work.plan begins.heard).finish (tries work.plan work.patterns l)) begins.all
        ∙ ap (λ l. full_of (lines work.plan begins.heard).finish l)
        (tries-more work.plan work.patterns given begins.more)

    pub begins-tried : (before after : Told) (given : List Row)
        (begins : BeginsWith work.plan treated before after given)
        → AreNumbered 1 (rows_of (tries work.plan work.patterns given ++ tries work.plan work.patterns begins.more))
    begins-tried before after given begins =
        subst (λ l. AreNumbered 1 l) (sym (rows-tried work.plan work.patterns (given ++ begins.more))
        ∙ ap rows_of (tries-more work.plan work.patterns given begins.more))
        (begins-numbered work.plan treated before after given begins)

    pub ends-scan : (before after : Told) (given : List Row) (ended : Ended)
        (ends : EndsWith work.plan treated before after given ended)
        → scan_in (lines work.plan ends.heard) ≡ full_of ends.finish (tries work.plan work.patterns given)
    ends-scan before after given ended ends = ap scan_in ends.all
        ∙ scan-is job.show_is job.most_is (record { rows = given; finish = ends.finish })

    pub goes-of : (before now : Told) (f : Feed) (c : Course) (s : State) (out0 out err0 err : Kept)
        (standing : Standing work most treated s0 before now f c s out0 out err0 err)
        → Goes work.plan work.show left most (tries work.plan work.patterns standing.given) (course_of c)
    goes-of before now f c s out0 out err0 err standing = record {
      reached = standing.taken.reached;
      few = standing.few;
      below = standing.below;
    }

    -- what is shown of the lines that were given
    pub given-shown : (before now : Told) (f : Feed) (c : Course) (s : State) (out0 out err0 err : Kept)
        (standing : Standing work most treated s0 before now f c s out0 out err0 err)
        → shown_out work.plan work.name work.show s0.has_shown (scan_in (rows_with standing.given (At End)))
        ≡ shown_out work.plan work.name work.show s0.has_shown
        (scan_so_far (tries work.plan work.patterns standing.given))
    given-shown before now f c s out0 out err0 err standing =
        let us = tries work.plan work.patterns standing.given in
        ap (λ x. shown_out work.plan work.name work.show s0.has_shown x)
        (scan-is job.show_is job.most_is (rows_with standing.given (At End))
        ∙ whole-is work.plan work.name work.show s0.has_shown left most (At End) us (course_of c)
        (goes-of before now f c s out0 out err0 err standing))
        ∙ whole-out work.plan work.name work.show s0.has_shown us (At End)

    module _ (before now after : Told) (f g : Feed) (c : Course) (s : State) (c1 : Course) (s1 : State)
        (out0 out out1 err0 err err1 : Kept)
        (standing : Standing work most treated s0 before now f c s out0 out err0 err) where
      abbrev us : List Tried
      us = tries work.plan work.patterns standing.given

      abbrev goes : Goes work.plan work.show left most us (course_of c)
      goes = goes-of before now f c s out0 out err0 err standing

      abbrev Input : Result Ended Stop → Type 0
      Input result = ScansInput work treated (between.standing before s0 (printed out0 err0))
          (between.standing after s1 (printed out1 err1)) c1.selected result

      whole-scans : (finish : Finish) → Idles (progress c s (printed out err)) (progress c1 s1 (printed out1 err1))
          → Scans work treated s0 (whole_scan us finish) c1.selected s1 (printed out0 err0) (printed out1 err1)
      whole-scans finish idles =
          let wrote : Wrote (shown_out work.plan work.name work.show s0.has_shown (scan_so_far us))
          (flat_map (error_message work.name) us) (printed out0 err0) (printed out1 err1) =
          subst (λ k. Wrote (shown_out work.plan work.name work.show s0.has_shown (scan_so_far us))
          (flat_map (error_message work.name) us) (printed out0 err0) (printed k err1)) (sym idles.out)
          (subst (λ k. Wrote (shown_out work.plan work.name work.show s0.has_shown (scan_so_far us))
          (flat_map (error_message work.name) us) (printed out0 err0) (printed out k)) (sym idles.err)
          standing.taken.wrote) in record {
            wrote = subst (λ l. Wrote l (flat_map (error_message work.name) us) (printed out0 err0)
                (printed out1 err1)) (sym (whole-out work.plan work.name work.show s0.has_shown us finish)) wrote;
            count = ap (λ (d : Course). d.selected) idles.course ∙ standing.taken.reached.selected;
            state = idles.state ∙ standing.taken.state
                ∙ ap (λ b. let x : State = record s0 {
                  errors = s0.errors + count has_error us;
                  has_shown = s0.has_shown || b;
                } in x) (sym (whole-group work.plan work.name work.show us finish));
          }

      -- the lines end
      pub scans-ends : (ended : Ended) → EndsSo f g now after ended
          → Idles (progress c s (printed out err)) (progress c1 s1 (printed out1 err1)) → Input (Ok ended)
      scans-ends ended so idles =
          let ends = ends-so work.plan treated before now after f g standing.given ended standing.stood standing.kind
          standing.max so in
          let is = ends-scan before after standing.given ended ends
          ∙ whole-is work.plan work.name work.show s0.has_shown left most ends.finish us (course_of c) goes in
          record {
            heard = ends.heard;
            hears = ends.hears;
            treats = ends.treats;
            scans = subst (λ x. ScansTo work treated s0 x c1.selected s1 (printed out0 err0) (printed out1 err1)
                (Ok ended)) (sym is) (whole-scans ends.finish idles, sym ends.ended_so);
            rest = rest-late (scan_in (lines work.plan ends.heard)) ends.finish before after ended
                (ap (λ (x : Scan). x.ended) is);
            refused = tt;
          }

      -- the feed lacks memory
      pub scans-lacks : Refuses f g now after feed.Memory
          → Idles (progress c s (printed out err)) (progress c1 s1 (printed out1 err1)) → Input (Err Memory)
      scans-lacks lacks idles =
          let begins = lacks-so work.plan treated before now after f g standing.given standing.stood standing.kind
          standing.max lacks in
          let finish = (lines work.plan begins.heard).finish in
          let vs = tries work.plan work.patterns begins.more in
          let is = begins-scan before after standing.given begins in
          let a = shown_out work.plan work.name work.show s0.has_shown (scan_so_far us) in
          let b = flat_map (error_message work.name) us in
          let ext = extends work.plan work.name work.show s0.has_shown left most finish vs us (course_of c) goes
          (begins-tried before after standing.given begins) in
          let breaks : Breaks a b (printed out0 err0) (printed out1 err1) (Memory ≡ SinkFault) =
          subst (λ k. Breaks a b (printed out0 err0) (printed k err1) (Memory ≡ SinkFault)) (sym idles.out)
          (subst (λ k. Breaks a b (printed out0 err0) (printed out k) (Memory ≡ SinkFault)) (sym idles.err)
          (breaks-memory a b out0 out err0 err standing.taken.wrote)) in record {
            heard = begins.heard;
            hears = begins.hears;
            treats = begins.treats;
            scans = subst (λ x. ScansTo work treated s0 x c1.selected s1 (printed out0 err0) (printed out1 err1)
                (Err Memory)) (sym is) (
                  breaks-ext work.plan work.name work.show s0.has_shown (full_of finish (us ++ vs)) a us out0 out1 err0
                      err1 Memory ext breaks,
                  subst (StopsIn work treated s0 (full_of finish (us ++ vs)) c1.selected) (sym idles.state)
                      (stops-in work treated s0 ext.rest c1.selected (ap (λ (d : Course). d.selected) idles.course)
                      ext.tried_is standing.taken),
                );
            rest = tt;
            refused = tt;
          }

      module _ (row : Row) (gives : Gives f g now after row) where
        abbrev t : Tried
        t = tried_row work.plan work.patterns row

        begins-row : BeginsWith work.plan treated before after (standing.given ++ row ∷ [])
        begins-row =
            stood-begins work.plan treated before after g (standing.given ++ row ∷ [])
            (next-kind work most treated s0 before now after f g row c s c1 s1 out0 out out1 err0 err err1 standing
            gives)
            (next-max work most treated s0 before now after f g row c s c1 s1 out0 out out1 err0 err err1 standing
            gives)
            (next-stood work most treated s0 before now after f g row c s c1 s1 out0 out out1 err0 err err1 standing
            gives)

        abbrev vs : List Tried
        vs = tries work.plan work.patterns begins-row.more

        abbrev finish : Finish
        finish = (lines work.plan begins-row.heard).finish

        all-tries : tries work.plan work.patterns (standing.given ++ row ∷ []) ++ vs ≡ us ++ t ∷ vs
        all-tries = ap (λ l. l ++ vs) (tries-more work.plan work.patterns standing.given (row ∷ []))
            ∙ append_assoc us (t ∷ []) vs

        scan-row : scan_in (lines work.plan begins-row.heard) ≡ full_of finish (us ++ t ∷ vs)
        scan-row = begins-scan before after (standing.given ++ row ∷ []) begins-row
            ∙ ap (λ l. full_of finish l) all-tries

        numbered-row : AreNumbered 1 (rows_of (us ++ t ∷ vs))
        numbered-row = subst (λ l. AreNumbered 1 (rows_of l)) all-tries
            (begins-tried before after (standing.given ++ row ∷ []) begins-row)

        input-row : (stop : Stop) → ScansTo work treated s0 (full_of finish (us ++ t ∷ vs)) c1.selected s1
            (printed out0 err0) (printed out1 err1) (Err stop)
            → (let x : Scan = scan_in (lines work.plan begins-row.heard) in
            LeavesRest {T = Ended} x.ended x.within before after (Err stop))
            → WhereRefused {T = Ended} (Err stop) (StopsSoon work treated s0 (lines work.plan begins-row.heard) before
            after out0 out1) → Input (Err stop)
        input-row stop scans rest soon = record {
          heard = begins-row.heard;
          hears = begins-row.hears;
          treats = begins-row.treats;
          scans = subst (λ x. ScansTo work treated s0 x c1.selected s1 (printed out0 err0) (printed out1 err1)
              (Err stop)) (sym scan-row) scans;
          rest = rest;
          refused = soon;
        }

        had-errors : s.errors ≡ s0.errors + count has_error us
        had-errors = ap (λ (x : State). x.errors) standing.taken.state

        had-shown : s.has_shown ≡ (s0.has_shown || shows_group work.plan work.name work.show (scan_so_far us))
        had-shown = ap (λ (x : State). x.has_shown) standing.taken.state

        -- its match error is the last one
        pub scans-last : TakesLast work most t (progress c s (printed out err)) (progress c1 s1 (printed out1 err1))
            → Input (Err TooManyErrors)
        scans-last last =
            let few = standing.few in
            let errors = last.errors in
            let had = had-errors in
            let is : count has_error us + 1 ≡ left = omega arith in
            let last_error : LastError work.plan work.show left most us t = record {
              error = last.error;
              left_is = is;
            } in
            let broken = broken_scan (us ++ t ∷ vs) (length us) in
            let same = broken-is work.plan work.name work.show s0.has_shown left most finish us t vs (course_of c)
            goes last_error in
            let a = shown_out work.plan work.name work.show s0.has_shown (scan_so_far us) in
            let b = flat_map (error_message work.name) us in
            let out_is : a ++ [] ≡ shown_out work.plan work.name work.show s0.has_shown broken = append-nil a
            ∙ sym (broken_out work.plan work.name work.show s0.has_shown us t vs last.error) in
            let err_is : b ++ error_message work.name t ≡ flat_map (error_message work.name) broken.tried =
            sym (said-more work.name us t) ∙ ap (λ l. flat_map (error_message work.name) l)
            (sym (early-tried us t vs)) in
            let wrote = wrote-more a b [] (error_message work.name t) standing.taken.wrote last.wrote in
            let errors_are : cond (has_error t) (s.errors + 1) s.errors ≡ s0.errors + length (errors_in broken) =
            ap (λ n. cond (has_error t) (n + 1) n) had ∙ sym (errors-more work treated s0 us t)
            ∙ ap (λ l. s0.errors + count has_error l) (sym (early-tried us t vs)) in
            let shown_is : (s.has_shown || (is_selected work.plan t && is_lines work.show))
            ≡ (s0.has_shown || shows_group work.plan work.name work.show broken) =
            or_false s.has_shown (is_selected work.plan t && is_lines work.show)
            (ap (λ x. x && is_lines work.show) (error-unselected work.plan t last.error))
            ∙ had-shown ∙ ap (λ x. s0.has_shown || x)
            (sym (broken-group work.plan work.name work.show us t vs last.error)) in
            let total : s.total ≡ s0.total = ap (λ (x : State). x.total) standing.taken.state in
            let state : state_after_line work.plan work.show s t ≡ left_by work treated s0 broken =
            λ i. record { errors = errors_are i; total = total i; has_shown = shown_is i } in
            let counted : c1.selected ≡ length (selected_in work.plan broken) =
            ap (λ (d : Course). d.selected) last.course ∙ standing.taken.reached.selected
            ∙ sym (ap length (out-broken work.plan us t last.error))
            ∙ ap (λ l. count (is_selected work.plan) l) (sym (early-tried us t vs)) in
            let scans : Scans work treated s0 broken c1.selected s1 (printed out0 err0) (printed out1 err1) = record {
              wrote = subst (λ l. Wrote l (flat_map (error_message work.name) broken.tried) (printed out0 err0)
                  (printed out1 err1)) out_is
                  (subst (λ l. Wrote (a ++ []) l (printed out0 err0) (printed out1 err1)) err_is wrote);
              count = counted;
              state = last.state ∙ state;
            } in
            input-row TooManyErrors
            (subst (λ x. ScansTo work treated s0 x c1.selected s1 (printed out0 err0) (printed out1 err1)
            (Err TooManyErrors)) (sym same) (scans, refl)) tt tt

        few-next : is_last s t ≡ false → count has_error (us ++ t ∷ []) < left
        few-next e =
            let few = standing.few in
            let had = had-errors in
            let more = count-more has_error us t in
            ⊎_elim
            (λ (h : has_error t ≡ true).
            let one = count-one has_error t h in
            let other : s.errors ≢ 20 = eqb-false s.errors 20 (sym (ap (λ x. x && (s.errors == 20)) h) ∙ e) in
            omega arith)
            (λ (h : has_error t ≡ false).
            let none = count-none has_error t h in
            omega arith)
            (cases_Bool (has_error t))

        abbrev row_text : List ℕ
        row_text = row_out work.plan work.name work.show s.has_shown (course_of c) t

        abbrev so_far : List ℕ
        so_far = shown_out work.plan work.name work.show s0.has_shown (scan_so_far us)

        next-begins : TextsBegin work.plan work.name work.show s0.has_shown (full_of finish (us ++ t ∷ vs))
            (so_far ++ cond (is_last s t) [] row_text) (us ++ t ∷ [])
        next-begins =
            let few = standing.few in
            let had = had-errors in
            ⊎_elim
            (λ (e : is_last s t ≡ true).
            let error : has_error t ≡ true = and-first (has_error t) (s.errors == 20) e in
            let twenty : s.errors ≡ 20 = eqb-true s.errors 20 (and-second (has_error t) (s.errors == 20) e) in
            let is : count has_error us + 1 ≡ left = omega arith in
            let none : so_far ++ cond (is_last s t) [] row_text ≡ so_far =
            ap (λ l. so_far ++ l) (cond-true (is_last s t) [] row_text e) ∙ append-nil so_far in
            subst (λ l. TextsBegin work.plan work.name work.show s0.has_shown (full_of finish (us ++ t ∷ vs)) l
            (us ++ t ∷ [])) (sym none)
            (row-broken work.plan work.name work.show s0.has_shown left most finish us (course_of c) t vs goes
            (record { error = error; left_is = is })))
            (λ (e : is_last s t ≡ false).
            let whole : so_far ++ cond (is_last s t) [] row_text ≡ so_far ++ row_out work.plan work.name work.show
            (s0.has_shown || shows_group work.plan work.name work.show (scan_so_far us)) (course_of c) t =
            ap (λ l. so_far ++ l) (cond-false (is_last s t) [] row_text e)
            ∙ ap (λ x. so_far ++ row_out work.plan work.name work.show x (course_of c) t) had-shown in
            subst (λ l. TextsBegin work.plan work.name work.show s0.has_shown (full_of finish (us ++ t ∷ vs)) l
            (us ++ t ∷ [])) (sym whole)
            (row-extends work.plan work.name work.show s0.has_shown left most finish us (course_of c) t vs goes
            (few-next e) numbered-row))
            (cases_Bool (is_last s t))

        next-breaks : (stop : Stop) → Breaks (cond (is_last s t) [] row_text) (error_message work.name t)
            (printed out err) (printed out1 err1) (stop ≡ SinkFault)
            → Breaks (shown_out work.plan work.name work.show s0.has_shown (full_of finish (us ++ t ∷ vs)))
            (flat_map (error_message work.name) (full_of finish (us ++ t ∷ vs)).tried) (printed out0 err0)
            (printed out1 err1) (stop ≡ SinkFault)
        next-breaks stop breaks =
            let a = so_far ++ cond (is_last s t) [] row_text in
            let more = breaks-more so_far (flat_map (error_message work.name) us) (cond (is_last s t) [] row_text)
            (error_message work.name t) out0 out out1 err0 err err1 standing.taken.wrote stop breaks in
            breaks-ext work.plan work.name work.show s0.has_shown (full_of finish (us ++ t ∷ vs)) a (us ++ t ∷ [])
            out0 out1 err0 err1 stop next-begins
            (subst (λ l. Breaks a l (printed out0 err0) (printed out1 err1) (stop ≡ SinkFault))
            (sym (said-more work.name us t)) more)

        next-stops : LeavesLine work most t (progress c s (printed out err)) (progress c1 s1 (printed out1 err1))
            → StopsIn work treated s0 (full_of finish (us ++ t ∷ vs)) c1.selected s1
        next-stops leaves = ⊎_elim
            (λ (same : s1 ≡ s).
            subst (StopsIn work treated s0 (full_of finish (us ++ t ∷ vs)) c1.selected) (sym same)
            (stops-in work treated s0 (t ∷ next-begins.rest) c1.selected leaves.0
            (next-begins.tried_is ∙ append_assoc us (t ∷ []) next-begins.rest) standing.taken))
            (λ (h : (has_error t ≡ true) × (s1 ≡ state_after_line work.plan work.show s t)).
            stops-error work treated s0 us t next-begins.rest c1.selected s1 leaves.0 next-begins.tried_is
            standing.taken
            (next-numbered work most treated s0 before now after f g row c s c1 s1 out0 out out1 err0 err err1
            standing gives) h.0 h.1)
            leaves.1

        row-little : TakesLittlePast (standing.given ++ row ∷ []) before after
        row-little =
            stood-little work.plan treated before after g (standing.given ++ row ∷ [])
            (next-stood work most treated s0 before now after f g row c s c1 s1 out0 out out1 err0 err err1 standing
            gives) gives.cuts.near
            (next-whole work most treated s0 before now after f g row c s c1 s1 out0 out out1 err0 err err1 standing
            gives)

        row-below : IsBelow (greatest_selected work.plan treated) (count (is_selected work.plan) us)
        row-below = subst (λ m. IsBelow m (count (is_selected work.plan) us)) job.most_is standing.below

        -- what is shown of the lines before it was written
        row-soon : Breaks (cond (is_last s t) [] row_text) (error_message work.name t) (printed out err)
            (printed out1 err1) (SinkFault ≡ SinkFault) → StopsSoon work treated s0 (lines work.plan begins-row.heard)
            before after out0 out1
        row-soon breaks = record {
          given = standing.given;
          next = row ∷ [];
          more = begins-row.more;
          all = begins-row.all;
          one = omega arith;
          grew = subst (λ l. GrewBy l out0 out1) (sym (given-shown before now f c s out0 out err0 err standing))
              (grew-part so_far (cond (is_last s t) [] row_text) out0.held out.held out1.held standing.taken.wrote.out
              breaks.out);
          little = row-little;
          below = λ none. row-below;
        }

        row-rest : (let x : Scan = scan_in (lines work.plan begins-row.heard) in x.ended ≡ early
            → TakesLittlePast x.within before after)
        row-rest = rest-below work treated s0 (lines work.plan begins-row.heard) standing.given (row ∷ [])
            begins-row.more before after begins-row.all (omega arith) row-below row-little

        -- it couldn't be taken
        pub scans-row : (stop : Stop) → TakesLine work most t (progress c s (printed out err))
            (progress c1 s1 (printed out1 err1)) (Err stop) → Input (Err stop)
        scans-row SinkFault takes = input-row SinkFault (next-breaks SinkFault takes.0, next-stops takes.1) row-rest
            (row-soon takes.0)
        scans-row TooManyErrors takes = scans-last takes
        scans-row Memory takes = input-row Memory (next-breaks Memory takes.0, next-stops takes.1) tt tt

      -- a turn that stops
      pub scans-stops : (stop : Stop) → Turns work most (position (fed f now) (progress c s (printed out err)))
          (position (fed g after) (progress c1 s1 (printed out1 err1))) (Err stop) → Input (Err stop)
      scans-stops stop (inl takes) = scans-row takes.row takes.gives stop takes.takes
      scans-stops stop (inr lacks) = subst (λ x. Input (Err x)) (sym lacks.0) (scans-lacks lacks.1 lacks.2)
