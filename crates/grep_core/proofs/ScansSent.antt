-- What was gathered is sent on between two lines.
use Rattle.std.proofs.Common.{◌≡◌, ℕ, List, [], ◌++◌, Option, Err, refl, sym, ap, subst, ◌∙◌, arith, append-nil}
use Rattle.std.specs.Prelude.{flat_map}
use Rattle.pcre_io.specs.Told.{Told, Kept, AppendsPrefix}
use Rattle.line_feed.specs.View.{Feed}
use Rattle.grep_output.specs.declared.shows.Treatment.{Treatment}
use Rattle.grep_output.specs.declared.ended.Ended.{Ended}
use Rattle.grep_output.specs.declared.ended.Stop.{Stop}
use Rattle.grep_output.specs.declared.ended.Stop.TheVariants.{SinkFault, TooManyErrors, Memory}
use Rattle.grep_core.specs.declared.lines.Course.{Course}
use Rattle.grep_output.specs.declared.state.State.{State}
use Rattle.grep_match.specs.Matches.{Tried, is_selected}
use Rattle.grep_output.specs.Lines.{lines}
use Rattle.grep_output.specs.Scans.{Scan, IsBelow, early}
use Rattle.grep_output.specs.Shows.{greatest_selected}
use Rattle.grep_output.specs.Messages.{error_message}
use Rattle.grep_output.specs.InputText.{shown_out}
use Rattle.grep_output.specs.Course.{scan_so_far}
use Rattle.grep_core.specs.Turns.{course_of, Halts}
use Rattle.grep_output.specs.LittlePast.{TakesLittlePast}
use Rattle.grep_output.specs.Refused.{GrewBy, WhereRefused}
use Rattle.grep_core.specs.Work.{Work}
use Rattle.grep_core.specs.Work as between
use Rattle.grep_core.specs.WholeScans.{StopsIn, StopsSoon, ScansInput, ScansTo, scan_of, IsJob, BeginsWith, LeavesRest}
use Rattle.tool_io.specs.Prints.{Wrote, Breaks}
use Rattle.tool_io.specs.Printed.{printed}
use Rattle.tool_io.specs.Writes.{WritesAll}
use Rattle.grep_output.proofs.ScanEnds.{count}
use Rattle.grep_output.proofs.Extends.{extends}
use Rattle.grep_core.proofs.ScansRows.{stood-begins, stood-little}
use Rattle.grep_core.proofs.ScansTexts.{wrote-out, breaks-out, breaks-ext, grew-part}
use Rattle.grep_core.specs.Underway.{tries, Standing}
use Rattle.grep_core.proofs.ScansTaken.{stops-in}
use Rattle.grep_core.proofs.Resting.{rest-below}
use Rattle.grep_core.proofs.ScansEnd.{left, full_of, begins-scan, begins-tried, goes-of, given-shown}

module _ (work : Work) (most : Option ℕ) (treated : Treatment) (s0 : State) (before now : Told) (f : Feed)
    (c : Course) (s : State) (out0 out out1 err0 err : Kept)
    (standing : Standing work most treated s0 before now f c s out0 out err0 err) where
  abbrev us : List Tried
  us = tries work.plan work.patterns standing.given

  abbrev a : List ℕ
  a = shown_out work.plan work.name work.show s0.has_shown (scan_so_far us)

  abbrev b : List ℕ
  b = flat_map (error_message work.name) us

  sent-to : WritesAll [] out out1 → Standing work most treated s0 before now f c s out0 out1 err0 err
  sent-to sent = record {
    given = standing.given;
    stood = standing.stood;
    kind = standing.kind;
    max = standing.max;
    whole = standing.whole;
    near = standing.near;
    few = standing.few;
    below = standing.below;
    taken = record {
      reached = standing.taken.reached;
      wrote = subst (λ l. Wrote l b (printed out0 err0) (printed out1 err)) (append-nil a)
          (wrote-out a b [] out0 out out1 err0 err standing.taken.wrote sent);
      state = standing.taken.state;
    };
  }

  -- it was: the scan stands as before
  pub standing-sent : (g : Feed) → g ≡ f → WritesAll [] out out1
      → Standing work most treated s0 before now g c s out0 out1 err0 err
  standing-sent g same sent = subst (λ (h : Feed). Standing work most treated s0 before now h c s out0 out1 err0 err)
      (sym same) (sent-to sent)

  module _ (f0 : Feed) (job : IsJob work.plan treated work.show most f0) where
    unsent : (stop : Stop) → Halts [] out out1 stop
        → ((x : Scan) → Breaks (shown_out work.plan work.name work.show s0.has_shown x)
        (flat_map (error_message work.name) x.tried) (printed out0 err0) (printed out1 err) (stop ≡ SinkFault)
        × StopsIn work treated s0 x c.selected s
        → ScansTo work treated s0 x c.selected s (printed out0 err0) (printed out1 err) (Err stop))
        → ((begins : BeginsWith work.plan treated before now standing.given) → let x : Scan =
        scan_of work treated s0 (lines work.plan begins.heard) in
        LeavesRest {T = Ended} x.ended x.within before now (Err stop))
        → ((begins : BeginsWith work.plan treated before now standing.given)
        → WhereRefused {T = Ended} (Err stop)
        (StopsSoon work treated s0 (lines work.plan begins.heard) before now out0 out1))
        → ScansInput work treated (between.standing before s0 (printed out0 err0))
        (between.standing now s (printed out1 err)) c.selected (Err stop)
    unsent stop halts to rest soon =
        let begins = stood-begins work.plan treated before now f standing.given standing.kind standing.max
        standing.stood in
        let finish = (lines work.plan begins.heard).finish in
        let vs = tries work.plan work.patterns begins.more in
        let is = begins-scan work most treated s0 f0 job before now standing.given begins in
        let goes = goes-of work most treated s0 f0 job before now f c s out0 out err0 err standing in
        let ext = extends work.plan work.name work.show s0.has_shown (left work most treated s0) most finish vs us
        (course_of c) goes (begins-tried work most treated s0 f0 job before now standing.given begins) in
        let breaks = subst (λ l. Breaks l b (printed out0 err0) (printed out1 err) (stop ≡ SinkFault)) (append-nil a)
        (breaks-out a b [] out0 out out1 err0 err standing.taken.wrote stop halts) in
        let all = full_of work most treated s0 finish (us ++ vs) in record {
          heard = begins.heard;
          hears = begins.hears;
          treats = begins.treats;
          scans = subst (λ x. ScansTo work treated s0 x c.selected s (printed out0 err0) (printed out1 err)
              (Err stop)) (sym is)
              (to all (
                breaks-ext work.plan work.name work.show s0.has_shown all a us out0 out1 err0 err stop ext
                    breaks,
                stops-in work treated s0 ext.rest c.selected refl ext.tried_is standing.taken,
              ));
          rest = rest begins;
          refused = soon begins;
        }

    given-little : TakesLittlePast (standing.given ++ []) before now
    given-little = subst (λ l. TakesLittlePast l before now) (sym (append-nil standing.given))
        (stood-little work.plan treated before now f standing.given standing.stood standing.near standing.whole)

    given-below : IsBelow (greatest_selected work.plan treated) (count (is_selected work.plan) us)
    given-below = subst (λ m. IsBelow m (count (is_selected work.plan) us)) job.most_is standing.below

    given-all : (begins : BeginsWith work.plan treated before now standing.given)
        → (lines work.plan begins.heard).rows ≡ (standing.given ++ []) ++ begins.more
    given-all begins = begins.all ∙ ap (λ l. l ++ begins.more) (sym (append-nil standing.given))

    -- little past the lines that the scan has within it was taken
    pub rest-part : (begins : BeginsWith work.plan treated before now standing.given)
        → (scan_of work treated s0 (lines work.plan begins.heard)).ended ≡ early
        → TakesLittlePast (scan_of work treated s0 (lines work.plan begins.heard)).within before now
    rest-part begins = rest-below work treated s0 (lines work.plan begins.heard) standing.given [] begins.more before
        now (given-all begins) (omega arith) given-below given-little

    -- a part of a text was written
    pub soon-part : (text : List ℕ) → AppendsPrefix out.held out1.held text
        → (begins : BeginsWith work.plan treated before now standing.given)
        → StopsSoon work treated s0 (lines work.plan begins.heard) before now out0 out1
    soon-part text part begins = record {
      given = standing.given;
      next = [];
      more = begins.more;
      all = given-all begins;
      one = omega arith;
      grew = subst (λ l. GrewBy l out0 out1)
          (sym (given-shown work most treated s0 f0 job before now f c s out0 out err0 err standing))
          (grew-part a text out0.held out.held out1.held standing.taken.wrote.out part);
      little = given-little;
      below = λ none. given-below;
    }

    -- it was refused: a part of the scan was written
    pub scans-unsent : (stop : Stop) → Halts [] out out1 stop
        → ScansInput work treated (between.standing before s0 (printed out0 err0))
        (between.standing now s (printed out1 err)) c.selected (Err stop)
    scans-unsent SinkFault halts = unsent SinkFault halts (λ x both. both) rest-part (soon-part [] halts.0)
    scans-unsent Memory halts = unsent Memory halts (λ x both. both) (λ begins. tt) (λ begins. tt)
    scans-unsent TooManyErrors halts = absurd halts
