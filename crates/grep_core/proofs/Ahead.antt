-- Rows that are taken at once: the scan stands behind them as if each had been taken, and a write of them that was
-- refused ends it.
use Rattle.std.proofs.Common.{◌≡◌, ◌≢◌, ℕ, ◌+◌, ◌-◌, ◌^◌, ◌<◌, ◌≤◌, List, [], ◌∷◌, ◌++◌, length, Option, None, Some}
use Rattle.std.proofs.Common.{Err, refl, sym, ap, subst, ◌∙◌, arith, append_assoc, append-nil}
use Rattle.std.specs.Prelude.{flat_map}
use Rattle.std.specs.Io.KnownBytes.{Appends}
use Rattle.std.proofs.lemmas.List.{append_cancel_left}
use Rattle.pcre_io.specs.Told.{Told, Kept, AppendsPrefix}
use Rattle.line_feed.specs.Rows.{Row}
use Rattle.line_feed.specs.View.{Feed}
use Rattle.line_feed.specs.declared.phase.Phase.TheVariants.{Closed}
use Rattle.line_feed.specs.Passes.{GivesAll}
use Rattle.line_feed.proofs.Given.{live-gives}
use Rattle.tool_io.specs.Printed.{printed}
use Rattle.tool_io.specs.Prints.{Breaks}
use Rattle.tool_io.proofs.Writing.{prefix-more}
use Rattle.tool_io.proofs.Printing.{prefix-of}
use Rattle.grep_match.specs.Matches.{Tried, tried_row}
use Rattle.grep_output.specs.declared.shows.Treatment.{Treatment}
use Rattle.grep_output.specs.declared.ended.Ended.{Ended}
use Rattle.grep_output.specs.declared.ended.Stop.{Stop}
use Rattle.grep_output.specs.declared.ended.Stop.TheVariants.{SinkFault, TooManyErrors, Memory}
use Rattle.grep_output.specs.declared.state.State.{State}
use Rattle.grep_output.specs.Lines.{lines}
use Rattle.grep_output.specs.Messages.{error_message}
use Rattle.grep_output.specs.InputText.{shown_out}
use Rattle.grep_output.specs.Scans.{Scan}
use Rattle.grep_output.specs.Course.{scan_so_far}
use Rattle.grep_output.specs.Refused.{WhereRefused}
use Rattle.grep_output.proofs.Extends.{extends}
use Rattle.grep_core.specs.Turns.{course_of, Halts}
use Rattle.grep_core.specs.Work.{Work, Progress}
use Rattle.grep_core.specs.Work as between
use Rattle.grep_core.specs.WholeScans.{IsJob, BeginsWith, LeavesRest, ScansInput, ScansTo, scan_of, StopsIn, StopsSoon}
use Rattle.grep_core.specs.Ahead.{TakesRows, TakesAhead, HaltsAhead}
use Rattle.grep_core.proofs.ScansRows.{stood-begins}
use Rattle.grep_core.proofs.ScansTexts.{breaks-out, breaks-ext}
use Rattle.grep_core.specs.Underway.{tries, Standing, Keeps}
use Rattle.grep_core.proofs.ScansTaken.{tries-more, stops-in, standing-line, line-given}
use Rattle.grep_core.proofs.ScansEnd.{left, full_of, begins-scan, begins-tried, goes-of}
use Rattle.grep_core.proofs.ScansSent.{rest-part, soon-part}
use Rattle.grep_core.proofs.ScansLoop.{keeps-more, gave}

-- any source
told : Told
told = record { left = None; stop = None; faults = 0 }

module _ (work : Work) (most : Option ℕ) (now : Told) (longest : ℕ) (g : Feed) (new : Progress) where
  live-rows : (rows : List Row) (within : ℕ) (f : Feed) → GivesAll now within longest f g rows → f.phase ≢ Closed
      → g.phase ≢ Closed
  live-rows [] within f all live = subst (λ (x : Feed). x.phase ≢ Closed) (sym all) live
  live-rows (row ∷ rows) within f all live = live-rows rows (within - (length row.bytes + length row.newline)) all.2.0
      all.2.2 (live-gives f all.2.0 now now row all.2.1)

  max-rows : (rows : List Row) (within : ℕ) (f : Feed) → GivesAll now within longest f g rows → g.max ≡ f.max
  max-rows [] within f all = ap (λ (x : Feed). x.max) all
  max-rows (row ∷ rows) within f all =
      let grew = gave f all.2.0 now now row all.2.1 in
      max-rows rows (within - (length row.bytes + length row.newline)) all.2.0 all.2.2 ∙ grew.max

  offset-rows : (rows : List Row) (within : ℕ) (f : Feed) → GivesAll now within longest f g rows → f.offset ≤ g.offset
  offset-rows [] within f all = let same = ap (λ (x : Feed). x.offset) all in omega arith
  offset-rows (row ∷ rows) within f all =
      let grew = gave f all.2.0 now now row all.2.1 in
      let first = grew.offset in
      let rest = offset-rows rows (within - (length row.bytes + length row.newline)) all.2.0 all.2.2 in
      omega (arith, first, rest)

  limit-rows : (rows : List Row) (old : Progress) → TakesRows work most old new rows
      → new.course.earlier.limit ≡ old.course.earlier.limit
  limit-rows [] old takes = ap (λ (p : Progress). p.course.earlier.limit) takes
  limit-rows (row ∷ rows) old takes = limit-rows rows takes.0 takes.2 ∙ takes.1.limit

  longest-rows : (rows : List Row) (old : Progress) → TakesRows work most old new rows
      → new.course.earlier.longest ≡ old.course.earlier.longest
  longest-rows [] old takes = ap (λ (p : Progress). p.course.earlier.longest) takes
  longest-rows (row ∷ rows) old takes = longest-rows rows takes.0 takes.2 ∙ takes.1.longest

  keeps-rows : work.plan.after_context < 2 ^ 32 → (rows : List Row) (within : ℕ) (f : Feed) (old : Progress)
      → GivesAll now within longest f g rows → TakesRows work most old new rows
      → Keeps f old.course old.state → Keeps g new.course new.state
  keeps-rows few [] within f old all takes keeps = subst (λ (x : Feed). Keeps x new.course new.state) (sym all)
      (subst (λ (p : Progress). Keeps f p.course p.state) (sym takes) keeps)
  keeps-rows few (row ∷ rows) within f old all takes keeps =
      let mid = takes.0 in
      keeps-rows few rows (within - (length row.bytes + length row.newline)) all.2.0 mid all.2.2 takes.2
      (keeps-more work most f all.2.0 now now row (tried_row work.plan work.patterns row) old.course old.state
      mid.course mid.state old.printed.out mid.printed.out old.printed.err mid.printed.err _ few refl keeps
      all.2.1 takes.1)

  module _ (treated : Treatment) (s0 : State) (before : Told) (out0 err0 : Kept) where
    -- it stands so behind these rows
    record Behind (f : Feed) (p : Progress) (given : List Row) : Type 0 where
      standing : Standing work most treated s0 before now f p.course p.state out0 p.printed.out err0 p.printed.err
      is : standing.given ≡ given

    behind-rows : (rows : List Row) (within : ℕ) (f : Feed) (old : Progress) (given : List Row)
        → GivesAll now within longest f g rows → TakesRows work most old new rows → Behind f old given
        → Behind g new (given ++ rows)
    behind-rows [] within f old given all takes behind =
        subst (Behind g new) (sym (append-nil given))
        (subst (λ (x : Feed). Behind x new given) (sym all)
        (subst (λ (p : Progress). Behind f p given) (sym takes) behind))
    behind-rows (row ∷ rows) within f old given all takes behind =
        let mid = takes.0 in
        subst (Behind g new) (append_assoc given (row ∷ []) rows)
        (behind-rows rows (within - (length row.bytes + length row.newline)) all.2.0 mid (given ++ row ∷ []) all.2.2
        takes.2
        (record {
          standing = standing-line work most treated s0 before now now f all.2.0 row old.course old.state mid.course
              mid.state out0 old.printed.out mid.printed.out err0 old.printed.err mid.printed.err behind.standing
              all.2.1 takes.1;
          is = line-given work most treated s0 before now now f all.2.0 row old.course old.state mid.course mid.state
              out0 old.printed.out mid.printed.out err0 old.printed.err mid.printed.err behind.standing all.2.1
              takes.1 ∙ ap (λ l. l ++ row ∷ []) behind.is;
        }))

module _ (work : Work) (most : Option ℕ) (f g : Feed) (old new : Progress)
    (ahead : TakesAhead work most f g old new) where
  pub ahead-live : f.phase ≢ Closed → g.phase ≢ Closed
  ahead-live live = live-rows work most told ahead.longest g new ahead.rows ahead.within f (ahead.gives told) live

  pub ahead-max : g.max ≡ f.max
  ahead-max = max-rows work most told ahead.longest g new ahead.rows ahead.within f (ahead.gives told)

  pub ahead-offset : f.offset ≤ g.offset
  ahead-offset = offset-rows work most told ahead.longest g new ahead.rows ahead.within f (ahead.gives told)

  pub ahead-limit : new.course.earlier.limit ≡ old.course.earlier.limit
  ahead-limit = limit-rows work most told ahead.longest g new ahead.rows old ahead.takes

  pub ahead-longest : new.course.earlier.longest ≡ old.course.earlier.longest
  ahead-longest = longest-rows work most told ahead.longest g new ahead.rows old ahead.takes

  pub ahead-keeps : work.plan.after_context < 2 ^ 32 → Keeps f old.course old.state → Keeps g new.course new.state
  ahead-keeps few keeps = keeps-rows work most told ahead.longest g new few ahead.rows ahead.within f old
      (ahead.gives told) ahead.takes keeps

  pub ahead-standing : (treated : Treatment) (s0 : State) (before now : Told) (out0 err0 : Kept)
      → Standing work most treated s0 before now f old.course old.state out0 old.printed.out err0 old.printed.err
      → Standing work most treated s0 before now g new.course new.state out0 new.printed.out err0 new.printed.err
  ahead-standing treated s0 before now out0 err0 standing =
      (behind-rows work most now ahead.longest g new treated s0 before out0 err0 ahead.rows ahead.within f old
      standing.given (ahead.gives now) ahead.takes (record { standing = standing; is = refl })).standing

-- Where a write of them was refused.

cut-prefix : (a b c d : Option (List ℕ)) (front all text : List ℕ) → Appends a b front → Appends a c all
    → Appends b c text → AppendsPrefix b d text → AppendsPrefix a d all
cut-prefix None b c d front all text one two more part = tt
cut-prefix (Some x) None c d front all text one two more part = absurd one
cut-prefix (Some x) (Some y) None d front all text one two more part = absurd two
cut-prefix (Some x) (Some y) (Some z) d front all text one two more part =
    let same : x ++ all ≡ x ++ (front ++ text) = sym two ∙ more ∙ ap (λ l. l ++ text) one ∙ append_assoc x front text in
    subst (AppendsPrefix (Some x) d) (sym (append_cancel_left x all (front ++ text) same))
    (prefix-more (Some x) (Some y) d front text one part)

halts-prefix : (text : List ℕ) (old new : Kept) (stop : Stop) → Halts text old new stop
    → AppendsPrefix old.held new.held text
halts-prefix text old new SinkFault halts = halts.0
halts-prefix text old new Memory halts = halts.0
halts-prefix text old new TooManyErrors halts = absurd halts

module _ (work : Work) (most : Option ℕ) (treated : Treatment) (s0 : State) (before now : Told) (out0 err0 : Kept)
    (f0 f g : Feed) (job : IsJob work.plan treated work.show most f0) (old new : Progress) (stop : Stop)
    (standing : Standing work most treated s0 before now f old.course old.state out0 old.printed.out err0
    old.printed.err) (halts : HaltsAhead work most f g old new stop) where
  abbrev rows : List Row
  rows = halts.rows

  abbrev out : Kept
  out = old.printed.out

  abbrev err : Kept
  err = old.printed.err

  abbrev out1 : Kept
  out1 = new.printed.out

  abbrev whole : Progress
  whole = halts.whole

  behind : Behind work most now halts.longest halts.behind whole treated s0 before out0 err0 halts.behind whole
      (standing.given ++ rows)
  behind = behind-rows work most now halts.longest halts.behind whole treated s0 before out0 err0 rows halts.within f
      old standing.given (halts.gives now) halts.takes (record { standing = standing; is = refl })

  abbrev us : List Tried
  us = tries work.plan work.patterns standing.given

  abbrev given : List Row
  given = behind.standing.given

  abbrev ts : List Tried
  ts = tries work.plan work.patterns given

  tries-are : ts ≡ us ++ tries work.plan work.patterns rows
  tries-are = ap (tries work.plan work.patterns) behind.is ∙ tries-more work.plan work.patterns standing.given rows

  begins : BeginsWith work.plan treated before now given
  begins = stood-begins work.plan treated before now halts.behind given behind.standing.kind behind.standing.max
      behind.standing.stood

  -- the input begins with the rows before them
  begins-before : BeginsWith work.plan treated before now standing.given
  begins-before = record {
    heard = begins.heard;
    hears = begins.hears;
    treats = begins.treats;
    more = rows ++ begins.more;
    all = begins.all ∙ ap (λ l. l ++ begins.more) behind.is ∙ append_assoc standing.given rows begins.more;
  }

  abbrev a : List ℕ
  a = shown_out work.plan work.name work.show s0.has_shown (scan_so_far ts)

  abbrev b : List ℕ
  b = flat_map (error_message work.name) ts

  cut-breaks : Breaks a b (printed out0 err0) (printed out1 err) (stop ≡ SinkFault)
  cut-breaks =
      let front = shown_out work.plan work.name work.show s0.has_shown (scan_so_far us) in
      let said = flat_map (error_message work.name) us in
      let breaks = breaks-out front said halts.text out0 out out1 err0 err standing.taken.wrote stop halts.halts in
      let wrote = behind.standing.taken.wrote in
      record {
        out = cut-prefix out0.held out.held whole.printed.out.held out1.held front a halts.text
            standing.taken.wrote.out wrote.out halts.wrote.all (halts-prefix halts.text out out1 stop halts.halts);
        err = subst (λ (k : Kept). AppendsPrefix err0.held k.held b) halts.unsaid
            (prefix-of err0.held whole.printed.err.held b wrote.err);
        cause = breaks.cause;
        steady = breaks.steady;
      }

  cut-scans : (all : Scan) (stop : Stop) → Halts halts.text out out1 stop
      → Breaks (shown_out work.plan work.name work.show s0.has_shown all)
      (flat_map (error_message work.name) all.tried) (printed out0 err0) (printed out1 err) (stop ≡ SinkFault)
      → StopsIn work treated s0 all old.course.selected old.state
      → ScansTo work treated s0 all old.course.selected old.state (printed out0 err0) (printed out1 err) (Err stop)
  cut-scans all SinkFault h breaks stops = (breaks, stops)
  cut-scans all Memory h breaks stops = (breaks, stops)
  cut-scans all TooManyErrors h breaks stops = absurd h

  cut-refused : (stop : Stop) → Halts halts.text out out1 stop
      → WhereRefused {T = Ended} (Err stop) (StopsSoon work treated s0 (lines work.plan begins.heard) before now out0
      out1)
  unfolding begins begins-before
  cut-refused SinkFault h = soon-part work most treated s0 before now f old.course old.state out0 out out1 err0 err
      standing f0 job halts.text h.0 begins-before
  cut-refused Memory h = tt
  cut-refused TooManyErrors h = tt

  cut-rest : (stop : Stop) → let x : Scan = scan_of work treated s0 (lines work.plan begins.heard) in
      LeavesRest {T = Ended} x.ended x.within before now (Err stop)
  unfolding begins begins-before
  cut-rest SinkFault = rest-part work most treated s0 before now f old.course old.state out0 out out1 err0 err
      standing f0 job begins-before
  cut-rest Memory = tt
  cut-rest TooManyErrors = tt

  abbrev Input : State → Kept → ℕ → Type 0
  Input s said selected = ScansInput work treated (between.standing before s0 (printed out0 err0))
      (between.standing now s (printed out1 said)) selected (Err stop)

  -- a part of the scan was written
  pub scans-cut : Input new.state new.printed.err new.course.selected
  scans-cut =
      let finish = (lines work.plan begins.heard).finish in
      let vs = tries work.plan work.patterns begins.more in
      let is = begins-scan work most treated s0 f0 job before now given begins in
      let goes = goes-of work most treated s0 f0 job before now halts.behind whole.course whole.state out0
      whole.printed.out err0 whole.printed.err behind.standing in
      let ext = extends work.plan work.name work.show s0.has_shown (left work most treated s0) most finish vs ts
      (course_of whole.course) goes (begins-tried work most treated s0 f0 job before now given begins) in
      let all = full_of work most treated s0 finish (ts ++ vs) in
      let tried = ext.tried_is ∙ ap (λ l. l ++ ext.rest) tries-are
      ∙ append_assoc us (tries work.plan work.patterns rows) ext.rest in
      subst (λ (s : State). Input s new.printed.err new.course.selected) (sym halts.state)
      (subst (λ (k : Kept). Input old.state k new.course.selected) (sym halts.err)
      (subst (λ n. Input old.state err n) (sym halts.selected) (record {
        heard = begins.heard;
        hears = begins.hears;
        treats = begins.treats;
        scans = subst (λ x. ScansTo work treated s0 x old.course.selected old.state (printed out0 err0)
            (printed out1 err) (Err stop)) (sym is)
            (cut-scans all stop halts.halts (breaks-ext work.plan work.name work.show s0.has_shown all a ts out0 out1
            err0 err stop ext cut-breaks)
            (stops-in work treated s0 (tries work.plan work.patterns rows ++ ext.rest) old.course.selected refl tried
            standing.taken));
        rest = cut-rest stop;
        refused = cut-refused stop halts.halts;
      })))
