-- What is written of an input, piece by piece, to the output and to the messages.
use Rattle.std.proofs.Common.{◌≡◌, ◌≢◌, ℕ, ◌+◌, ◌≤◌, Bool, true, false, ◌&&◌, ◌||◌, List, [], ◌++◌, length, take}
use Rattle.std.proofs.Common.{flat_map, Option, Result, Ok, Err, refl, sym, ap, subst, ◌∙◌, arith, inl, inr, ◌⊎◌}
use Rattle.std.proofs.Common.{append-nil, nat_eq, codes}
use Rattle.std.specs.List.{list_any}
use Rattle.std.specs.Io.KnownBytes.{Appends}
use Rattle.pcre_io.specs.Told.{Told, Kept, AppendsPrefix}
use Rattle.pcre_io.specs.Causes.{CountsRefusals}
use Rattle.pcre_io.specs.declared.traits.IoError.{IoError}
use Rattle.pcre_io.specs.declared.traits.IoError.TheVariants as io
use Rattle.line_feed.specs.Rows.{Input, Rows, At, End}
use Rattle.line_feed.specs.View.{Feed}
use Rattle.line_feed.specs.Hears.{Hears}
use Rattle.line_feed.proofs.Given.{HasGiven-none, HasGiven-lacks, HasBegun-given}
use Rattle.line_feed.proofs.Shown.{HasShown-shows, HasShown-begun}
use Rattle.line_feed.specs.Answers.{Shows, Lacks}
use Rattle.grep_args.specs.declared.plan.GrepPlan.{GrepPlan}
use Rattle.grep_output.specs.declared.shows.Treatment.{Treatment}
use Rattle.grep_output.specs.declared.shows.Treatment.TheVariants.{AsText, AsBinary, Skipped}
use Rattle.grep_output.specs.declared.ended.Stop.{Stop}
use Rattle.grep_output.specs.declared.ended.Stop.TheVariants.{SinkFault, TooManyErrors, Memory}
use Rattle.grep_output.specs.declared.ended.FileEnd.{FileEnd}
use Rattle.grep_output.specs.declared.state.State.{State}
use Rattle.grep_output.specs.declared.ended.Ended.{Ended}
use Rattle.grep_output.specs.declared.ended.Ended.TheVariants as told
use Rattle.grep_output.specs.declared.shows.Show.{Show}
use Rattle.grep_output.specs.declared.shows.Show.TheVariants as show
use Rattle.grep_match.specs.declared.modes.Mode.{Mode}
use Rattle.grep_match.specs.declared.modes.Mode.TheVariants as mode_of
use Rattle.grep_match.specs.PatternTexts.{line_end}
use Rattle.pat_tree.specs.Pattern.{Pattern}
use Rattle.line_feed.specs.declared.phase.Phase.TheVariants.{Open, Closed}
use Rattle.grep_match.specs.Modes.{mode}
use Rattle.grep_output.specs.Shows.{is_told, tells_binary, show_in, most_selected, greatest_selected}
use Rattle.grep_output.specs.Messages.{error_message, ended_message, message}
use Rattle.grep_output.specs.Scans as meant
use Rattle.grep_output.specs.Scans.{Scan, at_finish, early, too_many_errors, scan, scan_of_rows, selected_in}
use Rattle.grep_output.specs.InputText.{Written, input_text, written_by, out_text, shown_out, end_out, state_by}
use Rattle.grep_output.specs.Course.{scan_so_far, AreNumbered}
use Rattle.grep_output.specs.Lines.{lines, treatment, treatment_by}
use Rattle.grep_output.specs.Ends.{stop_of, ended_of}
use Rattle.tool_io.specs.Writes.{Writes}
use Rattle.tool_io.specs.Prints.{Wrote, Breaks}
use Rattle.grep_core.specs.Work.{Work, work_on, standing}
use Rattle.grep_core.specs.FirstBytes.{looks_first, scanned_as}
use Rattle.grep_core.specs.WholeScans.{Stood, StopsIn, ScansTo, ScansInput, left_by, AtLeastOne, IsJob, LeavesRest}
use Rattle.grep_core.specs.WholeScans.{StopsSoon}
use Rattle.grep_output.specs.LittlePast.{TakesLittlePast}
use Rattle.grep_output.specs.Refused.{RefusesSoon, WhereRefused}
use Rattle.grep_core.specs.OneInput.{IsNew, is_skipped, WritesBoth, CountsPart, ScansAs, ScansSo, LeavesTo, Greps}
use Rattle.grep_core.specs.OneInput.{GrepsTo, Treats}
use Rattle.grep_core.proofs.FirstBytes.{as-treated, told-alike, scan-alike, refused-alike}
use Rattle.grep_core.proofs.ScansRows.{stood-little, rows-numbered}
use Rattle.grep_core.proofs.ScansTexts.{grew-part}
use Rattle.grep_core.proofs.Refusing.{refuses-soon, refuses-ended}
use Rattle.tool_io.proofs.Writing.{prefix-front, prefix-more}
use Rattle.tool_io.specs.Printed.{Printed, printed}
use Rattle.tool_io.proofs.Printing as printing
use Rattle.tool_io.proofs.Printing.{IsToldBy, prefix-none, wrote-none, wrote-more, wrote-breaks, wrote-err}

plus_zero : (n : ℕ) → n ≡ n + 0
plus_zero n = omega arith

or_none : (b : Bool) → b ≡ (b || false)
or_none true = refl
or_none false = refl

many-early : too_many_errors ≢ early
many-early e = cc

memory-fault : Memory ≢ SinkFault
memory-fault e = cc

-- nothing was written
pub breaks-none : (out_text err_text : List ℕ) (out err : Kept) (stop : Stop) → stop ≡ Memory
    → Breaks out_text err_text (printed out err) (printed out err) (stop ≡ SinkFault)
breaks-none out_text err_text out err stop is = printing.breaks-none out_text err_text (printed out err)
    (stop ≡ SinkFault) (λ other. memory-fault (sym is ∙ other))

told-by : (fault : IoError) → IsToldBy fault (stop_of fault ≡ SinkFault)
told-by io.Failed = (λ is. refl, λ other. absurd (other refl))
told-by io.Memory = (λ is. absurd cc, λ other. refl)

-- a text to the output, or to the messages, was refused
pub breaks-out : (text err_text : List ℕ) (old new err : Kept) (fault : IoError)
    → Writes {T = Unit {0}} text old new (Err fault) → Breaks text err_text (printed old err) (printed new err)
    (stop_of fault ≡ SinkFault)
breaks-out text err_text old new err fault w = printing.breaks-out text err_text old new err fault
    (stop_of fault ≡ SinkFault) (told-by fault) w

pub breaks-err : (out_text text : List ℕ) (out old new : Kept) (fault : IoError)
    → Writes {T = Unit {0}} text old new (Err fault) → Breaks out_text text (printed out old) (printed out new)
    (stop_of fault ≡ SinkFault)
breaks-err out_text text out old new fault w = printing.breaks-err out_text text out old new fault
    (stop_of fault ≡ SinkFault) (told-by fault) w

-- what stood so for a feed that gave nothing stands for an input that is scanned so
pub record Treated (plan : GrepPlan) (before after : Told) (treated : Treatment) : Type 0 where
  pub heard : Input
  pub hears : Hears before after heard
  pub treats : scanned_as plan heard ≡ treated

pub treated-of : (plan : GrepPlan) (treated : Treatment) (before now : Told) (f : Feed)
    → Stood plan treated before now f [] → Treated plan before now treated
treated-of plan treated before now f (inl h) =
    let begun = HasBegun-given before now f [] h.2 in
    record {
      heard = begun.input;
      hears = begun.hears;
      treats = ap (λ b. treatment_by (b && list_any (nat_eq 0) (take 1024 begun.input.bytes)) plan.binary) h.0
          ∙ sym h.1;
    }
treated-of plan treated before now f (inr h) =
    let begun = HasShown-begun before now f [] h.1.0 h.1.1 in
    let input = begun.0.input in
    record {
      heard = input;
      hears = begun.0.hears;
      treats = ap (λ b. treatment_by (b && list_any (nat_eq 0) (take 1024 input.bytes)) plan.binary) h.0
          ∙ ap (λ l. treatment_by (list_any (nat_eq 0) l) plan.binary) (sym begun.1) ∙ h.1.2;
    }

pub skipped-is : (treated : Treatment) → is_skipped treated ≡ true → treated ≡ Skipped
skipped-is AsText e = absurd cc
skipped-is AsBinary e = absurd cc
skipped-is Skipped e = refl

pub skipped-not : (treated : Treatment) → is_skipped treated ≡ false → treated ≢ Skipped
skipped-not treated e is = absurd (true-false (sym (ap is_skipped is) ∙ e))
  where
    true-false : true ≢ false
    true-false h = cc

-- no line was tried
module _ (plan : GrepPlan) (name : List ℕ) (s : State) where
  abbrev none : meant.Ended → Scan
  none ended = record { tried = []; within = []; ended = ended }

  none-wrote : (sh : Show) (ended : meant.Ended) (old : Printed)
      → Wrote (shown_out plan name sh s.has_shown (none ended)) [] old old
  none-wrote show.Lines ended old = wrote-none old
  none-wrote show.Parts ended old = wrote-none old
  none-wrote show.Nothing ended old = wrote-none old

  none-state : (sh : Show) (ended : meant.Ended) → s ≡ state_by plan name sh s (none ended)
  none-state show.Lines ended = (λ i. record {
    errors = plus_zero s.errors i;
    total = plus_zero s.total i;
    has_shown = or_none s.has_shown i;
  })
  none-state show.Parts ended = (λ i. record {
    errors = plus_zero s.errors i;
    total = plus_zero s.total i;
    has_shown = or_none s.has_shown i;
  })
  none-state show.Nothing ended = (λ i. record {
    errors = plus_zero s.errors i;
    total = plus_zero s.total i;
    has_shown = or_none s.has_shown i;
  })

none-counts : (work : Work) (s : State) (found : Scan) → CountsPart work s found s
none-counts work s found = record {
  tried = [];
  rest = found.tried;
  begins = refl;
  state = none-state work.plan work.name s work.show (at_finish (At End));
}

-- how an input is scanned
module _ (work : Work) (s : State) where
  -- one that is skipped isn't
  pub scans-skipped : (treated : Treatment) (before now : Told) (f : Feed) (old : Printed) → treated ≡ Skipped
      → Stood work.plan treated before now f [] → length f.held ≤ 65536 → f.offset ≡ 0
      → ScansAs work treated (standing before s old) (standing now s old)
      (Ok (record { selected = 0; ended = told.Early }))
  scans-skipped treated before now f old is stood near begun =
      let h = treated-of work.plan treated before now f stood in record {
        heard = h.heard;
        hears = h.hears;
        treats = h.treats;
        scans = subst (λ t. ScansSo work s (scan work.plan work.patterns s.errors t (lines work.plan h.heard)) s old
            old (Ok (record { selected = 0; ended = told.Early }))) (sym is) (
              record {
                wrote = none-wrote work.plan work.name s work.show early old;
                state = none-state work.plan work.name s work.show early;
              },
              refl,
              refl,
            );
        rest = subst (λ t. let x : Scan = scan work.plan work.patterns s.errors t (lines work.plan h.heard) in
            LeavesRest {T = FileEnd} x.ended x.within before now (Ok (record { selected = 0; ended = told.Early })))
            (sym is)
            (λ _. stood-little work.plan treated before now f [] stood near begun);
        refused = tt;
      }

  -- memory lacked before the scan
  pub scans-lacks : (treated : Treatment) (before now : Told) (f : Feed) (out err : Kept)
      (result : Result FileEnd Stop) → result ≡ Err Memory → Stood work.plan treated before now f []
      → ScansAs work treated (standing before s (printed out err)) (standing now s (printed out err)) result
  scans-lacks treated before now f out err result is stood =
      let h = treated-of work.plan treated before now f stood in
      subst (ScansAs work treated (standing before s (printed out err)) (standing now s (printed out err))) (sym is)
      (record {
        heard = h.heard;
        hears = h.hears;
        treats = h.treats;
        scans = (
          breaks-none _ _ out err Memory refl,
          none-counts work s
              (scan work.plan work.patterns s.errors treated (lines work.plan h.heard)),
        );
        rest = tt;
        refused = tt;
      })

  scan-as : (treated : Treatment) → treated ≢ Skipped → (found : Rows)
      → scan_of_rows work.plan work.patterns s.errors treated found ≡ scan work.plan work.patterns s.errors treated
      found
  scan-as AsText other found = refl
  scan-as AsBinary other found = refl
  scan-as Skipped other found = absurd (other refl)

  -- one that ended or was cut off
  abbrev pub end_by : ℕ → Result Ended Stop → Result FileEnd Stop
  end_by selected (Ok ended) = Ok (record { selected = selected; ended = ended })
  end_by selected (Err stop) = Err stop

  -- what a scan leaves, with the lines that it selected
  counted-state : (treated : Treatment) (found : Scan) (selected total : ℕ) (s_mid : State)
      → s_mid ≡ left_by work treated s found → selected ≡ length (selected_in work.plan found)
      → total ≡ s.total + selected
      → record s_mid { total = total } ≡ state_by work.plan work.name work.show s found
  counted-state treated found selected total s_mid state count sums = ap (λ n. record s_mid { total = n }) sums
      ∙ (λ i. record (state i) { total = s.total + count i })

  -- what it leaves of the input
  rest-end : (selected : ℕ) (x : Scan) (before after : Told) (came : Result Ended Stop)
      → LeavesRest x.ended x.within before after came → LeavesRest x.ended x.within before after
      (end_by selected came)
  rest-end selected x before after (Ok ended) h = h
  rest-end selected x before after (Err SinkFault) h = h
  rest-end selected x before after (Err TooManyErrors) h = tt
  rest-end selected x before after (Err Memory) h = tt

  -- where a write was refused in it
  refused-end : (selected : ℕ) (fact : Type 0) (came : Result Ended Stop) → WhereRefused came fact
      → WhereRefused (end_by selected came) fact
  refused-end selected fact (Ok ended) h = tt
  refused-end selected fact (Err SinkFault) h = h
  refused-end selected fact (Err TooManyErrors) h = tt
  refused-end selected fact (Err Memory) h = tt

  module _ (treated : Treatment) (selected total : ℕ) (s_mid : State) (sums : total ≡ s.total + selected) where
    part : (found : Scan) → StopsIn work treated s found selected s_mid
        → CountsPart work s found (record s_mid { total = total })
    part found h = record {
      tried = h.tried;
      rest = h.rest;
      begins = h.begins;
      state = counted-state treated (scan_so_far h.tried) selected total s_mid h.state h.count sums;
    }

    scans-so : (found : Scan) (old new : Printed) (result : Result Ended Stop)
        → ScansTo work treated s found selected s_mid old new result
        → ScansSo work s found (record s_mid { total = total }) old new (end_by selected result)
    scans-so found old new (Ok ended) h = (
      record {
        wrote = h.0.wrote;
        state = counted-state treated found selected total s_mid h.0.state h.0.count sums;
      },
      h.0.count,
      h.1,
    )
    scans-so found old new (Err TooManyErrors) h = (
      record {
        wrote = h.0.wrote;
        state = counted-state treated found selected total s_mid h.0.state h.0.count sums;
      },
      h.1,
    )
    scans-so found old new (Err SinkFault) h = (h.0, part found h.1)
    scans-so found old new (Err Memory) h = (h.0, part found h.1)

    pub scans-whole : {before after : Told} {old new : Printed} {met : Result Ended Stop} (came : Result Ended Stop)
        → met ≡ came → (result : Result FileEnd Stop) → result ≡ end_by selected came → treated ≢ Skipped
        → ScansInput work treated (standing before s old) (standing after s_mid new) selected met
        → ScansAs work treated (standing before s old) (standing after (record s_mid { total = total }) new) result
    scans-whole {before} {after} {old} {new} {met} came is result so other h = record {
      heard = h.heard;
      hears = h.hears;
      treats = h.treats;
      scans = subst (λ found. ScansSo work s found (record s_mid { total = total }) old new result)
          (scan-as treated other (lines work.plan h.heard))
          (subst (ScansSo work s (scan_of_rows work.plan work.patterns s.errors treated (lines work.plan h.heard))
          (record s_mid { total = total }) old new) (sym so)
          (scans-so (scan_of_rows work.plan work.patterns s.errors treated (lines work.plan h.heard)) old new came
          (subst (ScansTo work treated s (scan_of_rows work.plan work.patterns s.errors treated
          (lines work.plan h.heard)) selected s_mid old new) is h.scans)));
      rest =
          let x = scan_of_rows work.plan work.patterns s.errors treated (lines work.plan h.heard) in
          subst (λ found. LeavesRest {T = FileEnd} found.ended found.within before after result)
          (scan-as treated other (lines work.plan h.heard))
          (subst (LeavesRest {T = FileEnd} x.ended x.within before after) (sym so)
          (rest-end selected x before after came
          (subst (LeavesRest {T = Ended} x.ended x.within before after) is h.rest)));
      refused =
          let fact = StopsSoon work treated s (lines work.plan h.heard) before after old.out new.out in
          subst (λ r. WhereRefused r fact) (sym so)
          (refused-end selected fact came (subst (λ r. WhereRefused r fact) is h.refused));
    }

-- the first bytes were looked at
pub treats-shown : (plan : GrepPlan) (treated : Treatment) (is_zero : Bool) (before after : Told) (f g : Feed)
    (shown : List ℕ) → IsNew f → looks_first plan (mode plan) ≡ true → Shows f g before after shown
    → is_zero ≡ list_any (nat_eq 0) shown → treated ≡ treatment_by is_zero plan.binary
    → Treats plan f g before after treated
treats-shown plan treated is_zero before after f g shown new looks shows zero by = record {
  stood = inr (
    looks,
    (
      shown,
      HasShown-shows before before after f g shown
          (HasGiven-none before f new.held new.number new.offset new.phase) new.offset shows,
      ap (λ b. treatment_by b plan.binary) (sym zero) ∙ sym by,
    ),
  );
  live = shows.live;
  number = shows.moves.number ∙ new.number;
  near = let few = shows.few in let none = ap length new.held in omega arith;
  begun = shows.moves.offset ∙ new.offset;
  kind = shows.moves.kind;
  max = shows.moves.max;
}

pub hears-lacks : (before after : Told) (f g : Feed) → IsNew f → Lacks f g before after
    → (heard : Input) × Hears before after heard
hears-lacks before after f g new lacks =
    let begun = HasBegun-given before after g []
    (HasGiven-lacks before before after f g [] (HasGiven-none before f new.held new.number new.offset new.phase)
    lacks) in
    (begun.input, begun.hears)

-- no byte was looked at
pub treats-none : (plan : GrepPlan) (t : Told) (f : Feed) → IsNew f → looks_first plan (mode plan) ≡ false
    → Treats plan f f t t AsText
treats-none plan t f new is = record {
  stood = inl (is, refl, HasGiven-none t f new.held new.number new.offset new.phase);
  live = λ shut. absurd (open-closed (sym new.phase ∙ shut));
  number = new.number;
  near = let none = ap length new.held in omega arith;
  begun = new.offset;
  kind = refl;
  max = refl;
}
  where
    open-closed : Open ≢ Closed
    open-closed e = cc

pub both-refused : {out_old out_mid err_old err_new : Kept} (out_text err_text : List ℕ) (u : Unit {0})
    (fault : IoError) (result : Result (Unit {0}) IoError) → result ≡ Err fault
    → Writes out_text out_old out_mid (Ok u)
    → Writes {T = Unit {0}} err_text err_old err_new (Err fault)
    → WritesBoth out_text err_text (printed out_old err_old) (printed out_mid err_new) result
both-refused {out_old} {out_mid} {err_old} {err_new} out_text err_text u fault result is out err =
    subst (WritesBoth out_text err_text (printed out_old err_old) (printed out_mid err_new)) (sym is)
    (record {
      out = subst (AppendsPrefix out_old.held out_mid.held) (append-nil out_text)
          (prefix-more out_old.held out_mid.held out_mid.held out_text [] out.all (prefix-none out_mid.held []));
      err = err.part;
      cause = λ failed. inr (subst (λ e. CountsRefusals {T = Unit {0}} err_old.faults err_new.faults (Err e))
          ((told-by fault).0 failed) err.cause);
      steady = λ other. (
        out.cause,
        subst (λ e. CountsRefusals {T = Unit {0}} err_old.faults err_new.faults (Err e))
            ((told-by fault).1 other) err.cause,
      );
    })

pub some-most : (is_told : Bool) (md : Mode) (most : Option ℕ) → AtLeastOne most
    → AtLeastOne (most_selected is_told md most)
some-most true md most some = omega arith
some-most false mode_of.Nothing most some = omega arith
some-most false mode_of.NamesWithout most some = omega arith
some-most false mode_of.Counts most some = some
some-most false mode_of.NamesWith most some = omega arith
some-most false mode_of.Total most some = some
some-most false mode_of.Parts most some = some
some-most false mode_of.WholeLines most some = some

-- the job of a scan is made for the input
pub job-is : {plan : GrepPlan} {treated : Treatment} {md : Mode} {tells : Bool} {sh : Show} {most : Option ℕ}
    {f : Feed} → md ≡ mode plan → tells ≡ tells_binary treated md → sh ≡ show_in tells md
    → most ≡ most_selected tells md plan.max_count
    → AtLeastOne plan.max_count → f.kind ≡ line_end plan → f.max ≡ plan.max_buffer_size → f.offset ≡ 0
    → length f.held ≤ 65536 → treated ≢ Skipped → IsJob plan treated sh most f
job-is {plan} {treated} {md} {tells} {sh} {most} {f} m t e is some kind max begun near other =
    let so : tells ≡ is_told plan treated = t ∙ ap (tells_binary treated) m in record {
      show_is = e ∙ (λ i. show_in (so i) (m i));
      most_is = is ∙ (λ i. most_selected (so i) (m i) plan.max_count);
      some = subst AtLeastOne (sym is) (some-most tells md plan.max_count some);
      scanned = other;
      begun = begun;
      near = near;
      kind = kind;
      max = max;
    }

-- an input was scanned as the plan asks
pub record Scanned (plan : GrepPlan) (patterns : List Pattern) (name : List ℕ) (s : State) (treated : Treatment)
    (md : Mode) (tells : Bool) (before after : Told) (s_new : State) (old mid : Printed)
    (met : Result FileEnd Stop) : Type 0 where
  pub mode_is : md ≡ mode plan
  pub told_is : tells ≡ tells_binary treated md
  pub shows : Show
  pub shows_is : shows ≡ show_in tells md
  pub state : State
  pub state_is : state ≡ s
  pub few : s.errors ≤ 20
  pub some : AtLeastOne plan.max_count
  pub scans : ScansAs (work_on plan patterns name shows) treated (standing before state old)
      (standing after s_new mid) met

stop-other : (fault : IoError) → stop_of fault ≢ TooManyErrors
stop-other io.Failed = λ e. cc
stop-other io.Memory = λ e. cc

-- what is written of the whole input
module _ {plan : GrepPlan} {patterns : List Pattern} {name : List ℕ} {s : State} {treated : Treatment} {md : Mode}
    {tells : Bool} {before after : Told} {s_new : State} {old mid : Printed} {met : Result FileEnd Stop}
    (h : Scanned plan patterns name s treated md tells before after s_new old mid met) where
  -- the work of its scan
  abbrev on : Work
  on = work_on plan patterns name (show_in (is_told plan treated) (mode plan))

  is_so : tells ≡ is_told plan treated
  is_so = h.told_is ∙ ap (tells_binary treated) h.mode_is

  abbrev text_of : Scan → Written
  text_of found = written_by plan name (is_told plan treated) s found

  abbrev shown_of : Scan → List ℕ
  shown_of found = shown_out plan name (show_in (is_told plan treated) (mode plan)) s.has_shown found

  abbrev said_of : Scan → List ℕ
  said_of found = flat_map (error_message name) found.tried

  scanned-so : ScansAs on treated (standing before s old) (standing after s_new mid) met
  scanned-so =
      subst (λ x. ScansAs on treated (standing before x old) (standing after s_new mid) met) h.state_is
      (subst (λ x. ScansAs (work_on plan patterns name x) treated (standing before h.state old)
      (standing after s_new mid) met) (h.shows_is ∙ (λ i. show_in (is_so i) (h.mode_is i))) h.scans)

  -- of this treatment
  abbrev tells_so : Treatment → Written → Scan → Printed → Result FileEnd Stop → Type 0
  tells_so t w found new result =
      GrepsTo w s_new old new result × LeavesTo (work_on plan patterns name (show_in (is_told plan t) (mode plan))) s
      w found s_new result × LeavesRest w.ended w.within before after result

  -- a part of it was written, and this counts
  stopped : (found : Scan) {new : Printed} (stop : Stop) → stop ≢ TooManyErrors
      → Breaks (text_of found).out (text_of found).err old new (stop ≡ SinkFault)
      → (s_new ≡ (text_of found).state) ⊎ CountsPart on s found s_new
      → LeavesRest {T = FileEnd} found.ended found.within before after (Err stop)
      → tells_so treated (text_of found) found new (Err stop)
  stopped found SinkFault other b left rest = (b, left, rest)
  stopped found Memory other b left rest = (b, left, tt)
  stopped found TooManyErrors other b left rest = absurd (other refl)

  -- after the scan a write was refused
  rest-refused : (found : Scan) (fault : IoError) → (found.ended ≡ early → TakesLittlePast found.within before after)
      → LeavesRest {T = FileEnd} found.ended found.within before after (Err (stop_of fault))
  rest-refused found io.Failed rest = rest
  rest-refused found io.Memory rest = tt

  -- what is told of the input as it is scanned is told of it as it is treated
  treated-so : (new : Printed) (heard : Input) (result : Result FileEnd Stop)
      → (let x : Scan = scan plan patterns s.errors (scanned_as plan heard) (lines plan heard) in
      tells_so (scanned_as plan heard) (written_by plan name (is_told plan (scanned_as plan heard)) s x) x new
      result)
      → (let x : Scan = scan plan patterns s.errors (treatment plan heard) (lines plan heard) in
      tells_so (treatment plan heard) (written_by plan name (is_told plan (treatment plan heard)) s x) x new
      result)
  treated-so new heard result =
      let at_told = λ (b : Bool) (x : Scan).
      GrepsTo (written_by plan name b s x) s_new old new result × LeavesTo
      (work_on plan patterns name (show_in b (mode plan))) s (written_by plan name b s x) x s_new result
      × LeavesRest {T = FileEnd} (written_by plan name b s x).ended (written_by plan name b s x).within before after
      result in
      as-treated plan heard (λ t. at_told (is_told plan t) (scan plan patterns s.errors t (lines plan heard)))
      (λ untold so. subst (λ b. at_told b (scan plan patterns s.errors AsBinary (lines plan heard)))
      (told-alike plan patterns untold)
      (subst (at_told (is_told plan AsText)) (scan-alike plan patterns untold s.errors (lines plan heard)) so))

  grep-by : {new : Printed} (came : Result FileEnd Stop) → met ≡ came → (result : Result FileEnd Stop)
      → ((found : Scan) → ScansSo on s found s_new old mid came
      → LeavesRest found.ended found.within before after came
      → tells_so treated (text_of found) found new result)
      → ((found : Rows) → AreNumbered 1 found.rows → ScansSo on s (scan plan patterns s.errors treated found) s_new
      old mid came
      → (let x : Scan = scan plan patterns s.errors treated found in LeavesRest x.ended x.within before after came)
      → WhereRefused came (StopsSoon on treated s found before after old.out mid.out)
      → WhereRefused result (RefusesSoon plan patterns name s treated found.rows before after old.out new.out))
      → Greps plan patterns name (standing before s old) (standing after s_new new) result
  unfolding input_text
  grep-by {new} came is result goes soon =
      let so = scanned-so in
      let found = scan plan patterns s.errors treated (lines plan so.heard) in
      let both = treated-so new so.heard result
      (subst (λ t. let x : Scan = scan plan patterns s.errors t (lines plan so.heard) in
      tells_so t (written_by plan name (is_told plan t) s x) x new result) (sym so.treats)
      (goes found (subst (ScansSo on s found s_new old mid) is so.scans)
      (subst (LeavesRest {T = FileEnd} found.ended found.within before after) is so.rest))) in
      record {
        heard = so.heard;
        hears = so.hears;
        greps = both.0;
        left = both.1;
        rest = both.2;
        refused = as-treated plan so.heard
            (λ t. WhereRefused result (RefusesSoon plan patterns name s t (lines plan so.heard).rows before after
            old.out new.out))
            (λ untold. refused-alike plan patterns untold name s result (lines plan so.heard).rows before after
            old.out new.out)
            (subst (λ t. WhereRefused result (RefusesSoon plan patterns name s t (lines plan so.heard).rows before
            after old.out new.out)) (sym so.treats)
            (soon (lines plan so.heard) (rows-numbered (line_end plan) plan.max_buffer_size so.heard)
            (subst (ScansSo on s found s_new old mid) is so.scans)
            (subst (LeavesRest {T = FileEnd} found.ended found.within before after) is so.rest)
            (subst (λ r. WhereRefused r (StopsSoon on treated s (lines plan so.heard) before after old.out mid.out))
            is so.refused)));
      }

  at_least : AtLeastOne (greatest_selected plan treated)
  at_least = some-most (is_told plan treated) (mode plan) plan.max_count h.some

  -- after all was shown a write was refused
  all-shown : (new : Kept) (found : Rows) (text : List ℕ) → AreNumbered 1 found.rows
      → Appends old.out.held mid.out.held (shown_of (scan plan patterns s.errors treated found))
      → AppendsPrefix mid.out.held new.held text
      → (let x : Scan = scan plan patterns s.errors treated found in x.ended ≡ early
      → TakesLittlePast x.within before after) → (fault : IoError)
      → WhereRefused {T = FileEnd} (Err (stop_of fault))
      (RefusesSoon plan patterns name s treated found.rows before after old.out new)
  all-shown new found text numbered wrote more rest io.Failed = λ plain written n to cut.
      refuses-ended plan patterns name s h.few found before after old.out new numbered plain written n to treated
      at_least cut
      (grew-part (shown_of (scan plan patterns s.errors treated found)) text old.out.held mid.out.held new.held wrote
      more) rest
  all-shown new found text numbered wrote more rest io.Memory = tt

  out-end : (found : Scan) (ended : Ended) → out_text plan name (is_told plan treated) s.has_shown found
      (ended_of ended) ≡ shown_of found ++ end_out plan name (mode plan) (is_told plan treated)
      (length (selected_in plan found))
  out-end found told.End = refl
  out-end found told.Early = refl
  out-end found told.ReadFault = refl
  out-end found (told.TooLong line) = refl
  out-end found told.TooMuch = refl

  -- where the scan came to its end, what is told after it
  module _ (end : FileEnd) (is : met ≡ Ok end) where
    out-is : (found : Scan) → ScansSo on s found s_new old mid (Ok end)
        → shown_of found ++ end_out plan name md tells end.selected ≡ (text_of found).out
    out-is found scans =
        sym (ap (out_text plan name (is_told plan treated) s.has_shown found) scans.2 ∙ out-end found end.ended
        ∙ (λ i. shown_of found ++ end_out plan name (sym h.mode_is i) (sym is_so i) (sym scans.1 i)))

    said-is : (found : Scan) → ScansSo on s found s_new old mid (Ok end)
        → said_of found ++ ended_message plan.no_messages name (ended_of end.ended) ≡ (text_of found).err
    said-is found scans = ap (λ x. said_of found ++ ended_message plan.no_messages name x) (sym scans.2)

    pub greps-all : {new : Printed} → Wrote (end_out plan name md tells end.selected)
        (ended_message plan.no_messages name (ended_of end.ended)) mid new
        → Greps plan patterns name (standing before s old) (standing after s_new new) (Ok end)
    greps-all {new} next = grep-by (Ok end) is (Ok end) (λ found scans rest. (
      record {
        wrote = subst (λ x. Wrote x (text_of found).err old new) (out-is found scans)
            (subst (λ x. Wrote (shown_of found ++ end_out plan name md tells end.selected) x old new)
            (said-is found scans) (wrote-more _ _ _ _ scans.0.wrote next));
        selected = scans.1;
        ended = scans.2;
        state = scans.0.state;
      },
      tt,
      rest,
    )) (λ found numbered scans rest refused. tt)

    pub greps-breaks : {new : Printed} (fault : IoError) (result : Result FileEnd Stop) → result ≡ Err (stop_of fault)
        → Breaks (end_out plan name md tells end.selected) (ended_message plan.no_messages name (ended_of end.ended))
        mid new (stop_of fault ≡ SinkFault)
        → Greps plan patterns name (standing before s old) (standing after s_new new) result
    greps-breaks {new} fault result so next =
        subst (Greps plan patterns name (standing before s old) (standing after s_new new)) (sym so)
        (grep-by (Ok end) is (Err (stop_of fault)) (λ found scans rest.
        stopped found (stop_of fault) (stop-other fault)
        (subst (λ x. Breaks x (text_of found).err old new (stop_of fault ≡ SinkFault)) (out-is found scans)
        (subst (λ x. Breaks (shown_of found ++ end_out plan name md tells end.selected) x old new
        (stop_of fault ≡ SinkFault)) (said-is found scans)
        (wrote-breaks _ _ _ _ scans.0.wrote (stop_of fault ≡ SinkFault) next)))
        (inl scans.0.state) (rest-refused found fault rest))
        (λ found numbered scans rest refused. all-shown new.out found (end_out plan name md tells end.selected)
        numbered scans.0.wrote.out next.out rest fault))

  -- where there were too many match errors, the message that says so
  module _ (is : met ≡ Err TooManyErrors) where
    many-out : (found : Scan) → found.ended ≡ too_many_errors → shown_of found ++ [] ≡ (text_of found).out
    many-out found ended = sym (ap (out_text plan name (is_told plan treated) s.has_shown found) ended
        ∙ sym (append-nil _))

    many-said : (found : Scan) → found.ended ≡ too_many_errors
        → said_of found ++ message (codes "too many match errors") ≡ (text_of found).err
    many-said found ended = ap (λ x. said_of found ++ ended_message plan.no_messages name x) (sym ended)

    pub greps-many : {err_new : Kept} (u : Unit {0}) → Writes (message (codes "too many match errors")) mid.err
        err_new (Ok u) → Greps plan patterns name (standing before s old)
        (standing after s_new (printed mid.out err_new)) (Err TooManyErrors)
    greps-many {err_new} u w = grep-by (Err TooManyErrors) is (Err TooManyErrors) (λ found scans rest. (
      (
        subst (λ x. Wrote x (text_of found).err old (printed mid.out err_new)) (many-out found scans.1)
            (subst (λ x. Wrote (shown_of found ++ []) x old (printed mid.out err_new)) (many-said found scans.1)
            (wrote-more _ _ _ _ scans.0.wrote (wrote-err _ mid.out mid.err err_new u w))),
        scans.1,
        scans.0.state,
      ),
      tt,
      tt,
    )) (λ found numbered scans rest refused. tt)

    pub greps-untold : {err_new : Kept} (fault : IoError) (result : Result FileEnd Stop)
        → result ≡ Err (stop_of fault) → Writes {T = Unit {0}} (message (codes "too many match errors")) mid.err
        err_new (Err fault)
        → Greps plan patterns name (standing before s old) (standing after s_new (printed mid.out err_new)) result
    greps-untold {err_new} fault result so w =
        subst (Greps plan patterns name (standing before s old) (standing after s_new (printed mid.out err_new)))
        (sym so)
        (grep-by (Err TooManyErrors) is (Err (stop_of fault)) (λ found scans rest.
        stopped found (stop_of fault) (stop-other fault)
        (subst (λ x. Breaks x (text_of found).err old (printed mid.out err_new) (stop_of fault ≡ SinkFault))
        (many-out found scans.1)
        (subst (λ x. Breaks (shown_of found ++ []) x old (printed mid.out err_new) (stop_of fault ≡ SinkFault))
        (many-said found scans.1)
        (wrote-breaks _ _ _ _ scans.0.wrote (stop_of fault ≡ SinkFault)
        (breaks-err [] _ mid.out mid.err err_new fault w))))
        (inl scans.0.state) (rest-refused found fault (λ e. absurd (many-early (sym scans.1 ∙ e)))))
        (λ found numbered scans rest refused. all-shown mid.out found [] numbered scans.0.wrote.out
        (prefix-none mid.out.held []) (λ e. absurd (many-early (sym scans.1 ∙ e))) fault))

  -- the scan was cut off
  longer : (found : Scan) (ended : meant.Ended) → AppendsPrefix old.out.held mid.out.held (shown_of found)
      → AppendsPrefix old.out.held mid.out.held (out_text plan name (is_told plan treated) s.has_shown found ended)
  longer found (at_finish finish) part = prefix-front _ _ _ _ part
  longer found early part = prefix-front _ _ _ _ part
  longer found too_many_errors part = part

  cut-off : (found : Scan) (stop : Stop) → stop ≢ TooManyErrors → ScansSo on s found s_new old mid (Err stop)
      → LeavesRest {T = FileEnd} found.ended found.within before after (Err stop)
      → tells_so treated (text_of found) found mid (Err stop)
  cut-off found SinkFault other b rest = (
    record {
      out = longer found found.ended b.0.out;
      err = prefix-front _ _ _ _ b.0.err;
      cause = b.0.cause;
      steady = b.0.steady;
    },
    inr b.1,
    rest,
  )
  cut-off found Memory other b rest = (
    record {
      out = longer found found.ended b.0.out;
      err = prefix-front _ _ _ _ b.0.err;
      cause = b.0.cause;
      steady = b.0.steady;
    },
    inr b.1,
    tt,
  )
  cut-off found TooManyErrors other b rest = absurd (other refl)

  cut-soon : (stop : Stop) → stop ≢ TooManyErrors → (found : Rows) → AreNumbered 1 found.rows
      → WhereRefused {T = FileEnd} (Err stop) (StopsSoon on treated s found before after old.out mid.out)
      → WhereRefused {T = FileEnd} (Err stop) (RefusesSoon plan patterns name s treated found.rows before after
      old.out mid.out)
  cut-soon SinkFault other found numbered soon = λ plain written n to cut. refuses-soon plan patterns name s h.few
      found before after old.out mid.out numbered plain written n to treated at_least cut soon
  cut-soon Memory other found numbered soon = tt
  cut-soon TooManyErrors other found numbered soon = absurd (other refl)

  pub greps-cut : (stop : Stop) → met ≡ Err stop → stop ≢ TooManyErrors
      → Greps plan patterns name (standing before s old) (standing after s_new mid) (Err stop)
  greps-cut stop is other = grep-by (Err stop) is (Err stop) (λ found scans rest. cut-off found stop other scans rest)
      (λ found numbered scans rest refused. cut-soon stop other found numbered refused)

pub fault-other : SinkFault ≢ TooManyErrors
fault-other e = cc

pub memory-other : Memory ≢ TooManyErrors
memory-other e = cc

-- memory lacked before the input was looked at
pub greps-lacks : {plan : GrepPlan} {patterns : List Pattern} {name : List ℕ} {s s_new : State} {before after : Told}
    (out err : Kept) (stop : Stop) (result : Result FileEnd Stop) → s_new ≡ s → result ≡ Err stop → stop ≡ Memory
    → (heard : Input) × Hears before after heard → Greps plan patterns name (standing before s (printed out err))
    (standing after s_new (printed out err)) result
greps-lacks {plan} {patterns} {name} {s} {s_new} {before} {after} out err stop result kept is lacks any =
    subst (λ (now : State). Greps plan patterns name (standing before s (printed out err))
    (standing after now (printed out err)) result) (sym kept)
    (subst (Greps plan patterns name (standing before s (printed out err)) (standing after s (printed out err)))
    (sym (is ∙ ap Err lacks))
    (record {
      heard = any.0;
      hears = any.1;
      greps = breaks-none _ _ out err Memory refl;
      left = inr (none-counts _ s _);
      rest = tt;
      refused = tt;
    }))

-- the same of equal texts and an equal answer
pub greps-moved : {plan : GrepPlan} {patterns : List Pattern} {name : List ℕ} {before after : Told} {s s_new : State}
    {old : Printed} (out out_then err err_then : Kept) (result result_then : Result FileEnd Stop)
    → out ≡ out_then → err ≡ err_then → result ≡ result_then
    → Greps plan patterns name (standing before s old) (standing after s_new (printed out_then err_then)) result_then
    → Greps plan patterns name (standing before s old) (standing after s_new (printed out err)) result
greps-moved {plan} {patterns} {name} {before} {after} {s} {s_new} {old} out out_then err err_then result result_then
    same_out same_err same h =
    subst (λ (o : Kept). Greps plan patterns name (standing before s old) (standing after s_new (printed o err))
    result) (sym same_out)
    (subst (λ (e : Kept). Greps plan patterns name (standing before s old) (standing after s_new (printed out_then e))
    result) (sym same_err)
    (subst (λ (r : Result FileEnd Stop). Greps plan patterns name (standing before s old)
    (standing after s_new (printed out_then err_then)) r) (sym same) h))
