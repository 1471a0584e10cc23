-- Lines that are passed over unseen: the scan stands behind them as if each had been taken.
use Rattle.std.proofs.Common.{◌≡◌, ◌≢◌, ℕ, ◌+◌, ◌-◌, ◌^◌, ◌<◌, ◌≤◌, List, [], ◌∷◌, length, Option, None, Ok, refl}
use Rattle.std.proofs.Common.{sym, ap, subst, ◌∙◌, arith}
use Rattle.std.specs.List.{All}
use Rattle.std.proofs.KnownBytes.{Appends-nil}
use Rattle.pcre_io.specs.Told.{Told, Kept}
use Rattle.line_feed.specs.Rows.{Row}
use Rattle.line_feed.specs.View.{Feed}
use Rattle.line_feed.specs.declared.phase.Phase.TheVariants.{Closed}
use Rattle.line_feed.specs.Passes.{GivesAll}
use Rattle.line_feed.proofs.Given.{live-gives}
use Rattle.tool_io.specs.Writes.{WritesAll}
use Rattle.tool_io.specs.Printed.{printed}
use Rattle.grep_match.specs.Matches.{tried_row, matches}
use Rattle.grep_output.specs.declared.shows.Treatment.{Treatment}
use Rattle.grep_output.specs.declared.state.State.{State}
use Rattle.grep_output.specs.Course as course
use Rattle.grep_core.specs.declared.lines.Course.{Course}
use Rattle.grep_core.specs.declared.lines.Next.TheVariants.{Line}
use Rattle.grep_watch.specs.declared.watch.Watch.{Watch}
use Rattle.grep_core.specs.Turns.{course_of, Takes}
use Rattle.grep_core.specs.Work.{Work, progress}
use Rattle.grep_watch.specs.Watched.{Watches, PassesOver}
use Rattle.grep_core.specs.Unseen.{IsUnseen, HidesUnmatched, PassesUnseen}
use Rattle.grep_watch.proofs.Passing.{all-nil, all-cons, all-tail}
use Rattle.grep_core.proofs.Taking.{passed-takes}
use Rattle.grep_core.proofs.ScansLoop.{keeps-more, gave}
use Rattle.grep_core.specs.Underway.{Standing, Keeps}
use Rattle.grep_core.proofs.ScansTaken.{standing-line}

module _ (work : Work) where
  abbrev IsNone : Row → Type 0
  IsNone row = matches work.plan work.patterns row.bytes ≡ Ok []

  abbrev IsHidden : course.Course → Row → Type 0
  IsHidden c row = IsUnseen work.plan work.name work.show c (tried_row work.plan work.patterns row)

  hidden-all : (c : course.Course) (now : Told) (longest : ℕ) (rows : List Row) (within : ℕ) (f g : Feed)
      → HidesUnmatched work.plan work.name work.show c f.number → All IsNone rows
      → GivesAll now within longest f g rows → All (IsHidden c) rows
  hidden-all c now longest [] within f g hides none all = all-nil (IsHidden c)
  hidden-all c now longest (row ∷ rows) within f g hides none all =
      let mid = all.2.0 in
      let grew = gave f mid now now row all.2.1 in
      let number = grew.number in
      let row_number = grew.row_number in
      all-cons (IsHidden c) row rows (hides (tried_row work.plan work.patterns row) (none 0 row (omega arith))
      (omega arith))
      (hidden-all c now longest rows (within - (length row.bytes + length row.newline)) mid g
      (λ t is behind. hides t is (omega (arith, number, behind))) (all-tail IsNone row rows none) all.2.2)

  -- they were passed over
  pub unseen-over : (c : course.Course) (w : Watch) (f g : Feed)
      → HidesUnmatched work.plan work.name work.show c f.number → PassesOver work.plan work.patterns w f g
      → PassesUnseen work c w f g
  unseen-over c w f g hides over =
      let now : Told = record { left = None; stop = None; faults = 0 } in
      record {
        over = over;
        unseen = hidden-all c now over.longest over.rows over.within f g hides over.none (over.gives now);
      }

  -- no line was
  pub unseen-none : (c : course.Course) (w : Watch) (f : Feed) → Watches work.plan work.patterns w f.held
      → PassesUnseen work c w f f
  unseen-none c w f had = record {
    over = record {
      within = 0;
      longest = 0;
      rows = [];
      gives = λ now. refl;
      none = all-nil IsNone;
      watches = had;
    };
    unseen = all-nil (IsHidden c);
  }

  -- The scan behind such lines.
  module _ (now : Told) (longest : ℕ) (g : Feed) where
    pub live-all : (rows : List Row) (within : ℕ) (f : Feed) → GivesAll now within longest f g rows → f.phase ≢ Closed
        → g.phase ≢ Closed
    live-all [] within f all live = subst (λ (x : Feed). x.phase ≢ Closed) (sym all) live
    live-all (row ∷ rows) within f all live = live-all rows (within - (length row.bytes + length row.newline)) all.2.0
        all.2.2 (live-gives f all.2.0 now now row all.2.1)

    pub max-all : (rows : List Row) (within : ℕ) (f : Feed) → GivesAll now within longest f g rows → g.max ≡ f.max
    max-all [] within f all = ap (λ (x : Feed). x.max) all
    max-all (row ∷ rows) within f all =
        let grew = gave f all.2.0 now now row all.2.1 in
        max-all rows (within - (length row.bytes + length row.newline)) all.2.0 all.2.2 ∙ grew.max

    offset-all : (rows : List Row) (within : ℕ) (f : Feed) → GivesAll now within longest f g rows → f.offset ≤ g.offset
    offset-all [] within f all = let same = ap (λ (x : Feed). x.offset) all in omega arith
    offset-all (row ∷ rows) within f all =
        let grew = gave f all.2.0 now now row all.2.1 in
        let first = grew.offset in
        let rest = offset-all rows (within - (length row.bytes + length row.newline)) all.2.0 all.2.2 in
        omega (arith, first, rest)

    module _ (most : Option ℕ) (c : Course) (s : State) (out err : Kept) where
      unseen-takes : (row : Row) → IsNone row → s.errors ≤ 20 → IsHidden (course_of c) row
          → Takes work most (tried_row work.plan work.patterns row) (progress c s (printed out err))
          (progress c s (printed out err)) Line
      unseen-takes row is few unseen =
          passed-takes work most (tried_row work.plan work.patterns row) [] is c c s out out err unseen.selected few
          (record {
            wrote = subst (λ l. WritesAll l out out) (sym unseen.out)
                (record { all = Appends-nil out.held; steady = refl });
            stands = sym unseen.course;
            limit = refl;
            longest = refl;
          })

      keeps-all : work.plan.after_context < 2 ^ 32 → (rows : List Row) (within : ℕ) (f : Feed) → All IsNone rows
          → All (IsHidden (course_of c)) rows → GivesAll now within longest f g rows → Keeps f c s → Keeps g c s
      keeps-all few [] within f none hidden all keeps = subst (λ (x : Feed). Keeps x c s) (sym all) keeps
      keeps-all few (row ∷ rows) within f none hidden all keeps =
          let takes = unseen-takes row (none 0 row (omega arith)) keeps.errors (hidden 0 row (omega arith)) in
          keeps-all few rows (within - (length row.bytes + length row.newline)) all.2.0
          (all-tail IsNone row rows none) (all-tail (IsHidden (course_of c)) row rows hidden) all.2.2
          (keeps-more work most f all.2.0 now now row (tried_row work.plan work.patterns row) c s c s out out err err
          Line few refl keeps all.2.1 takes)

      standing-all : (treated : Treatment) (s0 : State) (before : Told) (out0 err0 : Kept) → s.errors ≤ 20
          → (rows : List Row) (within : ℕ) (f : Feed) → All IsNone rows → All (IsHidden (course_of c)) rows
          → GivesAll now within longest f g rows
          → Standing work most treated s0 before now f c s out0 out err0 err
          → Standing work most treated s0 before now g c s out0 out err0 err
      standing-all treated s0 before out0 err0 few [] within f none hidden all standing =
          subst (λ (x : Feed). Standing work most treated s0 before now x c s out0 out err0 err) (sym all) standing
      standing-all treated s0 before out0 err0 few (row ∷ rows) within f none hidden all standing =
          let takes = unseen-takes row (none 0 row (omega arith)) few (hidden 0 row (omega arith)) in
          standing-all treated s0 before out0 err0 few rows (within - (length row.bytes + length row.newline)) all.2.0
          (all-tail IsNone row rows none) (all-tail (IsHidden (course_of c)) row rows hidden) all.2.2
          (standing-line work most treated s0 before now now f all.2.0 row c s c s out0 out out err0 err err standing
          all.2.1 takes)

  -- any source and any sink
  told : Told
  told = record { left = None; stop = None; faults = 0 }

  sink : Kept
  sink = record { held = None; room = None; piece = None; faults = 0 }

  module _ (c : course.Course) (w : Watch) (f g : Feed) (passes : PassesUnseen work c w f g) where
    pub unseen-live : f.phase ≢ Closed → g.phase ≢ Closed
    unseen-live live = live-all told passes.over.longest g passes.over.rows passes.over.within f
        (passes.over.gives told) live

    pub unseen-max : g.max ≡ f.max
    unseen-max = max-all told passes.over.longest g passes.over.rows passes.over.within f (passes.over.gives told)

    pub unseen-offset : f.offset ≤ g.offset
    unseen-offset = offset-all told passes.over.longest g passes.over.rows passes.over.within f (passes.over.gives told)

  module _ (c : Course) (s : State) (w : Watch) (f g : Feed) (passes : PassesUnseen work (course_of c) w f g) where
    pub unseen-keeps : work.plan.after_context < 2 ^ 32 → Keeps f c s → Keeps g c s
    unseen-keeps few keeps = keeps-all told passes.over.longest g None c s sink sink few passes.over.rows
        passes.over.within f passes.over.none passes.unseen (passes.over.gives told) keeps

    pub unseen-standing : (most : Option ℕ) (treated : Treatment) (s0 : State) (before now : Told)
        (out0 out err0 err : Kept) → s.errors ≤ 20
        → Standing work most treated s0 before now f c s out0 out err0 err
        → Standing work most treated s0 before now g c s out0 out err0 err
    unseen-standing most treated s0 before now out0 out err0 err few standing =
        standing-all now passes.over.longest g most c s out err treated s0 before out0 err0 few passes.over.rows
        passes.over.within f passes.over.none passes.unseen (passes.over.gives now) standing
