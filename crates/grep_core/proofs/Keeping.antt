-- Lines without a match that are kept for a later one. Behind as many as are kept it is the same whether those before
-- were.
use Rattle.std.proofs.Common.{◌≡◌, ◌≢◌, ℕ, ◌+◌, ◌-◌, ◌<◌, ◌≤◌, min, Option, List, [], ◌∷◌, ◌++◌, length, false, None}
use Rattle.std.proofs.Common.{Ok, refl, sym, ap, subst, ◌∙◌, arith, append_assoc, length-append, if◌then◌else◌}
use Rattle.std.specs.Prelude.{nat_le}
use Rattle.std.specs.List.{All}
use Rattle.std.proofs.lemmas.Bool.{lt-leb}
use Rattle.std.proofs.lemmas.List.Elements.{All-head, All-tail}
use Rattle.circular_buffer.specs.Buffer.{keep_last}
use Rattle.pcre_io.specs.Told.{Told, Kept}
use Rattle.line_feed.specs.Rows.{Row}
use Rattle.line_feed.specs.View.{Feed}
use Rattle.line_feed.specs.Answers.{Gives}
use Rattle.line_feed.specs.Passes.{GivesAll, HoldsLines, LeavesLines, GivesLine}
use Rattle.line_feed.specs.declared.phase.Phase.TheVariants.{Closed}
use Rattle.line_feed.proofs.Passing.{all-append, all-more}
use Rattle.grep_match.specs.Matches.{Matches, tried_row, matches, is_selected, selects}
use Rattle.tool_io.specs.Texts.{text_if}
use Rattle.tool_io.specs.Printed.{printed}
use Rattle.tool_io.specs.Writes.{WritesAll}
use Rattle.tool_io.proofs.Printing.{prefix-none}
use Rattle.grep_output.specs.declared.shows.Show.TheVariants.{Lines}
use Rattle.grep_output.specs.declared.ended.Stop.TheVariants.{Memory}
use Rattle.grep_output.specs.declared.state.State.{State}
use Rattle.grep_output.specs.Course as course
use Rattle.grep_output.specs.Course.{passed_out, course_after_passed, line_as}
use Rattle.grep_output.specs.Earlier.{EarlierRows, IsShort}
use Rattle.grep_output.proofs.ReachRows.{last_after, last_last}
use Rattle.grep_watch.specs.declared.watch.Watch.{Watch}
use Rattle.grep_watch.specs.Watched.{Watches, ReachesQuiet, with_quiet}
use Rattle.grep_core.specs.declared.lines.Course.{Course}
use Rattle.grep_core.specs.declared.lines.Next.TheVariants.{Line}
use Rattle.grep_core.specs.Turns.{course_of, Takes}
use Rattle.grep_core.specs.Work.{Work, progress}
use Rattle.grep_core.specs.Unseen.{KeepsUnmatched}
use Rattle.grep_core.specs.Kept.{kept_rows, KeepsLines}
use Rattle.grep_core.specs.Ahead.{TakesRows, TakesAhead, HaltsAhead}
use Rattle.grep_core.proofs.Taking.{passed-takes}
use Rattle.grep_core.proofs.ScansTexts.{writes-none}
use Rattle.grep_core.proofs.ScansLoop.{gave}
use Rattle.grep_core.proofs.Unseen.{live-all, max-all}

-- any source
pub any : Told
any = record { left = None; stop = None; faults = 0 }

-- Rows that are added one after the other.

rows-more : (n : ℕ) (kept rows : List Row) (row : Row)
    → kept_rows n kept (rows ++ row ∷ []) ≡ keep_last n (kept_rows n kept rows ++ row ∷ [])
rows-more n kept [] row = refl
rows-more n kept (first ∷ rows) row = rows-more n (keep_last n (kept ++ first ∷ [])) rows row

rows-append : (n : ℕ) (kept front rows : List Row) → kept_rows n kept (front ++ rows) ≡ kept_rows n
    (kept_rows n kept front) rows
rows-append n kept [] rows = refl
rows-append n kept (first ∷ front) rows = rows-append n (keep_last n (kept ++ first ∷ [])) front rows

rows-last : (n : ℕ) (kept : List Row) (row : Row) (rows : List Row)
    → kept_rows n kept (row ∷ rows) ≡ keep_last n (kept ++ row ∷ rows)
rows-last n kept row [] = refl
rows-last n kept row (next ∷ rows) =
    rows-last n (keep_last n (kept ++ row ∷ [])) next rows
    ∙ last_last n (kept ++ row ∷ []) (next ∷ rows)
    ∙ ap (λ (l : List Row). keep_last n l) (append_assoc kept (row ∷ []) (next ∷ rows))

rows-same : (n : ℕ) (xs ys rows : List Row) → 0 < n → n ≤ length rows → kept_rows n xs rows ≡ kept_rows n ys rows
rows-same n xs ys [] some many = absurd (omega (arith, some, many))
rows-same n xs ys (row ∷ rows) some many =
    rows-last n xs row rows ∙ last_after n xs (row ∷ rows) many ∙ sym (last_after n ys (row ∷ rows) many)
    ∙ sym (rows-last n ys row rows)

-- behind as many as are kept it is the same what was added before them
rows-behind : (n : ℕ) (kept front rows : List Row) → 0 < n → length rows ≡ n
    → kept_rows n kept (front ++ rows) ≡ kept_rows n kept rows
rows-behind n kept front rows some many = rows-append n kept front rows
    ∙ rows-same n (kept_rows n kept front) kept rows some (omega (arith, many))

-- Lines that the feed gives of those that it holds.

abbrev with_rows : List Row → EarlierRows → EarlierRows
with_rows rows e = record e { rows = rows }

abbrev with_line : Row → EarlierRows → EarlierRows
with_line row e = record e { rows = keep_last e.limit (e.rows ++ row ∷ []) }

-- so many were kept so far, of as many as it held
pub record KeptSo (f0 f : Feed) (e0 e : EarlierRows) (within lines done bytes : ℕ) : Type 0 where
  pub keeps : KeepsLines f0 f e0 e within done bytes
  pub holds : HoldsLines f (within - bytes) (lines - done)

pub kept-begun : (f : Feed) (e : EarlierRows) (within lines : ℕ) → HoldsLines f within lines
    → KeptSo f f e e within lines 0 0
kept-begun f e within lines holds =
    let all : within ≡ within - 0 = omega arith in
    let each : lines ≡ lines - 0 = omega arith in
    record {
      keeps = record {
        rows = [];
        many = refl;
        gives = λ now. refl;
        offset = omega arith;
        fits = omega arith;
        kept = refl;
      };
      holds = subst (λ n. HoldsLines f n (lines - 0)) all (subst (HoldsLines f within) each holds);
    }

-- a line more is there
pub kept-next : (f0 f : Feed) (e0 e : EarlierRows) (within lines done bytes : ℕ) → done < lines
    → KeptSo f0 f e0 e within lines done bytes → HoldsLines f (within - bytes) (lines - (done + 1) + 1)
kept-next f0 f e0 e within lines done bytes more so =
    let left : lines - done ≡ lines - (done + 1) + 1 = omega (arith, more) in
    subst (HoldsLines f (within - bytes)) left so.holds

pub kept-one : (f : Feed) (within lines : ℕ) → HoldsLines f within (lines + 1) → HoldsLines f within 1
kept-one f within lines held = let many = held.many in record {
  kind = held.kind;
  held = held.held;
  room = held.room;
  many = omega (arith, many);
}

-- it is as short as those that are kept, and so is all of them
pub record IsLittle (e : EarlierRows) (row : Row) (most bytes : ℕ) : Type 0 where
  pub short : IsShort e.longest row
  pub little : bytes + (length row.bytes + length row.newline) ≤ most

pub kept-little : (f0 f g : Feed) (e0 e : EarlierRows) (row : Row) (within lines done bytes most : ℕ)
    → HoldsLines f0 within lines → f0.max ≤ most → f0.max ≤ e0.longest → done < lines → GivesLine f g → row ≡ g.row
    → KeptSo f0 f e0 e within lines done bytes → IsLittle e row most bytes
kept-little f0 f g e0 e row within lines done bytes most held small short more given is so =
    let fits = given.fits (within - bytes) (lines - (done + 1)) (kept-next f0 f e0 e within lines done bytes more so) in
    let long = ap (λ (r : Row). length r.bytes) is in
    let ends = ap (λ (r : Row). length r.newline) is in
    let had = so.keeps.fits in
    let room = held.room in
    let same = ap (λ (x : EarlierRows). x.longest) so.keeps.kept in
    record {
      short = omega (arith, fits, long, ends, room, same, short);
      little = omega (arith, fits, had, long, ends, room, small);
    }

-- it is kept too
pub kept-step : (f0 f g : Feed) (e0 e d : EarlierRows) (row : Row) (within lines done bytes n : ℕ) → done < lines
    → GivesLine f g → row ≡ g.row → d ≡ with_line row e → n ≡ bytes + (length row.bytes + length row.newline)
    → KeptSo f0 f e0 e within lines done bytes → KeptSo f0 g e0 d within lines (done + 1) n
kept-step f0 f g e0 e d row within lines done bytes n more given is adds sum so =
    let keeps = so.keeps in
    let holds = kept-next f0 f e0 e within lines done bytes more so in
    let fits = given.fits (within - bytes) (lines - (done + 1)) holds in
    let long = ap (λ (r : Row). length r.bytes) is in
    let ends = ap (λ (r : Row). length r.newline) is in
    let had = keeps.fits in
    let count = keeps.many in
    let rest : within - bytes - (length g.row.bytes + length g.row.newline) ≡ within - n =
    omega (arith, sum, long, ends) in
    let gives = given.gives any in
    let kept_offset = gives.reads.moves.offset in
    let row_offset = gives.cuts.offset in
    let next_offset = gives.cuts.next_offset in
    let had_offset = keeps.offset in
    record {
      keeps = record {
        rows = keeps.rows ++ row ∷ [];
        many = let whole = length-append keeps.rows (row ∷ []) in omega (arith, whole, count);
        gives = λ at.
            all-append at within within bytes f0 f g keeps.rows (row ∷ []) (keeps.gives at) keeps.offset (
              omega (arith, fits, long, ends),
              omega (arith, fits, long, ends),
              (g, subst (Gives f g at at) (sym is) (given.gives at), refl),
            );
        offset = omega (arith, kept_offset, row_offset, next_offset, had_offset, sum, long, ends);
        fits = omega (arith, sum, long, ends, fits, had);
        kept = adds ∙ ap (with_line row) keeps.kept ∙ ap (λ (l : List Row). with_rows l e0)
            (sym (rows-more e0.limit e0.rows keeps.rows row));
      };
      holds = subst (λ m. HoldsLines g m (lines - (done + 1))) rest
          (given.holds (within - bytes) (lines - (done + 1)) holds);
    }

-- What the scan makes of them.

module _ (work : Work) (most : Option ℕ) where
  abbrev IsNone : Row → Type 0
  IsNone row = matches work.plan work.patterns row.bytes ≡ Ok []

  abbrev with_kept : Course → List Row → Course
  with_kept c rows =
      record c { earlier = record c.earlier { rows = kept_rows work.plan.before_context c.earlier.rows rows } }

  kept-takes : (c : Course) (row : Row) (s : State) (out err : Kept) → work.plan.invert_match ≡ false
      → work.show ≡ Lines → c.context_to < row.number → IsNone row → s.errors ≤ 20
      → Takes work most (tried_row work.plan work.patterns row) (progress c s (printed out err))
      (progress (with_kept c (row ∷ [])) s (printed out err)) Line
  kept-takes c row s out err upright shown behind none few =
      let t = tried_row work.plan work.patterns row in
      let past : nat_le row.number c.context_to ≡ false = lt-leb row.number c.context_to behind in
      let unselected : is_selected work.plan t ≡ false = ap (λ (m : Matches). selects work.plan.invert_match m) none
      ∙ upright in
      let unseen : passed_out work.plan work.name work.show (course_of c) t ≡ [] =
      ap (λ v. passed_out work.plan work.name v (course_of c) t) shown
      ∙ ap (λ b. text_if b (line_as work.plan work.name false row)) past in
      let kept : course.Course =
      record (course_of c) { earlier = keep_last work.plan.before_context (c.earlier.rows ++ row ∷ []) } in
      let after : course_after_passed work.plan work.show (course_of c) row ≡ kept =
      ap (λ v. course_after_passed work.plan v (course_of c) row) shown
      ∙ ap (λ b. if b then course_of c else kept) past in
      passed-takes work most t [] none c (with_kept c (row ∷ [])) s out out err unselected few (record {
        wrote = subst (λ l. WritesAll l out out) (sym unseen) (writes-none out);
        stands = sym after;
        limit = refl;
        longest = refl;
      })

  kept-rows : (now : Told) (longest : ℕ) (g : Feed) (s : State) (out err : Kept) → work.plan.invert_match ≡ false
      → work.show ≡ Lines → s.errors ≤ 20
      → (rows : List Row) (within : ℕ) (f : Feed) (c : Course) → c.context_to ≤ f.number → All IsNone rows
      → GivesAll now within longest f g rows
      → TakesRows work most (progress c s (printed out err)) (progress (with_kept c rows) s (printed out err)) rows
  kept-rows now longest g s out err upright shown few [] within f c past none all = refl
  kept-rows now longest g s out err upright shown few (row ∷ rows) within f c past none all =
      let mid = all.2.0 in
      let grew = gave f mid now now row all.2.1 in
      let number = grew.number in
      let row_number = grew.row_number in (
        progress (with_kept c (row ∷ [])) s (printed out err),
        kept-takes c row s out err upright shown (omega (arith, past, row_number)) (All-head IsNone row rows none) few,
        kept-rows now longest g s out err upright shown few rows (within - (length row.bytes + length row.newline))
            mid (with_kept c (row ∷ [])) (omega (arith, past, number)) (All-tail IsNone row rows none) all.2.2,
      )

  -- Behind those that were passed over.
  module _ (f0 f1 : Feed) (within lines passed : ℕ) (leaves : LeavesLines f0 f1 within lines passed) where
    pub left-live : f0.phase ≢ Closed → f1.phase ≢ Closed
    left-live live = live-all work any within f1 leaves.passes.rows within f0 (leaves.passes.gives any) live

    pub left-max : f1.max ≡ f0.max
    left-max = max-all work any within f1 leaves.passes.rows within f0 (leaves.passes.gives any)

  -- memory lacked
  pub kept-halts : (f g : Feed) (c d : Course) (s : State) (out err : Kept) → d.selected ≡ c.selected
      → HaltsAhead work most f g (progress c s (printed out err)) (progress d s (printed out err)) Memory
  kept-halts f g c d s out err same = record {
    within = 0;
    longest = 0;
    rows = [];
    behind = f;
    gives = λ now. refl;
    whole = progress c s (printed out err);
    takes = refl;
    text = [];
    wrote = writes-none out;
    halts = (prefix-none out.held [], refl);
    unsaid = refl;
    err = refl;
    selected = same;
    state = refl;
  }

-- Lines were passed over, and those behind them kept.
module _ (work : Work) (f0 f1 f2 : Feed) (within passed bytes : ℕ) (e0 e : EarlierRows)
    (leaves : LeavesLines f0 f1 within work.plan.before_context passed)
    (keeps : KeepsLines f1 f2 e0 e (min within f0.max - passed) work.plan.before_context bytes) where
  abbrev all_rows : List Row
  all_rows = leaves.passes.rows ++ keeps.rows

  gives-both : (now : Told) → GivesAll now within within f0 f2 all_rows
  gives-both now =
      let m = min within f0.max - passed in
      all-append now within within passed f0 f1 f2 leaves.passes.rows keeps.rows (leaves.passes.gives now)
      leaves.passes.offset
      (all-more now m (within - passed) m within f1 f2 keeps.rows (omega arith) (omega arith) (keeps.gives now))

  sum-both : f2.offset ≡ f0.offset + (passed + bytes)
  sum-both = let first = leaves.passes.offset in let rest = keeps.offset in omega (arith, first, rest)

  pub kept-watches : (w : Watch) → ReachesQuiet work.plan work.patterns w f0 within
      → Watches work.plan work.patterns (with_quiet w (w.quiet - passed - bytes)) f2.held
  kept-watches w reaches =
      let less : w.quiet - (passed + bytes) ≡ w.quiet - passed - bytes = omega arith in
      subst (λ n. Watches work.plan work.patterns (with_quiet w n) f2.held) less
      (reaches.over f2 all_rows (passed + bytes) gives-both sum-both).1

  pub kept-ahead : (most : Option ℕ) (w : Watch) (c : Course) (s : State) (out err : Kept) → e0 ≡ c.earlier
      → c.earlier.limit ≡ work.plan.before_context → KeepsUnmatched work.plan work.show (course_of c) f0.number
      → s.errors ≤ 20
      → ReachesQuiet work.plan work.patterns w f0 within
      → TakesAhead work most f0 f2 (progress c s (printed out err))
      (progress (record { selected = c.selected; context_to = c.context_to; earlier = e }) s (printed out err))
  kept-ahead most w c s out err had limit unmatched few reaches =
      let over = reaches.over f2 all_rows (passed + bytes) gives-both sum-both in
      let n = work.plan.before_context in
      let kept : e ≡ with_rows (kept_rows n c.earlier.rows keeps.rows) c.earlier =
      keeps.kept ∙ ap (λ (x : EarlierRows). with_rows (kept_rows x.limit x.rows keeps.rows) x) had
      ∙ ap (λ m. with_rows (kept_rows m c.earlier.rows keeps.rows) c.earlier) limit in
      let both : with_rows (kept_rows n c.earlier.rows all_rows) c.earlier ≡ e =
      ap (λ (l : List Row). with_rows l c.earlier)
      (rows-behind n c.earlier.rows leaves.passes.rows keeps.rows unmatched.some keeps.many) ∙ sym kept in
      record {
        within = within;
        longest = within;
        rows = all_rows;
        gives = gives-both;
        takes = subst (λ (x : EarlierRows). let d : Course = record {
          selected = c.selected;
          context_to = c.context_to;
          earlier = x;
        } in TakesRows work most (progress c s (printed out err))
            (progress d s (printed out err)) all_rows) both
            (kept-rows work most any within f2 s out err unmatched.upright unmatched.lines few all_rows within f0 c
            unmatched.past over.0 (gives-both any));
      }
