-- Rows without a match that are written as they stand: one write of all of them is what the scan writes of each.
use Rattle.std.proofs.Common.{◌≡◌, ℕ, ◌+◌, ◌-◌, ◌<◌, ◌≤◌, Bool, true, false, ◌||◌, ◌&&◌, if◌then◌else◌, List, []}
use Rattle.std.proofs.Common.{◌∷◌, ◌++◌, length, take, drop, flat_map, decimal, codes, Option, None, Some, Ok, refl}
use Rattle.std.proofs.Common.{sym, ap, subst, ◌∙◌, arith, ⊎_elim, append_assoc, append-nil, length-append}
use Rattle.std.proofs.Common.{length-drop}
use Rattle.std.specs.Prelude.{nat_lt}
use Rattle.std.proofs.lemmas.Bool.{cases_lt, lt-ltb, false≢true}
use Rattle.std.specs.List.{All}
use Rattle.std.specs.Io.KnownBytes.{Appends, append_known}
use Rattle.std.proofs.lemmas.List.Elements.{All-head, All-tail}
use Rattle.std.proofs.Math.Seq.{take-append_seam}
use Rattle.pcre_io.specs.Told.{Told, Kept}
use Rattle.line_feed.specs.declared.look.Run.{Run}
use Rattle.line_feed.specs.Rows.{Row}
use Rattle.line_feed.specs.View.{Feed}
use Rattle.line_feed.specs.Passes.{GivesAll, skipped}
use Rattle.tool_io.specs.Texts.{text_if}
use Rattle.tool_io.specs.Writes.{WritesAll}
use Rattle.tool_io.specs.Printed.{printed}
use Rattle.grep_args.specs.Effects.{is_empty}
use Rattle.grep_match.specs.Matches.{Tried, Matches, tried_row, matches, selects, is_selected}
use Rattle.grep_output.specs.declared.ended.Stop.{Stop}
use Rattle.grep_output.specs.declared.state.State.{State}
use Rattle.grep_output.specs.Earlier.{EarlierRows}
use Rattle.grep_output.specs.Texts.{newline_of}
use Rattle.grep_output.specs.Course as course
use Rattle.grep_output.specs.Course.{line_as, begins_group, selected_out, course_after_selected, is_lines}
use Rattle.grep_core.specs.declared.lines.Course.{Course}
use Rattle.grep_core.specs.declared.lines.Next.TheVariants.{Line, Context}
use Rattle.grep_watch.specs.declared.watch.Watch.{Watch}
use Rattle.grep_core.specs.Turns.{course_of, is_full, Halts, Takes}
use Rattle.grep_core.specs.Work.{Work, Progress, progress}
use Rattle.grep_watch.specs.Watched.{HasQuietRun}
use Rattle.grep_core.specs.Unseen.{PrintsUnmatched}
use Rattle.grep_core.specs.Ahead.{TakesRows, TakesAhead, HaltsAhead}
use Rattle.grep_core.proofs.Taking.{selected-takes}
use Rattle.grep_core.proofs.ScansLoop.{gave}

-- a row as it stands in its input
abbrev pub whole_text : Row → List ℕ
whole_text row = row.bytes ++ row.newline

-- a source that has nothing left
abbrev pub empty : Told
empty = record { left = Some []; stop = None; faults = 0 }

nothing-taken : (taken : List ℕ) → [] ≡ taken ++ [] → taken ≡ []
nothing-taken taken is = sym (append-nil taken) ∙ sym is

-- rows that were given of bytes that were held stand there one after the other
pub held-rows : (longest : ℕ) (g : Feed) (rows : List Row) (within : ℕ) (f : Feed)
    → GivesAll empty within longest f g rows → f.held ≡ flat_map whole_text rows ++ g.held
held-rows longest g [] within f all = ap (λ (x : Feed). x.held) (sym all)
held-rows longest g (row ∷ rows) within f all =
    let gives = all.2.1 in
    let moves = gives.reads.moves in
    let none = nothing-taken moves.taken moves.left in
    let rest = held-rows longest g rows (within - (length row.bytes + length row.newline)) all.2.0 all.2.2 in
    sym (append-nil f.held) ∙ ap (λ l. f.held ++ l) (sym none) ∙ sym moves.held ∙ gives.cuts.bytes
    ∙ ap (λ l. whole_text row ++ l) rest ∙ sym (append_assoc (whole_text row) (flat_map whole_text rows) g.held)

-- so many rows were given
pub number-rows : (longest : ℕ) (g : Feed) (rows : List Row) (within : ℕ) (f : Feed)
    → GivesAll empty within longest f g rows → g.number ≡ f.number + length rows
number-rows longest g [] within f all = let same = ap (λ (x : Feed). x.number) all in omega arith
number-rows longest g (row ∷ rows) within f all =
    let grew = gave f all.2.0 empty empty row all.2.1 in
    let one = grew.number in
    let rest = number-rows longest g rows (within - (length row.bytes + length row.newline)) all.2.0 all.2.2 in
    omega (arith, one, rest)

front-is : (all front rest : List ℕ) (n : ℕ) → all ≡ front ++ rest → rest ≡ drop n all → n ≤ length all
    → take n all ≡ front
front-is all front rest n is behind within =
    let long = length-append front rest in
    let whole = ap (λ (l : List ℕ). length l) is in
    let left = ap (λ (l : List ℕ). length l) behind ∙ length-drop n all in
    let same : n ≡ length front = omega (arith, long, whole, left, within) in
    ap (λ l. take n l) is ∙ ap (λ k. take k (front ++ rest)) same ∙ take-append_seam front rest

-- the first bytes held are these rows
pub run-text : (longest within : ℕ) (f : Feed) (rows : List Row) (n k : ℕ) → n ≤ length f.held
    → GivesAll empty within longest f (skipped f n k) rows → take n f.held ≡ flat_map whole_text rows
run-text longest within f rows n k held all = front-is f.held (flat_map whole_text rows) (drop n f.held) n
    (held-rows longest (skipped f n k) rows within f all) refl held

-- What is written of one of them.

newline-is : (newline : List ℕ) → 0 < length newline → (if is_empty newline then 10 ∷ [] else newline) ≡ newline
newline-is [] some = absurd (omega arith)
newline-is (b ∷ bs) some = refl

or-true : (b : Bool) → true ≡ (b || true)
or-true true = refl
or-true false = refl

module _ (work : Work) (most : Option ℕ) (row : Row) (some : 0 < length row.newline) where
  abbrev t : Tried
  t = tried_row work.plan work.patterns row

  module _ (c : course.Course) (prints : PrintsUnmatched work.plan work.show most c) where
    line-is : line_as work.plan work.name true row ≡ whole_text row
    line-is =
        ap (λ b. text_if b (work.name ++ codes ":") ++ text_if work.plan.line_number (decimal row.number ++ codes ":")
        ++ row.bytes ++ newline_of row) prints.unnamed
        ∙ ap (λ b. text_if b (decimal row.number ++ codes ":") ++ row.bytes ++ newline_of row) prints.unnumbered
        ∙ ap (λ l. row.bytes ++ l) (newline-is row.newline some)

    shown-is : (has_shown : Bool) → selected_out work.plan work.name work.show has_shown c t ≡ whole_text row
    shown-is has_shown =
        ap (λ s. selected_out work.plan work.name s has_shown c t) prints.lines
        ∙ ap (λ b. text_if (b && (has_shown && begins_group c row.number)) (codes "--\n") ++ flat_map
        (line_as work.plan work.name false) c.earlier ++ line_as work.plan work.name true row) prints.apart
        ∙ ap (λ l. flat_map (line_as work.plan work.name false) l ++ line_as work.plan work.name true row) prints.alone
        ∙ line-is

  after-none : (a b : ℕ) → (nat_lt 0 a || nat_lt 0 b) ≡ false → a ≡ 0
  after-none a b is = ⊎_elim
      (λ (l : 0 < a). absurd (false≢true (sym is ∙ ap (λ x. x || nat_lt 0 b) (lt-ltb 0 a l))))
      (λ (l : a ≤ 0). omega (arith, l))
      (cases_lt 0 a)

  -- it is taken
  pub row-takes : (c c1 : Course) (s s1 : State) (out out1 err : Kept)
      → PrintsUnmatched work.plan work.show most (course_of c) → s.errors ≤ 20
      → matches work.plan work.patterns row.bytes ≡ Ok [] → WritesAll (whole_text row) out out1
      → c1.selected ≡ c.selected + 1 → c1.context_to ≡ row.number → c1.earlier ≡ c.earlier
      → s1 ≡ record s { has_shown = true }
      → Takes work most t (progress c s (printed out err)) (progress c1 s1 (printed out1 err)) Line
  row-takes c c1 s s1 out out1 err prints few none wrote selected context earlier state =
      let after : row.number ≡ row.number + work.plan.after_context = let zero =
      after-none work.plan.after_context work.plan.before_context prints.apart in omega (arith, zero) in
      let chosen : is_selected work.plan t ≡ true = ap (λ (m : Matches). selects work.plan.invert_match m) none
      ∙ prints.inverts in
      let to : course.Course = record {
        selected = c.selected + 1;
        context_to = row.number + work.plan.after_context;
        earlier = [];
      } in
      let stands : course_of c1 ≡ to = λ i. record {
        selected = selected i;
        context_to = (context ∙ after) i;
        earlier = (ap (λ (e : EarlierRows). e.rows) earlier ∙ prints.alone) i;
      } in
      selected-takes work most t [] none c c1 s s1 out out1 err (Ok Line) chosen few (record {
        wrote = subst (λ l. WritesAll l out out1) (sym (shown-is (course_of c) prints s.has_shown)) wrote;
        stands = stands ∙ ap (λ v. course_after_selected work.plan v (course_of c) row) (sym prints.lines);
        limit = ap (λ (e : EarlierRows). e.limit) earlier;
        longest = ap (λ (e : EarlierRows). e.longest) earlier;
        state = state ∙ ap (λ b. let r : State = record s { has_shown = b } in r)
            (or-true s.has_shown ∙ ap (λ v. s.has_shown || is_lines v) (sym prints.lines));
        answer = ap (λ m. if is_full m c1.selected then Context else Line) (sym prints.endless);
      })

-- All of them.

-- a sink that tells what it holds, and then a text more
abbrev pub fuller : Kept → List ℕ → Kept
fuller k text = record k { held = append_known k.held text }

appends-known : (held : Option (List ℕ)) (text : List ℕ) → Appends held (append_known held text) text
appends-known None text = tt
appends-known (Some xs) text = refl

appends-rest : (a b : Option (List ℕ)) (text more : List ℕ) → Appends a b (text ++ more)
    → Appends (append_known a text) b more
appends-rest None b text more all = tt
appends-rest (Some xs) None text more all = absurd all
appends-rest (Some xs) (Some ys) text more all = all ∙ sym (append_assoc xs text more)

pub writes-fuller : (out : Kept) (text : List ℕ) → WritesAll text out (fuller out text)
writes-fuller out text = record { all = appends-known out.held text; steady = refl }

writes-rest : (out out1 : Kept) (text more : List ℕ) → WritesAll (text ++ more) out out1
    → WritesAll more (fuller out text) out1
writes-rest out out1 text more wrote = record {
  all = appends-rest out.held out1.held text more wrote.all;
  steady = wrote.steady;
}

abbrev IsNone : Work → Row → Type 0
IsNone work row = matches work.plan work.patterns row.bytes ≡ Ok []

abbrev HasEnd : Row → Type 0
HasEnd row = 0 < length row.newline

module _ (work : Work) (most : Option ℕ) (longest : ℕ) (g : Feed) (c1 : Course) (s1 : State) (out1 err : Kept) where
  pub rows-take : (row : Row) (rows : List Row) (within : ℕ) (f : Feed) (c : Course) (s : State) (out : Kept)
      → GivesAll empty within longest f g (row ∷ rows)
      → PrintsUnmatched work.plan work.show most (course_of c) → s.errors ≤ 20 → All (IsNone work) (row ∷ rows)
      → All HasEnd (row ∷ rows)
      → WritesAll (flat_map whole_text (row ∷ rows)) out out1 → c1.selected ≡ c.selected + length (row ∷ rows)
      → c1.context_to ≡ g.number → c1.earlier ≡ c.earlier → s1 ≡ record s { has_shown = true }
      → TakesRows work most (progress c s (printed out err)) (progress c1 s1 (printed out1 err)) (row ∷ rows)
  rows-take row [] within f c s out all prints few none ends wrote selected context earlier state =
      let gives = all.2.1 in
      let last : g.number ≡ row.number = ap (λ (x : Feed). x.number) all.2.2 ∙ gives.cuts.next_number in (
        progress c1 s1 (printed out1 err),
        row-takes work most row (All-head HasEnd row [] ends) c c1 s s1 out out1 err prints few
            (All-head (IsNone work) row [] none) (subst (λ l. WritesAll l out out1) (append-nil (whole_text row))
            wrote) (omega (arith, selected)) (context ∙ last) earlier state,
        refl,
      )
  rows-take row (next ∷ rows) within f c s out all prints few none ends wrote selected context earlier state =
      let mid_course : Course = record { selected = c.selected + 1; context_to = row.number; earlier = c.earlier } in
      let mid_state : State = record s { has_shown = true } in
      let mid_out = fuller out (whole_text row) in (
        progress mid_course mid_state (printed mid_out err),
        row-takes work most row (All-head HasEnd row (next ∷ rows) ends) c mid_course s mid_state out mid_out err
            prints few (All-head (IsNone work) row (next ∷ rows) none) (writes-fuller out (whole_text row)) refl refl
            refl refl,
        rows-take next rows (within - (length row.bytes + length row.newline)) all.2.0 mid_course mid_state mid_out
            all.2.2
            (record {
              inverts = prints.inverts;
              lines = prints.lines;
              endless = prints.endless;
              apart = prints.apart;
              unnamed = prints.unnamed;
              unnumbered = prints.unnumbered;
              alone = prints.alone;
            }) few
            (All-tail (IsNone work) row (next ∷ rows) none) (All-tail HasEnd row (next ∷ rows) ends)
            (writes-rest out out1 (whole_text row) (flat_map whole_text (next ∷ rows)) wrote)
            (omega (arith, selected)) context earlier state,
      )

module _ (work : Work) (most : Option ℕ) (w : Watch) (f : Feed) (run : Run) (c : Course) (s : State) (out err : Kept)
    (quiet : HasQuietRun work.plan work.patterns w f run)
    (prints : PrintsUnmatched work.plan work.show most (course_of c)) (few : s.errors ≤ 20) where
  abbrev behind : Feed
  behind = skipped f run.bytes run.rows

  abbrev text : List ℕ
  text = take run.bytes f.held

  rows-taken : (c1 : Course) (s1 : State) (out1 : Kept) (rows : List Row)
      → GivesAll empty quiet.within quiet.longest f behind rows → All (IsNone work) rows → All HasEnd rows
      → WritesAll (flat_map whole_text rows) out out1 → c1.selected ≡ c.selected + length rows
      → c1.context_to ≡ behind.number → c1.earlier ≡ c.earlier → s1 ≡ record s { has_shown = true }
      → TakesRows work most (progress c s (printed out err)) (progress c1 s1 (printed out1 err)) rows
  rows-taken c1 s1 out1 [] all none ends wrote selected context earlier state =
      let same = ap (λ (x : Feed). x.offset) all in
      let some = quiet.has.some in
      absurd (omega (arith, same, some))
  rows-taken c1 s1 out1 (row ∷ rows) all none ends wrote selected context earlier state =
      rows-take work most quiet.longest behind c1 s1 out1 err row rows quiet.within f c s out all prints few none ends
      wrote selected context earlier state

  -- they are taken, where they are written whole
  run-takes : (c1 : Course) (s1 : State) (out1 : Kept) → WritesAll text out out1 → c1.selected ≡ c.selected + run.rows
      → c1.context_to ≡ behind.number → c1.earlier ≡ c.earlier → s1 ≡ record s { has_shown = true }
      → TakesRows work most (progress c s (printed out err)) (progress c1 s1 (printed out1 err)) quiet.has.passes.rows
  run-takes c1 s1 out1 wrote selected context earlier state =
      let rows = quiet.has.passes.rows in
      let all = quiet.has.passes.gives empty in
      let number = number-rows quiet.longest behind rows quiet.within f all in
      let counted : c1.selected ≡ c.selected + length rows = omega (arith, selected, number) in
      rows-taken c1 s1 out1 rows all quiet.none quiet.has.ended
      (subst (λ l. WritesAll l out out1) (run-text quiet.longest quiet.within f rows run.bytes run.rows quiet.held
      all) wrote) counted context earlier state

  pub run-ahead : (c1 : Course) (s1 : State) (out1 : Kept) → WritesAll text out out1
      → c1.selected ≡ c.selected + run.rows → c1.context_to ≡ behind.number → c1.earlier ≡ c.earlier
      → s1 ≡ record s { has_shown = true }
      → TakesAhead work most f behind (progress c s (printed out err)) (progress c1 s1 (printed out1 err))
  run-ahead c1 s1 out1 wrote selected context earlier state = record {
    within = quiet.within;
    longest = quiet.longest;
    rows = quiet.has.passes.rows;
    gives = quiet.has.passes.gives;
    takes = run-takes c1 s1 out1 wrote selected context earlier state;
  }

  -- a write of them was refused
  pub run-halts : (g : Feed) (out1 : Kept) (stop : Stop) → Halts text out out1 stop
      → HaltsAhead work most f g (progress c s (printed out err)) (progress c s (printed out1 err)) stop
  run-halts g out1 stop halts =
      let c1 : Course = record { selected = c.selected + run.rows; context_to = behind.number; earlier = c.earlier } in
      let s1 : State = record s { has_shown = true } in record {
        within = quiet.within;
        longest = quiet.longest;
        rows = quiet.has.passes.rows;
        behind = behind;
        gives = quiet.has.passes.gives;
        whole = progress c1 s1 (printed (fuller out text) err);
        takes = run-takes c1 s1 (fuller out text) (writes-fuller out text) refl refl refl refl;
        text = text;
        wrote = writes-fuller out text;
        halts = halts;
        unsaid = refl;
        err = refl;
        selected = refl;
        state = refl;
      }

-- nothing is taken
pub ahead-none : (work : Work) (most : Option ℕ) (f : Feed) (old : Progress) → TakesAhead work most f f old old
ahead-none work most f old = record { within = 0; longest = 0; rows = []; gives = λ now. refl; takes = refl }
