-- One block of a scan: what was written of it, and how the scan stands then.
use Rattle.std.proofs.Common.{◌≡◌, ◌≢◌, ◌∙◌, ℕ, ◌+◌, ◌-◌, ◌<◌, ◌≤◌, ◌==◌, Bool, true, false, ◌&&◌, List, [], ◌∷◌, ◌++◌}
use Rattle.std.proofs.Common.{length, take, drop, Result, Ok, Err, ℤ, refl, sym, ap, subst, arith, append-nil}
use Rattle.std.specs.Prelude.{nat_le, if◌then◌else◌}
use Rattle.std.proofs.lemmas.Bool.{le-leb, lt-leb}
use Rattle.pcre_io.specs.Told.{Kept}
use Rattle.pcre_io.specs.declared.traits.IoError.{IoError}
use Rattle.pcre_io.specs.declared.traits.IoError.TheVariants as io
use Rattle.line_feed.specs.Rows.{Row}
use Rattle.ordered_search.specs.PlaceAnswer.{Outcome}
use Rattle.grep_multi.specs.grep_match.Compiled.{patterns_in}
use Rattle.grep_multi.specs.grep_match.Found.{Listed, Lists, ListsMatches}
use Rattle.grep_multi.specs.grep_match.Matches.{Matches, is_selected, has_error}
use Rattle.grep_multi.specs.declared.cut.LineStart.{LineStart}
use Rattle.grep_multi.specs.Blocks.{TriedBlock}
use Rattle.grep_multi.proofs.Cutting.{first-at, first-number}
use Rattle.grep_output.specs.declared.ended.Stop.{Stop}
use Rattle.grep_output.specs.declared.ended.Stop.TheVariants.{SinkFault, TooManyErrors, Memory}
use Rattle.grep_output.specs.Ends.{stop_of}
use Rattle.grep_output.specs.Messages.{error_message}
use Rattle.grep_output.proofs.Extends.{error-unselected}
use Rattle.grep_core.specs.Turns.{is_full}
use Rattle.tool_io.specs.Prints.{Wrote, Breaks}
use Rattle.tool_io.specs.Printed.{Printed, printed}
use Rattle.tool_io.specs.Writes.{Writes}
use Rattle.tool_io.proofs.Printing.{breaks-err, breaks-out, wrote-breaks, wrote-err, wrote-more, wrote-none, wrote-out}
use Rattle.tool_io.proofs.Printing.{IsToldBy}
use Rattle.grep_blocks.specs.declared.job.Job.{Job}
use Rattle.grep_blocks.specs.declared.job.Course.{Course}
use Rattle.grep_blocks.specs.declared.job.Next.TheVariants.{Block, Context}
use Rattle.grep_blocks.specs.BlockScan.{first_of, tried_of}
use Rattle.grep_blocks.specs.BlockText.{matches_out, parts_out, rest_out, shown_out}
use Rattle.grep_blocks.specs.Steps.{IsGap, TakesBlock, TakesIt, TakesLast, all_rows, rows_at}
use Rattle.grep_blocks.specs.Scanned.{IsBlock, IsRest}
use Rattle.grep_blocks.proofs.Parting.{head-is}
use Rattle.grep_blocks.proofs.Walking.{drop-more, take-all}

pub memory-fault : Memory ≢ SinkFault
memory-fault e = cc

pub told-by : (fault : IoError) → IsToldBy fault (stop_of fault ≡ SinkFault)
told-by io.Failed = (λ is. refl, λ other. absurd (other refl))
told-by io.Memory = (λ is. absurd cc, λ other. refl)

-- the number of a block's first line
block-number : (job : Job) (from behind : LineStart) (lines : List Row) → from.at < length job.search.text.now
    → from.lines < behind.lines → IsGap job from behind lines → (first_of lines).number ≡ from.lines + 1
block-number job from behind [] some less g = let many = g.many in absurd (omega arith)
block-number job from behind (row ∷ rows) some less g =
    first-number job.search.kind job.search.text.now from row (rows ++ rows_at job behind) some g.lines

pub block-is : (job : Job) (from behind : LineStart) (b : TriedBlock) → from.at < length job.search.text.now
    → from.lines < behind.lines → rows_at job from ≡ b.lines ++ rows_at job behind
    → behind.lines ≡ from.lines + length b.lines → IsRest job from → IsBlock job from behind b
block-is job from behind b some less lines many rest = record {
  lines = record { lines = lines; many = many };
  number = block-number job from behind b.lines some less (record { lines = lines; many = many });
  rest = rest;
}

-- the lines of a gap, as many as there are
pub gap-rows : (job : Job) (gap to : LineStart) (rows : List Row) → IsGap job gap to rows
    → take (to.lines - gap.lines) (rows_at job gap) ≡ rows
gap-rows job gap to rows g =
    let many = g.many in
    ap (take (to.lines - gap.lines)) g.lines ∙ take-all rows (rows_at job to) (to.lines - gap.lines) (omega arith)

module _ (job : Job) (b : TriedBlock) (gap : List Row) (behind : LineStart) (old : Course) where
  abbrev is_first : Bool
  is_first = old.selected == 0

  abbrev shown : List ℕ
  shown = shown_out job.search.plan.now job.name.now job.search.text.now (all_rows job) job.has_shown job.show
      is_first gap b

  abbrev rest : List ℕ
  rest = rest_out job.search.plan.now job.name.now job.search.text.now (all_rows job) job.has_shown job.show
      is_first gap

  abbrev said : List ℕ
  said = error_message job.name.now (tried_of b)

  abbrev chosen : Bool
  chosen = is_selected job.search.plan.now (tried_of b)

  abbrev error : Bool
  error = has_error (tried_of b)

  -- of its text, where a write was refused
  abbrev text : List ℕ
  text = if error && nat_le 20 old.errors then rest else if chosen then shown else []

  pub takes-cut : (new : Course) (before after : Printed) (fault : IoError)
      → Breaks text said before after (stop_of fault ≡ SinkFault)
      → TakesBlock job b gap behind old new before after (Err (stop_of fault))
  takes-cut new before after io.Failed h = h
  takes-cut new before after io.Memory h = h

  -- It has a match error.
  module _ (n : ℤ) (is : b.matches ≡ Err n) where
    has-it : error ≡ true
    has-it = ap (λ (m : Matches). elim m [ Ok os ↦ false | Err e ↦ true ]) is

    unselected : chosen ≡ false
    unselected = error-unselected job.search.plan.now (tried_of b) has-it

    pub error-cut : (new : Course) (out err0 err1 : Kept) (fault : IoError)
        → Writes {T = Unit {0}} said err0 err1 (Err fault)
        → TakesBlock job b gap behind old new (printed out err0) (printed out err1) (Err (stop_of fault))
    error-cut new out err0 err1 fault w = takes-cut new (printed out err0) (printed out err1) fault
        (breaks-err text said out err0 err1 fault (stop_of fault ≡ SinkFault) (told-by fault) w)

    -- it is the last one that there may be
    module _ (many : 20 ≤ old.errors) where
      is-last : (error && nat_le 20 old.errors) ≡ true
      is-last = λ i. has-it i && le-leb 20 old.errors many i

      pub last-cut : (new : Course) (out0 out1 err0 err1 : Kept) (u : Unit {0}) (fault : IoError)
          → Writes said err0 err1 (Ok u) → Writes {T = Unit {0}} rest out0 out1 (Err fault)
          → TakesBlock job b gap behind old new (printed out0 err0) (printed out1 err1) (Err (stop_of fault))
      last-cut new out0 out1 err0 err1 u fault w halted = takes-cut new (printed out0 err0) (printed out1 err1) fault
          (subst (λ l. Breaks l said (printed out0 err0) (printed out1 err1) (stop_of fault ≡ SinkFault))
          (λ i. if sym is-last i then rest else if chosen then shown else [])
          (subst (λ l. Breaks rest l (printed out0 err0) (printed out1 err1) (stop_of fault ≡ SinkFault))
          (append-nil said)
          (wrote-breaks [] said rest [] (wrote-err said out0 err0 err1 u w) (stop_of fault ≡ SinkFault)
          (breaks-out rest [] out0 out1 err1 fault (stop_of fault ≡ SinkFault) (told-by fault) halted))))

      pub takes-last : (out0 out1 err0 err1 : Kept) (u v : Unit {0}) → Writes said err0 err1 (Ok u)
          → Writes rest out0 out1 (Ok v)
          → TakesLast job b gap behind old (record old { errors = old.errors + 1 }) (printed out0 err0)
          (printed out1 err1)
      takes-last out0 out1 err0 err1 u v w shows = record {
        wrote = subst (λ l. Wrote rest l (printed out0 err0) (printed out1 err1)) (append-nil said)
            (wrote-more [] said rest [] (wrote-err said out0 err0 err1 u w) (wrote-out rest out0 out1 err1 v shows));
        stands = refl;
        errors = is-last;
      }

    -- others may follow
    pub takes-error : (out err0 err1 : Kept) (u : Unit {0}) → old.errors < 20 → Writes said err0 err1 (Ok u)
        → TakesIt job b gap behind old (record old { from = behind; errors = old.errors + 1 }) (printed out err0)
        (printed out err1) Block
    takes-error out err0 err1 u few w = record {
      wrote = subst (λ t. Wrote (if t then shown else []) said (printed out err0) (printed out err1)) (sym unselected)
          (wrote-err said out err0 err1 u w);
      stands = λ i. record {
        from = behind;
        gap = if sym unselected i then behind else old.gap;
        selected = if sym unselected i then old.selected + 1 else old.selected;
        errors = if sym has-it i then old.errors + 1 else old.errors;
      };
      errors = (λ i. has-it i && nat_le 20 old.errors) ∙ lt-leb 20 old.errors few;
      answer = λ i. if sym unselected i && is_full job.most (old.selected + 1) then Context else Block;
    }

  -- It has none.
  module _ (os : List Outcome) (is : b.matches ≡ Ok os) where
    has-none : error ≡ false
    has-none = ap (λ (m : Matches). elim m [ Ok os ↦ false | Err e ↦ true ]) is

    unsaid : said ≡ []
    unsaid = ap (λ (m : Matches). error_message job.name.now (record { row = first_of b.lines; matches = m })) is

    not-last : (error && nat_le 20 old.errors) ≡ false
    not-last = λ i. has-none i && nat_le 20 old.errors

    -- it is selected
    module _ (picked : chosen ≡ true) where
      pub chosen-cut : (new : Course) (out0 out1 err : Kept) (fault : IoError)
          → Writes {T = Unit {0}} shown out0 out1 (Err fault)
          → TakesBlock job b gap behind old new (printed out0 err) (printed out1 err) (Err (stop_of fault))
      chosen-cut new out0 out1 err fault w = takes-cut new (printed out0 err) (printed out1 err) fault
          (subst (λ l. Breaks l said (printed out0 err) (printed out1 err) (stop_of fault ≡ SinkFault))
          (λ i. if sym not-last i then rest else if sym picked i then shown else [])
          (breaks-out shown said out0 out1 err fault (stop_of fault ≡ SinkFault) (told-by fault) w))

      picked-wrote : (out0 out1 err : Kept) (u : Unit {0}) → Writes shown out0 out1 (Ok u)
          → Wrote (if chosen then shown else []) said (printed out0 err) (printed out1 err)
      picked-wrote out0 out1 err u w =
          subst (λ t. Wrote (if t then shown else []) said (printed out0 err) (printed out1 err)) (sym picked)
          (subst (λ l. Wrote shown l (printed out0 err) (printed out1 err)) (sym unsaid)
          (wrote-out shown out0 out1 err u w))

      abbrev after_it : Course
      after_it = record { from = behind; gap = behind; selected = old.selected + 1; errors = old.errors }

      picked-stands : after_it ≡ record {
        from = behind;
        gap = if chosen then behind else old.gap;
        selected = if chosen then old.selected + 1 else old.selected;
        errors = if error then old.errors + 1 else old.errors;
      }
      picked-stands = λ i. record {
        from = behind;
        gap = if sym picked i then behind else old.gap;
        selected = if sym picked i then old.selected + 1 else old.selected;
        errors = if sym has-none i then old.errors + 1 else old.errors;
      }

      pub takes-full : (out0 out1 err : Kept) (u : Unit {0}) → is_full job.most (old.selected + 1) ≡ true
          → Writes shown out0 out1 (Ok u)
          → TakesIt job b gap behind old after_it (printed out0 err) (printed out1 err) Context
      takes-full out0 out1 err u full w = record {
        wrote = picked-wrote out0 out1 err u w;
        stands = picked-stands;
        errors = not-last;
        answer = λ i. if sym picked i && sym full i then Context else Block;
      }

      pub takes-chosen : (out0 out1 err : Kept) (u : Unit {0}) → is_full job.most (old.selected + 1) ≡ false
          → Writes shown out0 out1 (Ok u)
          → TakesIt job b gap behind old after_it (printed out0 err) (printed out1 err) Block
      takes-chosen out0 out1 err u free w = record {
        wrote = picked-wrote out0 out1 err u w;
        stands = picked-stands;
        errors = not-last;
        answer = λ i. if sym picked i && sym free i then Context else Block;
      }

    -- it isn't
    pub takes-passed : (before : Printed) → chosen ≡ false
        → TakesIt job b gap behind old (record old { from = behind }) before before Block
    takes-passed before other = record {
      wrote = subst (λ t. Wrote (if t then shown else []) said before before) (sym other)
          (subst (λ l. Wrote [] l before before) (sym unsaid) (wrote-none before));
      stands = λ i. record {
        from = behind;
        gap = if sym other i then behind else old.gap;
        selected = if sym other i then old.selected + 1 else old.selected;
        errors = if sym has-none i then old.errors + 1 else old.errors;
      };
      errors = not-last;
      answer = λ i. if sym other i && is_full job.most (old.selected + 1) then Context else Block;
    }

-- a block whose matches are listed has no match error
pub record Chosen (m : Matches) : Type 0 where
  pub os : List Outcome
  pub is : m ≡ Ok os

pub chosen-is : (wanted : List ℕ) (len : ℕ) (list : Listed) (m : Matches) → ListsMatches wanted len list m → Chosen m
chosen-is wanted len list (Ok os) h = record { os = os; is = refl }
chosen-is wanted len list (Err e) h = absurd h

-- the lines behind a block's first one
module _ (job : Job) (from behind : LineStart) (b : TriedBlock) (block : IsBlock job from behind b) where
  first_and : (lines : List Row) → 0 < length lines → rows_at job from ≡ lines ++ rows_at job behind
      → (first_of lines).number ≡ from.lines + 1
      → rows_at job from ≡ first_of lines ∷ drop (first_of lines).number (all_rows job)
  first_and [] some same number = absurd (omega arith)
  first_and (row ∷ rows) some same number =
      same
      ∙ ap (λ l. row ∷ l)
      (sym (ap (λ n. drop n (all_rows job)) number
      ∙ sym (drop-more 1 from.lines (all_rows job))
      ∙ ap (drop 1) (sym block.rest ∙ same)))

  pub block-lines-are : from.lines < behind.lines
      → rows_at job from ≡ first_of b.lines ∷ drop (first_of b.lines).number (all_rows job)
  block-lines-are less = first_and b.lines (let many = block.lines.many in omega arith) block.lines.lines block.number

-- what is written of the matches that are listed
pub parts-written : (job : Job) (b : TriedBlock) (len : ℕ) (list : Listed) (old new : Kept)
    (result : Result (Unit {0}) IoError) (m : Matches) → b.matches ≡ m
    → ListsMatches job.search.plan.now.only_matching len list m
    → ((os : List Outcome) → Lists job.search.plan.now.only_matching len list os
    → Writes (matches_out job.search.plan.now job.name.now job.search.text.now (first_of b.lines)
    (drop (first_of b.lines).number (all_rows job)) os) old new result)
    → Writes (parts_out job.search.plan.now job.name.now job.search.text.now (all_rows job) job.has_shown b) old new result
parts-written job b len list old new result (Ok os) is listed w =
    subst (λ l. Writes l old new result)
    (sym (ap (λ (m : Matches). elim m [
      | Ok os ↦ matches_out job.search.plan.now job.name.now job.search.text.now (first_of b.lines)
          (drop (first_of b.lines).number (all_rows job)) os
      | Err e ↦ []
    ]) is))
    (w os listed)
parts-written job b len list old new result (Err e) is listed w = absurd listed
