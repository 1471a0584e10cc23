-- The line that a match begins in.
use Rattle.std.proofs.Common.{◌≡◌, ◌≢◌, ◌∙◌, ℕ, ◌+◌, ◌<◌, ◌≤◌, List, [], ◌∷◌, length, refl, sym, ap, subst, arith, ⊎_elim}
use Rattle.std.specs.Prelude.{if◌then◌else◌}
use Rattle.std.proofs.lemmas.Bool.{lt-ltb}
use Rattle.line_feed.specs.Rows.{Row}
use Rattle.line_feed.specs.Lines.{row_of}
use Rattle.line_feed.specs.declared.feed.Line.{Line}
use Rattle.grep_multi.specs.declared.cut.LineStart.{LineStart}
use Rattle.grep_multi.specs.Blocks.{last_line, lines_before}
use Rattle.grep_multi.specs.Given.{IsLine, past}
use Rattle.grep_multi.proofs.Cutting.{before-none, first-at, first-number, lines-end}
use Rattle.ordered_search.specs.PlaceAnswer.{Outcome}
use Rattle.grep_args.specs.declared.plan.GrepPlan.{GrepPlan}
use Rattle.grep_args.specs.declared.plan.OffsetMode.{OffsetMode}
use Rattle.grep_args.specs.declared.plan.OffsetMode.TheVariants.{NoOffsets, Lines, File}
use Rattle.grep_output.specs.Texts.{match_text}
use Rattle.grep_blocks.specs.BlockText.{match_out, text_row}
use Rattle.grep_blocks.specs.declared.job.Job.{Job}
use Rattle.grep_blocks.specs.Steps.{IsLineOf, IsOnward, IsStart, rows_at}
use Rattle.grep_blocks.proofs.Walking.{start-next}

pub head-is : {a b : Row} {xs ys : List Row} → a ∷ xs ≡ b ∷ ys → a ≡ b
head-is {a} {b} {xs} {ys} h = cc

pub tail-is : {a b : Row} {xs ys : List Row} → a ∷ xs ≡ b ∷ ys → xs ≡ ys
tail-is {a} {b} {xs} {ys} h = cc

module _ (job : Job) where
  -- from the first line on
  pub onward-first : (from : LineStart) (line : Row) (lines : List Row) → IsStart job from
      → from.at < length job.search.text.now → rows_at job from ≡ line ∷ lines → IsOnward job line lines from
  onward-first from line lines start some is = record {
    start = start;
    some = some;
    same = λ k here more far there.
        (let both = sym is ∙ there in
        λ i. last_line (head-is both i) (lines_before (k + 1) (tail-is both i)));
  }

  pub holds-first : (from : LineStart) (line : Row) (lines : List Row) (place : ℕ)
      → rows_at job from ≡ line ∷ lines → (first : Row) (rest : List Row) → rows_at job from ≡ first ∷ rest
      → last_line line (lines_before (place + 1) lines) ≡ last_line first (lines_before (place + 1) rest)
  holds-first from line lines place is first rest there =
      let both = sym is ∙ there in
      λ i. last_line (head-is both i) (lines_before (place + 1) (tail-is both i))

  module _ (line : Row) (lines : List Row) (at : LineStart) (here : Line)
      (is : IsLine job.search.kind job.search.text.now at here) where
    -- a place that the next line begins before, or at
    step : (k : ℕ) (next : Row) (more : List Row) → (past at here).at ≤ k
        → (past at here).at < length job.search.text.now → rows_at job (past at here) ≡ next ∷ more
        → last_line (row_of here) (lines_before (k + 1) (rows_at job (past at here)))
        ≡ last_line next (lines_before (k + 1) more)
    step k next more far some there =
        let first = first-at job.search.kind job.search.text.now (past at here) some in
        let begins : next.offset ≡ (past at here).at =
        ap (λ (r : Row). r.offset) (head-is (sym there ∙ first.1.1.0)) ∙ first.1.1.1 in
        ap (λ l. last_line (row_of here) (lines_before (k + 1) l)) there
        ∙ ap (λ b. last_line (row_of here) (if b then next ∷ lines_before (k + 1) more else []))
        (lt-ltb next.offset (k + 1) (omega arith))

    pub onward-next : IsOnward job line lines at → (past at here).at < length job.search.text.now
        → IsOnward job line lines (past at here)
    onward-next on some = record {
      start = start-next job at here on.start is;
      some = some;
      same = λ k next more far there.
          (let early : at.at ≤ k = omega (arith, far) in
          on.same k (row_of here) (rows_at job (past at here)) early is.lines ∙ step k next more far some there);
    }

    -- the place stands in the next line or behind it
    pub holds-next : (place : ℕ)
        → ((first : Row) (rest : List Row) → rows_at job at ≡ first ∷ rest
        → last_line line (lines_before (place + 1) lines) ≡ last_line first (lines_before (place + 1) rest))
        → (past at here).at ≤ place → (past at here).at < length job.search.text.now
        → (next : Row) (more : List Row) → rows_at job (past at here) ≡ next ∷ more
        → last_line line (lines_before (place + 1) lines) ≡ last_line next (lines_before (place + 1) more)
    holds-next place holds far some next more there =
        holds (row_of here) (rows_at job (past at here)) is.lines ∙ step place next more far some there

    -- it stands before the next line
    pub line-here : (place : ℕ) → IsOnward job line lines at
        → ((first : Row) (rest : List Row) → rows_at job at ≡ first ∷ rest
        → last_line line (lines_before (place + 1) lines) ≡ last_line first (lines_before (place + 1) rest))
        → lines_before (place + 1) (rows_at job (past at here)) ≡ [] → IsLineOf job line lines place at
    line-here place on holds none =
        let this : last_line line (lines_before (place + 1) lines) ≡ row_of here =
        holds (row_of here) (rows_at job (past at here)) is.lines
        ∙ ap (last_line (row_of here)) none in
        record {
          onward = on;
          number = ap (λ (r : Row). r.number) this ∙ is.number;
          offset = ap (λ (r : Row). r.offset) this ∙ is.offset;
        }

    pub none-before : (place : ℕ) → place < (past at here).at
        → lines_before (place + 1) (rows_at job (past at here)) ≡ []
    none-before place less = before-none job.search.kind job.search.text.now (place + 1) (past at here) (omega arith)

    pub none-behind : (place : ℕ) → length job.search.text.now ≤ (past at here).at
        → lines_before (place + 1) (rows_at job (past at here)) ≡ []
    none-behind place end = ap (lines_before (place + 1))
        (lines-end job.search.kind job.search.text.now (past at here) end)

  -- the line of a place that isn't before the last one that was found
  pub line-from-last : (line : Row) (lines : List Row) (last at : LineStart) (place : ℕ)
      → IsOnward job line lines last → last.at ≤ place → last.at ≤ at.at
      → ((first : Row) (rest : List Row) → rows_at job last ≡ first ∷ rest → IsLineOf job first rest place at)
      → IsLineOf job line lines place at
  line-from-last line lines last at place on far later found =
      let first = first-at job.search.kind job.search.text.now last on.some in
      let there = first.1.1.0 in
      let it = found first.0 first.1.0 there in
      let same = on.same place first.0 first.1.0 far there in
      record {
        onward = record {
          start = it.onward.start;
          some = it.onward.some;
          same = λ k here more near is.
              (let early : last.at ≤ k = omega (arith, later, near) in
              on.same k first.0 first.1.0 early there ∙ it.onward.same k here more near is);
        };
        number = ap (λ (r : Row). r.number) same ∙ it.number;
        offset = ap (λ (r : Row). r.offset) same ∙ it.offset;
      }

-- what is written of a match that isn't shown by its place in a line
pub match-else : (plan : GrepPlan) (name text : List ℕ) (mode : OffsetMode) (line : Row) (o : Outcome) → mode ≢ Lines
    → match_text plan name mode (text_row plan name text line.number) o ≡ match_out plan name text mode line o
match-else plan name text NoOffsets line o other = refl
match-else plan name text Lines line o other = absurd (other refl)
match-else plan name text File line o other = refl
