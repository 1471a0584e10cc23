-- What is written of lines that stand between two places of a text.
use Rattle.std.proofs.Common.{◌≡◌, ◌∙◌, ℕ, zero, suc, ◌+◌, ◌-◌, ◌<◌, ◌≤◌, Bool, true, false, List, [], ◌∷◌, ◌++◌}
use Rattle.std.proofs.Common.{length, take, drop, min, flat_map, refl, sym, ap, subst, arith, append-nil, length-drop, max, ◌&&◌, nat_lt}
use Rattle.std.specs.Prelude.{if◌then◌else◌}
use Rattle.grep_output.specs.Context.{parts_groups}
use Rattle.line_feed.specs.Rows.{Row}
use Rattle.line_feed.specs.Lines.{row_of}
use Rattle.line_feed.specs.declared.feed.Line.{Line}
use Rattle.grep_multi.specs.declared.cut.LineStart.{LineStart}
use Rattle.grep_multi.specs.Given.{IsLine, past}
use Rattle.grep_output.specs.Course.{line_as}
use Rattle.grep_blocks.specs.declared.job.Job.{Job}
use Rattle.grep_blocks.specs.BlockText.{after_of, behind_of, block_out, context, is_parted}
use Rattle.grep_blocks.specs.Steps.{IsGap, Skips, line_by, rows_at}
use Rattle.grep_blocks.proofs.Walking.{take-empty, take-front, take-all, take-take, take-first, drop-front, drop-past}

take-least : (n : ℕ) (rows : List Row) → take (min n (length rows)) rows ≡ take n rows
take-least zero rows = ap (λ k. take k rows) (let e : min zero (length rows) ≡ zero = omega arith in e)
take-least (suc n) [] = take-empty (min (suc n) 0)
take-least (suc n) (row ∷ rows) =
    take-first (min (suc n) (length (row ∷ rows))) row rows (omega arith)
    ∙ (let e : min (suc n) (length (row ∷ rows)) - 1 ≡ min n (length rows) = omega arith in
    ap (λ k. row ∷ take k rows) e)
    ∙ ap (λ l. row ∷ l) (take-least n rows)

module _ (job : Job) (gap to : LineStart) (rows : List Row) (g : IsGap job gap to rows) where
  pub gap-long : to.lines - gap.lines ≡ length rows
  gap-long = let many = g.many in omega arith

  -- the first ones
  pub front-text : (n : ℕ)
      → flat_map (line_by job false) (take (min n (to.lines - gap.lines)) (rows_at job gap))
      ≡ context job.search.plan.now job.name.now (take n rows)
  front-text n =
      let long = gap-long in
      ap (flat_map (line_by job false))
      (ap (take (min n (to.lines - gap.lines))) g.lines
      ∙ take-front rows (rows_at job to) (min n (to.lines - gap.lines)) (omega arith)
      ∙ ap (λ k. take (min n k) rows) long ∙ take-least n rows)

  -- the last ones
  pub back-text : (n : ℕ) (from : LineStart) → n < to.lines - gap.lines → Skips job gap n from
      → flat_map (line_by job false) (take (to.lines - gap.lines - n) (rows_at job from))
      ≡ context job.search.plan.now job.name.now (drop n rows)
  back-text n from less skips =
      let long = gap-long in
      let rest = length-drop n rows in
      ap (flat_map (line_by job false))
      (ap (take (to.lines - gap.lines - n))
      (skips.lines ∙ ap (drop n) g.lines ∙ drop-front rows (rows_at job to) n (omega arith))
      ∙ take-all (drop n rows) (rows_at job to) (to.lines - gap.lines - n) (omega arith))

  pub no-back : (n : ℕ) → to.lines - gap.lines ≤ n → context job.search.plan.now job.name.now (drop n rows) ≡ []
  no-back n past = ap (context job.search.plan.now job.name.now) (drop-past rows n
      (let long = gap-long in omega arith))

-- of the lines behind the last selected block
pub rest-text : (job : Job) (gap : LineStart) (is_first : Bool) (most : ℕ)
    → flat_map (line_by job false) (take (min (after_of job.search.plan.now is_first) most) (rows_at job gap))
    ≡ flat_map (line_by job false) (take (after_of job.search.plan.now is_first) (take most (rows_at job gap)))
rest-text job gap is_first most =
    ap (flat_map (line_by job false)) (sym (take-take (after_of job.search.plan.now is_first) most (rows_at job gap)))

-- the lines of a block
pub block-text : (job : Job) (from behind : LineStart) (line : Line) (rows : List Row)
    → IsGap job from behind rows → IsLine job.search.kind job.search.text.now from line → from.lines < behind.lines
    → block_out job.search.plan.now job.name.now rows
    ≡ line_as job.search.plan.now job.name.now true (row_of line)
    ++ flat_map (line_by job true) (take (behind.lines - from.lines - 1) (rows_at job (past from line)))
block-text job from behind line [] g is less = let many = g.many in absurd (omega arith)
block-text job from behind line (row ∷ rows) g is less =
    let plan = job.search.plan.now in
    let name = job.name.now in
    let both : row_of line ∷ rows_at job (past from line) ≡ row ∷ (rows ++ rows_at job behind) = sym is.lines ∙ g.lines in
    let same : row ≡ row_of line = cc in
    let rest : rows_at job (past from line) ≡ rows ++ rows_at job behind = cc in
    let many = g.many in
    let all : take (behind.lines - from.lines - 1) (rows_at job (past from line)) ≡ rows =
    ap (take (behind.lines - from.lines - 1)) rest
    ∙ take-all rows (rows_at job behind) (behind.lines - from.lines - 1) (omega arith) in
    (λ i. line_as plan name true (same i) ++ flat_map (line_by job true) (sym all i))

-- how many lines are left out of a gap
module _ (job : Job) (gap to : LineStart) (rows : List Row) (g : IsGap job gap to rows) (is_first : Bool)
    (after behind rest : ℕ) (after_is : after ≡ after_of job.search.plan.now is_first)
    (rest_is : rest ≡ to.lines - gap.lines - job.search.plan.now.before_context)
    (behind_is : behind ≡ max after rest) where
  pub behind-is : behind ≡ behind_of job.search.plan.now is_first (length rows)
  behind-is =
      behind_is
      ∙ (λ i. max (after_is i) (rest_is i))
      ∙ ap (λ n. max (after_of job.search.plan.now is_first) (n - job.search.plan.now.before_context))
      (gap-long job gap to rows g)

  pub parted-is : (parts_groups job.search.plan.now && (if is_first then job.has_shown else nat_lt after behind))
      ≡ is_parted job.search.plan.now job.has_shown is_first (length rows)
  parted-is = λ i. parts_groups job.search.plan.now
      && (if is_first then job.has_shown else nat_lt (after_is i) (behind-is i))
