use Rattle.std.proofs.Common.{◌≡◌, ◌∙◌, ◌+◌, ◌<◌, ◌≤◌, drop, refl, sym, ap, subst, arith}
use Rattle.grep_blocks.specs.Steps.{IsStart, rows_at}
use Rattle.grep_blocks.proofs.Walking.{skip-end, skip-step, start-next}
use Rattle.grep_blocks.proofs.lines.skip_lines.Goals as goal

pub line-init : goal.line-init
line-init c = record { start = c.requires; within = omega arith; lines = refl }

pub returns-then-at-job : goal.returns-then-at-job
returns-then-at-job c =
    let i = c.line.invariant in
    record {
      lines = skip-end c.args.job.now c.args.from c.line.at c.line.counter i.lines c.args.count i.within
          c.if-at-job.true;
      start = i.start;
    }

pub line_at-line-requires-clause-few : goal.line_at-line-requires-clause-few
line_at-line-requires-clause-few c = c.line.invariant.start.few

pub past-at-requires-clause-few : goal.past-at-requires-clause-few
past-at-requires-clause-few c =
    let start = c.line.invariant.start in
    omega (arith, start.few, start.within, start.short)

pub line-preserved : goal.line-preserved
line-preserved c =
    let job = c.args.job.now in
    let less = c.line-test.true in
    record {
      start = subst (IsStart job) (sym c.past-at.ensures)
          (start-next job c.line.at c.line_at-line.result c.line.invariant.start c.line_at-line.ensures);
      within = omega arith;
      lines = ap (rows_at job) c.past-at.ensures
          ∙ skip-step job c.args.from c.line.at c.line.counter c.line.invariant.lines c.line_at-line.result
          c.line_at-line.ensures;
    }

pub returns : goal.returns
returns c =
    let i = c.line.invariant in
    let within = i.within in
    let most = c.line-test.false in
    let all : c.line.counter ≡ c.args.count = omega arith in
    record { lines = i.lines ∙ ap (λ n. drop n (rows_at c.args.job.now c.args.from)) all; start = i.start }
