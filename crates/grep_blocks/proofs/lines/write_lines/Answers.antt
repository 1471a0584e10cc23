use Rattle.std.proofs.Common.{◌≡◌, ◌∙◌, ◌+◌, ◌-◌, ◌<◌, ◌≤◌, ◌++◌, take, flat_map, sym, ap, subst, arith, rules, Err}
use Rattle.line_feed.specs.Lines.{row_of}
use Rattle.tool_io.specs.Writes.{Writes}
use Rattle.tool_io.proofs.Writing.{IsLeft, left-all, left-more, left-none, left-refused}
use Rattle.grep_blocks.specs.Steps.{IsStart, line_by, rows_at}
use Rattle.grep_blocks.proofs.Walking.{start-next, walk-done, walk-end, walk-step}
use Rattle.grep_blocks.proofs.lines.write_lines.Goals as goal

pub line-init : goal.line-init
line-init g c =
    let text = line_by c.args.job.now c.args.is_bare in
    let rows = rows_at c.args.job.now c.args.from in
    let out = g.O.Sink.tells c.args.out.now in
    let all : c.args.count ≡ c.args.count - 0 = omega arith in
    record {
      start = c.requires;
      within = omega arith;
      left = subst (λ n. IsLeft (flat_map text (take c.args.count rows)) (flat_map text (take n rows)) out out) all
          (left-all (flat_map text (take c.args.count rows)) out);
    }

pub returns-then-at-job : goal.returns-then-at-job
returns-then-at-job g c =
    left-none _ c.line.invariant.left
    (walk-end c.args.job.now (line_by c.args.job.now c.args.is_bare) c.line.at c.args.count c.line.counter
    c.if-at-job.true)

pub line_at-line-requires-clause-few : goal.line_at-line-requires-clause-few
line_at-line-requires-clause-few g c = c.line.invariant.start.few

pub past-at-requires-clause-few : goal.past-at-requires-clause-few
past-at-requires-clause-few g c =
    let start = c.line.invariant.start in
    omega (arith, start.few, start.within, start.short)

pub returns-in_err-write_one : goal.returns-in_err-write_one
returns-in_err-write_one g c =
    let job = c.args.job.now in
    let text = line_by job c.args.is_bare in
    let fault = c.in_err-write_one.field-0.0 in
    let same : c.from_residual.result ≡ Err fault = search rules in
    subst (λ r. Writes (flat_map text (take c.args.count (rows_at job c.args.from))) (g.O.Sink.tells c.args.out.now)
    (g.O.Sink.tells c.write_one.new.out) r) (sym same)
    (left-refused (text (row_of c.line_at-line.result)) _ fault c.line.invariant.left
    (walk-step job text c.line.at c.args.count c.line.counter c.line_at-line.result c.line_at-line.ensures
    c.line-test.true)
    c.in_err-write_one.ensures)

pub line-preserved : goal.line-preserved
line-preserved g c =
    let job = c.args.job.now in
    let text = line_by job c.args.is_bare in
    let less = c.line-test.true in
    record {
      start = subst (IsStart job) (sym c.past-at.ensures)
          (start-next job c.line.at c.line_at-line.result c.line.invariant.start c.line_at-line.ensures);
      within = omega arith;
      left = left-more (text (row_of c.line_at-line.result)) _ _ c.line.invariant.left
          (walk-step job text c.line.at c.args.count c.line.counter c.line_at-line.result c.line_at-line.ensures less
          ∙ ap (λ at. text (row_of c.line_at-line.result)
          ++ flat_map text (take (c.args.count - (c.line.counter + 1)) (rows_at job at))) (sym c.past-at.ensures))
          c.in_ok-write_one.ensures;
    }

pub returns : goal.returns
returns g c =
    left-none _ c.line.invariant.left
    (walk-done c.args.job.now (line_by c.args.job.now c.args.is_bare) c.line.at c.args.count c.line.counter
    c.line-test.false)
