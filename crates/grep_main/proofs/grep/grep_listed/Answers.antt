use Rattle.std.proofs.Common.{rules, ◌≡◌, Err}
use Rattle.grep_core.specs.grep_match.Compiled.{patterns_in}
use Rattle.grep_output.specs.Ends.{stop_of}
use Rattle.grep_output.specs.InputText.{first_state}
use Rattle.grep_main.specs.Reports.{reports}
use Rattle.grep_main.proofs.Summing.{outcome-whole, outcome-refused, outcome-stopped}
use Rattle.grep_main.proofs.Tying.{tied-stop, tied-refused}
use Rattle.grep_main.proofs.grep.grep_listed.Goals as goal

pub returns-in_err-sum-clause-runs : goal.returns-in_err-sum-clause-runs
returns-in_err-sum-clause-runs g c =
    let sums = c.in_err-sum.ensures.sums in
    let stop = c.in_err-sum.field-0.0 in
    let same : c.from_residual.result ≡ Err stop = search rules in (
      sums.0,
      sums.1,
      outcome-stopped c.args.plan.now (reports c.args.plan.now (patterns_in c.args.patterns.now) sums.0 first_state)
          (g.O.Sink.tells c.args.io.now.out.now) (g.O.Sink.tells c.sum_listed.new.io.out.now)
          (g.E.Sink.tells c.args.io.now.err.now) (g.E.Sink.tells c.sum_listed.new.io.err.now) stop
          c.from_residual.result same sums.2,
      tied-stop stop c.from_residual.result same sums.3,
    )

pub returns-in_err-write_last-clause-runs : goal.returns-in_err-write_last-clause-runs
returns-in_err-write_last-clause-runs g c =
    let sums = c.in_ok-sum.ensures.sums in
    let rs = reports c.args.plan.now (patterns_in c.args.patterns.now) sums.0 first_state in
    let fault = c.in_err-write_last.field-0.0 in
    let same : c.from_residual-in_err-write_last.result ≡ Err (stop_of fault) = search rules in (
      sums.0,
      sums.1,
      outcome-refused c.args.plan.now rs (g.O.Sink.tells c.args.io.now.out.now)
          (g.O.Sink.tells c.sum_listed.new.io.out.now) (g.E.Sink.tells c.args.io.now.err.now)
          (g.E.Sink.tells c.sum_listed.new.io.err.now)
          (g.O.Sink.tells c.write_last.new.out) c.in_ok-sum.sum fault c.from_residual-in_err-write_last.result same
          sums.2 (c.in_err-write_last.ensures rs sums.2.1),
      tied-refused fault c.from_residual-in_err-write_last.result same sums.3,
    )

pub returns-clause-runs : goal.returns-clause-runs
returns-clause-runs g c =
    let sums = c.in_ok-sum.ensures.sums in
    let rs = reports c.args.plan.now (patterns_in c.args.patterns.now) sums.0 first_state in (
      sums.0,
      sums.1,
      outcome-whole c.args.plan.now rs (g.O.Sink.tells c.args.io.now.out.now)
          (g.O.Sink.tells c.sum_listed.new.io.out.now) (g.E.Sink.tells c.args.io.now.err.now)
          (g.E.Sink.tells c.sum_listed.new.io.err.now)
          (g.O.Sink.tells c.write_last.new.out) c.in_ok-sum.sum tt c.status_of.result sums.2
          (c.in_ok-write_last.ensures rs sums.2.1) (c.status_of.ensures c.args.plan.now rs sums.2.1),
      record { absent = sums.3.absent; leaves = sums.3.leaves },
    )
