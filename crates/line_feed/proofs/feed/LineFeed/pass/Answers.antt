use Rattle.std.proofs.Common.{◌≢◌, ◌-◌, length, length-drop, sym, ap, subst, arith}
use Rattle.line_feed.specs.declared.phase.Phase.TheVariants.{Closed}
use Rattle.line_feed.specs.Passes.{HasRun}
use Rattle.line_feed.proofs.Passing.{Passes-run}
use Rattle.line_feed.proofs.feed.LineFeed.pass.Goals as goal

pub run-preserved : goal.run-preserved
run-preserved c =
    let has = c.run.invariant in
    let here : HasRun c.run.self (c.args.within - c.run.passed) c.args.longest c.in-Some.run' = c.in-Some.ensures in
    let is = c.skip.ensures in
    let within = has.within in
    let held = has.held in
    let more = here.within in
    let rest = length-drop c.in-Some.run'.bytes c.run.self.held in
    let left = ap (λ v. length v.held) is in
    record {
      passes = Passes-run _ c.run.self c.skip.new.self c.args.within c.args.longest c.run.passed c.in-Some.run'
          has.passes here is;
      live = subst (λ g. g.phase ≢ Closed) (sym is) has.live;
      within = omega arith;
      held = omega arith;
    }

pub returns-then-run : goal.returns-then-run
returns-then-run c = Passes-run _ c.run.self c.skip.new.self c.args.within c.args.longest c.run.passed c.in-Some.run'
    c.run.invariant.passes c.in-Some.ensures c.skip.ensures
