use Rattle.std.proofs.Common.{rules, ◌≡◌, ◌≢◌, Err, refl, subst, sym, ap, arith}
use Rattle.line_feed.specs.View.{Feed}
use Rattle.line_feed.specs.Lines.{row_of}
use Rattle.line_feed.specs.declared.phase.Phase.TheVariants.{Closed}
use Rattle.test_run.specs.declared.stop.ScriptStop.TheVariants.{Memory}
use Rattle.test_run.specs.Runs.{RunsScript, stop_of}
use Rattle.test_run.proofs.Scripts.{gives-further, running-none, running-sent, running-more, runs-end, runs-refused}
use Rattle.test_run.proofs.Scripts.{runs-unsent, runs-stopped, runs-unbegun, stopped-so}
use Rattle.test_run.proofs.script.run_script.Goals as goal

pub returns-in_err-run : goal.returns-in_err-run
returns-in_err-run g c =
    let new = c.new-feed.ensures in
    let same : c.from_residual.result ≡ Err Memory = search rules in
    subst (RunsScript c.args.plan.now (g.S.Source.tells c.args.source.now) (g.S.Source.tells c.args.source.now)
    (g.O.Sink.tells c.args.out.now) (g.O.Sink.tells c.args.out.now)) (sym same)
    (runs-unbegun c.args.plan.now.defaults c.args.plan.now refl _ c.new-feed.result _ new.kind new.max new.held
    new.number new.offset new.phase)

pub line-init : goal.line-init
line-init g c =
    let new = c.new-feed.ensures in
    running-none c.args.plan.now.defaults (g.S.Source.tells c.args.source.now) c.new-feed.result _ _
    (g.O.Sink.tells c.args.out.now) new.kind new.max new.held new.number new.offset new.phase
    c.in_ok-run.ensures.reader c.in_ok-run.ensures.course

pub returns-in_err-send_on : goal.returns-in_err-send_on
returns-in_err-send_on g c =
    let e = c.in_err-send_on.field-0.0 in
    let told = c.from_residual-in_err-send_on.ensures in
    let same : c.from_residual-in_err-send_on.result ≡ Err (stop_of e) = stopped-so _ (stop_of e) told.0 told.1 in
    subst (RunsScript c.args.plan.now (g.S.Source.tells c.args.source.now) (g.S.Source.tells c.line.source)
    (g.O.Sink.tells c.args.out.now) (g.O.Sink.tells c.send_on.new.out)) (sym same)
    (runs-unsent c.args.plan.now.defaults c.args.plan.now refl _ _ _ _ _ _ _ c.line.invariant _ e
    c.in_err-send_on.ensures.sent)

pub next-requires : goal.next-requires
next-requires g c = record {
  live = subst (λ (f : Feed). f.phase ≢ Closed) (sym c.send_on.ensures.same)
      c.line.invariant.live;
}

pub line-smaller : goal.line-smaller
line-smaller g c =
    let gives = rw (c.in-Ok-Some.is, c.in-Ok-Some.field-0-is) at c.next.follows.holds-at-none in
    let further = gives-further _ _ _ _ (row_of c.in-Ok-Some.line) gives in
    let more = further.0 in
    let limit = further.1 in
    let same = ap (λ (f : Feed). f.offset) c.send_on.ensures.same in
    omega arith

pub line-preserved : goal.line-preserved
line-preserved g c =
    let gives = rw (c.in-Ok-Some.is, c.in-Ok-Some.field-0-is) at c.next.follows.holds-at-none in
    let sent = running-sent c.args.plan.now.defaults _ _ _ _ _ _ _ c.line.invariant c.send_on.new.feed _ _
    c.send_on.ensures.same c.in_ok-send_on.ensures.sent in
    let took = c.in_ok-take_line-in-Ok-Some.ensures in
    running-more c.args.plan.now.defaults _ _ _ _ _ _ _ sent _ _ (row_of c.in-Ok-Some.line) _ gives _ _ _ took.wrote
    took.reader took.course

pub returns-in_err-take_line-in-Ok-Some : goal.returns-in_err-take_line-in-Ok-Some
returns-in_err-take_line-in-Ok-Some g c =
    let gives = rw (c.in-Ok-Some.is, c.in-Ok-Some.field-0-is) at c.next.follows.holds-at-none in
    let sent = running-sent c.args.plan.now.defaults _ _ _ _ _ _ _ c.line.invariant c.send_on.new.feed _ _
    c.send_on.ensures.same c.in_ok-send_on.ensures.sent in
    let e = c.in_err-take_line-in-Ok-Some.field-0.0 in
    let told = c.from_residual-in_err-take_line-in-Ok-Some.ensures in
    let same : c.from_residual-in_err-take_line-in-Ok-Some.result ≡ Err (stop_of e) =
    stopped-so _ (stop_of e) told.0 told.1 in
    subst (RunsScript c.args.plan.now (g.S.Source.tells c.args.source.now) (g.S.Source.tells c.next.new.source)
    (g.O.Sink.tells c.args.out.now) (g.O.Sink.tells c.take_line.new.out)) (sym same)
    (runs-stopped c.args.plan.now.defaults c.args.plan.now refl _ _ _ _ _ _ _ sent _ _ (row_of c.in-Ok-Some.line) _ e
    gives c.in_err-take_line-in-Ok-Some.ensures.wrote)

pub returns-in-Ok-None : goal.returns-in-Ok-None
returns-in-Ok-None g c =
    let sent = running-sent c.args.plan.now.defaults _ _ _ _ _ _ _ c.line.invariant c.send_on.new.feed _ _
    c.send_on.ensures.same c.in_ok-send_on.ensures.sent in
    runs-end c.args.plan.now.defaults c.args.plan.now refl _ _ _ _ _ _ _ sent _ _ _
    (rw (c.in-Ok-None.is, c.in-Ok-None.field-0-is) at c.next.follows.holds-at-none)

pub returns-in-Err : goal.returns-in-Err
returns-in-Err g c =
    let sent = running-sent c.args.plan.now.defaults _ _ _ _ _ _ _ c.line.invariant c.send_on.new.feed _ _
    c.send_on.ensures.same c.in_ok-send_on.ensures.sent in
    subst (λ s. RunsScript c.args.plan.now (g.S.Source.tells c.args.source.now) (g.S.Source.tells c.next.new.source)
    (g.O.Sink.tells c.args.out.now) (g.O.Sink.tells c.send_on.new.out) (Err s)) (sym c.stop_at.ensures)
    (runs-refused c.args.plan.now.defaults c.args.plan.now refl _ _ _ _ _ _ _ sent _ _ c.in-Err.e
    (rw c.in-Err.is at c.next.follows.holds-at-none))
