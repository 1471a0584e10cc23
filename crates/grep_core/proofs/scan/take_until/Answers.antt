use Rattle.std.proofs.Common.{rules, ◌≢◌, ◌≡◌, subst, ◌<◌, ◌^◌, Ok, Err, arith, refl, sym, ap, ◌∙◌}
use Rattle.grep_core.proofs.scan.take_until.Goals as goal
use Rattle.grep_match.specs.Compiled.{patterns_in}
use Rattle.grep_core.specs.declared.lines.Next.TheVariants.{Line}
use Rattle.grep_core.specs.declared.scan.Turn.TheVariants.{Took}
use Rattle.grep_watch.specs.Watched.{Watches}
use Rattle.grep_core.specs.Work.{work_of, progress, fed, position}
use Rattle.grep_core.specs.Underway.{TakesPart, Keeps}
use Rattle.line_feed.proofs.Given.{live-gives}
use Rattle.grep_core.proofs.ScansTaken.{standing-line, standing-pauses}
use Rattle.grep_core.proofs.ScansEnd.{scans-ends, scans-stops}
use Rattle.grep_core.proofs.ScansLoop.{keeps-more, gave}
use Rattle.grep_core.proofs.ScansSent.{standing-sent, scans-unsent}
use Rattle.grep_core.proofs.Ahead.{ahead-live, ahead-max, ahead-offset, ahead-limit, ahead-longest, ahead-keeps}
use Rattle.grep_core.proofs.Ahead.{ahead-standing, scans-cut}
use Rattle.grep_core.proofs.Unseen.{unseen-live, unseen-max, unseen-offset, unseen-keeps, unseen-standing}
use Rattle.line_feed.specs.View.{Feed}
use Rattle.line_feed.specs.declared.phase.Phase.TheVariants.{Closed}
use Rattle.tool_io.specs.Printed.{printed}

pub line-init : goal.line-init
line-init g c = record {
  ready = c.requires.ready;
  until = refl;
  filter = c.requires.filter;
  standing = λ from job stands. stands;
}

pub pass_unseen-requires-clause-watch : goal.pass_unseen-requires-clause-watch
pass_unseen-requires-clause-watch g c =
    c.sift.ensures.watch c.args.job.now.plan.now (patterns_in c.args.job.now.patterns.now) c.line.invariant.filter
    c.line.invariant.ready.watch

pub take_ahead-requires-clause-live : goal.take_ahead-requires-clause-live
take_ahead-requires-clause-live g c = unseen-live _ _ _ _ _ c.pass_unseen.ensures c.line.invariant.ready.live

pub take_ahead-requires-clause-max : goal.take_ahead-requires-clause-max
take_ahead-requires-clause-max g c =
    let same = unseen-max _ _ _ _ _ c.pass_unseen.ensures in
    let had = c.line.invariant.ready.keeps.max in
    omega (arith, same, had)

pub take_ahead-requires-clause-longest : goal.take_ahead-requires-clause-longest
take_ahead-requires-clause-longest g c =
    let same = unseen-max _ _ _ _ _ c.pass_unseen.ensures in
    let least = c.line.invariant.ready.longest in
    omega (arith, same, least)

pub take_turn-requires-clause-live : goal.take_turn-requires-clause-live
take_turn-requires-clause-live g c = subst (λ (f : Feed). f.phase ≢ Closed) (sym c.send_on.ensures.same)
    (ahead-live _ _ _ _ _ _ (c.in_ok-take_ahead.ensures.taken (g.E.Sink.tells c.line.err))
    (unseen-live _ _ _ _ _ c.pass_unseen.ensures c.line.invariant.ready.live))

pub take_turn-requires-clause-max : goal.take_turn-requires-clause-max
take_turn-requires-clause-max g c =
    let few : c.args.job.now.plan.now.after_context < 2 ^ 32 = let most = c.if-prove.false in omega arith in
    let kept = subst (λ (f : Feed). Keeps f c.take_ahead.new.course c.take_ahead.new.state)
    (sym c.send_on.ensures.same)
    (ahead-keeps _ _ _ _ _ _ (c.in_ok-take_ahead.ensures.taken (g.E.Sink.tells c.line.err)) few
    (unseen-keeps _ c.line.course c.line.scanner.state _ _ _ c.pass_unseen.ensures few c.line.invariant.ready.keeps)) in
    kept.max

pub take_turn-requires-clause-numbered : goal.take_turn-requires-clause-numbered
take_turn-requires-clause-numbered g c =
    let few : c.args.job.now.plan.now.after_context < 2 ^ 32 = let most = c.if-prove.false in omega arith in
    let kept = subst (λ (f : Feed). Keeps f c.take_ahead.new.course c.take_ahead.new.state)
    (sym c.send_on.ensures.same)
    (ahead-keeps _ _ _ _ _ _ (c.in_ok-take_ahead.ensures.taken (g.E.Sink.tells c.line.err)) few
    (unseen-keeps _ c.line.course c.line.scanner.state _ _ _ c.pass_unseen.ensures few c.line.invariant.ready.keeps)) in
    kept.numbered

pub take_turn-requires-clause-earlier : goal.take_turn-requires-clause-earlier
take_turn-requires-clause-earlier g c =
    let few : c.args.job.now.plan.now.after_context < 2 ^ 32 = let most = c.if-prove.false in omega arith in
    let kept = subst (λ (f : Feed). Keeps f c.take_ahead.new.course c.take_ahead.new.state)
    (sym c.send_on.ensures.same)
    (ahead-keeps _ _ _ _ _ _ (c.in_ok-take_ahead.ensures.taken (g.E.Sink.tells c.line.err)) few
    (unseen-keeps _ c.line.course c.line.scanner.state _ _ _ c.pass_unseen.ensures few c.line.invariant.ready.keeps)) in
    kept.earlier

pub take_turn-requires-clause-context : goal.take_turn-requires-clause-context
take_turn-requires-clause-context g c =
    let few : c.args.job.now.plan.now.after_context < 2 ^ 32 = let most = c.if-prove.false in omega arith in
    let kept = ahead-keeps _ _ _ _ _ _ (c.in_ok-take_ahead.ensures.taken (g.E.Sink.tells c.line.err)) few
    (unseen-keeps _ c.line.course c.line.scanner.state _ _ _ c.pass_unseen.ensures few c.line.invariant.ready.keeps) in
    kept.context

pub take_turn-requires-clause-selected : goal.take_turn-requires-clause-selected
take_turn-requires-clause-selected g c =
    let few : c.args.job.now.plan.now.after_context < 2 ^ 32 = let most = c.if-prove.false in omega arith in
    let kept = ahead-keeps _ _ _ _ _ _ (c.in_ok-take_ahead.ensures.taken (g.E.Sink.tells c.line.err)) few
    (unseen-keeps _ c.line.course c.line.scanner.state _ _ _ c.pass_unseen.ensures few c.line.invariant.ready.keeps) in
    let count = kept.selected in let number = kept.number in omega (arith, count, number)

pub take_turn-requires-clause-errors : goal.take_turn-requires-clause-errors
take_turn-requires-clause-errors g c =
    let few : c.args.job.now.plan.now.after_context < 2 ^ 32 = let most = c.if-prove.false in omega arith in
    let kept = ahead-keeps _ _ _ _ _ _ (c.in_ok-take_ahead.ensures.taken (g.E.Sink.tells c.line.err)) few
    (unseen-keeps _ c.line.course c.line.scanner.state _ _ _ c.pass_unseen.ensures few c.line.invariant.ready.keeps) in
    kept.errors

pub take_turn-requires-clause-longest : goal.take_turn-requires-clause-longest
take_turn-requires-clause-longest g c =
    let same = ap (λ (f : Feed). f.max) c.send_on.ensures.same
    ∙ ahead-max _ _ _ _ _ _ (c.in_ok-take_ahead.ensures.taken (g.E.Sink.tells c.line.err))
    ∙ unseen-max _ _ _ _ _ c.pass_unseen.ensures in
    let longest = ahead-longest _ _ _ _ _ _ (c.in_ok-take_ahead.ensures.taken (g.E.Sink.tells c.line.err)) in
    let least = c.line.invariant.ready.longest in
    omega (arith, same, longest, least)

pub take_turn-requires-clause-filter : goal.take_turn-requires-clause-filter
take_turn-requires-clause-filter g c =
    c.sift.ensures.filter c.args.job.now.plan.now (patterns_in c.args.job.now.patterns.now) c.line.invariant.filter

pub take_turn-requires-clause-limit : goal.take_turn-requires-clause-limit
take_turn-requires-clause-limit g c = λ is. ahead-limit _ _ _ _ _ _
    (c.in_ok-take_ahead.ensures.taken (g.E.Sink.tells c.line.err)) ∙ c.line.invariant.ready.limit is

pub take_turn-requires-clause-watch : goal.take_turn-requires-clause-watch
take_turn-requires-clause-watch g c =
    subst (λ (f : Feed). Watches c.args.job.now.plan.now (patterns_in c.args.job.now.patterns.now)
    c.take_ahead.new.watch f.held) (sym c.send_on.ensures.same) c.in_ok-take_ahead.ensures.watch

pub returns-in_err-take_turn-clause-taken : goal.returns-in_err-take_turn-clause-taken
returns-in_err-take_turn-clause-taken g c = λ from job stands.
    let job_is = c.args.job.now in
    let stop = c.in_err-take_turn.field-0.0 in
    let same : c.from_residual-in_err-take_turn.result ≡ Err stop = search rules in
    subst
    (TakesPart (work_of job_is) job_is.most from
    (position (fed c.take_turn.new.scanner.feed (g.S.Source.tells c.take_turn.new.source))
    (progress c.take_turn.new.course c.take_turn.new.scanner.state
    (printed (g.O.Sink.tells c.take_turn.new.out) (g.E.Sink.tells c.take_turn.new.err)))))
    (sym same)
    (scans-stops _ _ from.treated _ _ job from.before _ _ _ _ _ _ _ _ _ _ _ _ _ _
    (standing-sent _ _ from.treated _ from.before _ _ _ _ _ _ _ _ _
    (ahead-standing _ _ _ _ _ _ (c.in_ok-take_ahead.ensures.taken (g.E.Sink.tells c.line.err)) from.treated _
    from.before _ _ _ (unseen-standing _ c.line.course c.line.scanner.state _ _ _ c.pass_unseen.ensures _
    from.treated _ from.before _ _ _ _ _ c.line.invariant.ready.keeps.errors
    (c.line.invariant.standing from job stands))) _ c.send_on.ensures.same c.in_ok-send_on.ensures.sent)
    stop c.in_err-take_turn.ensures.turns)

pub line-smaller : goal.line-smaller
line-smaller g c =
    let row = rw c.in-Took-Line.field-0-is at (rw c.in-Took-Line.is at c.in_ok-take_turn.ensures.turns) in
    let grew = gave _ _ _ _ row.row row.gives in
    let more = grew.offset in
    let limit = grew.limit in
    let same = ap (λ (f : Feed). f.offset) c.send_on.ensures.same in
    let passed = unseen-offset _ _ _ _ _ c.pass_unseen.ensures in
    let taken = ahead-offset _ _ _ _ _ _ (c.in_ok-take_ahead.ensures.taken (g.E.Sink.tells c.line.err)) in
    omega (arith, more, limit, same, passed, taken)

pub line-preserved : goal.line-preserved
line-preserved g c =
    let row = rw c.in-Took-Line.field-0-is at (rw c.in-Took-Line.is at c.in_ok-take_turn.ensures.turns) in
    let few : c.args.job.now.plan.now.after_context < 2 ^ 32 = let most = c.if-prove.false in omega arith in
    let had = c.line.invariant.ready in
    let kept = subst (λ (f : Feed). Keeps f c.take_ahead.new.course c.take_ahead.new.state)
    (sym c.send_on.ensures.same)
    (ahead-keeps _ _ _ _ _ _ (c.in_ok-take_ahead.ensures.taken (g.E.Sink.tells c.line.err)) few
    (unseen-keeps _ c.line.course c.line.scanner.state _ _ _ c.pass_unseen.ensures few had.keeps)) in
    record {
      ready = record {
        live = live-gives _ _ _ _ row.row row.gives;
        keeps = keeps-more (work_of c.args.job.now) c.args.job.now.most _ _ _ _ row.row _ _ _ _ _ _ _ _ _ _ few refl
            kept row.gives row.takes;
        watch = c.in_ok-take_turn.ensures.watch Line
            (ap (λ t. Ok t) (c.in-Took-Line.is ∙ ap Took c.in-Took-Line.field-0-is));
        limit = λ is. row.takes.limit ∙ ahead-limit _ _ _ _ _ _
            (c.in_ok-take_ahead.ensures.taken (g.E.Sink.tells c.line.err)) ∙ had.limit is;
        longest =
            let grew = gave _ _ _ _ row.row row.gives in
            let max = grew.max in
            let same = ap (λ (f : Feed). f.max) c.send_on.ensures.same
            ∙ ahead-max _ _ _ _ _ _ (c.in_ok-take_ahead.ensures.taken (g.E.Sink.tells c.line.err))
            ∙ unseen-max _ _ _ _ _ c.pass_unseen.ensures in
            let least = had.longest in
            let longest = row.takes.longest ∙ ahead-longest _ _ _ _ _ _
            (c.in_ok-take_ahead.ensures.taken (g.E.Sink.tells c.line.err)) in
            omega (arith, max, same, least, longest);
      };
      until = c.in_ok-take_turn.ensures.until ∙ c.sift.ensures.until ∙ c.line.invariant.until;
      filter = c.in_ok-take_turn.ensures.filter;
      standing = λ from job stands. standing-line _ _ from.treated _ from.before _ _ _ _ row.row _ _ _ _ _ _ _ _ _ _
          (standing-sent _ _ from.treated _ from.before _ _ _ _ _ _ _ _ _
          (ahead-standing _ _ _ _ _ _ (c.in_ok-take_ahead.ensures.taken (g.E.Sink.tells c.line.err)) from.treated _
          from.before _ _ _ (unseen-standing _ c.line.course c.line.scanner.state _ _ _ c.pass_unseen.ensures _
          from.treated _ from.before _ _ _ _ _ had.keeps.errors (c.line.invariant.standing from job stands))) _
          c.send_on.ensures.same c.in_ok-send_on.ensures.sent) row.gives row.takes;
    }

pub returns-in-Took-Context-clause-taken : goal.returns-in-Took-Context-clause-taken
returns-in-Took-Context-clause-taken g c = λ from job stands.
    let row = rw c.in-Took-Context.field-0-is at (rw c.in-Took-Context.is at c.in_ok-take_turn.ensures.turns) in
    standing-pauses _ _ from.treated _ from.before _ _ _ _ row.row _ _ _ _ _ _ _ _ _ _
    (standing-sent _ _ from.treated _ from.before _ _ _ _ _ _ _ _ _
    (ahead-standing _ _ _ _ _ _ (c.in_ok-take_ahead.ensures.taken (g.E.Sink.tells c.line.err)) from.treated _
    from.before _ _ _ (unseen-standing _ c.line.course c.line.scanner.state _ _ _ c.pass_unseen.ensures _ from.treated
    _ from.before _ _ _ _ _ c.line.invariant.ready.keeps.errors
    (c.line.invariant.standing from job stands))) _ c.send_on.ensures.same c.in_ok-send_on.ensures.sent)
    row.gives from.feed from.course row.takes

pub returns-in-Finished-clause-taken : goal.returns-in-Finished-clause-taken
returns-in-Finished-clause-taken g c = λ from job stands.
    let ends = rw c.in-Finished.is at c.in_ok-take_turn.ensures.turns in
    scans-ends _ _ from.treated _ _ job from.before _ _ _ _ _ _ _ _ _ _ _ _ _ _
    (standing-sent _ _ from.treated _ from.before _ _ _ _ _ _ _ _ _
    (ahead-standing _ _ _ _ _ _ (c.in_ok-take_ahead.ensures.taken (g.E.Sink.tells c.line.err)) from.treated _
    from.before _ _ _ (unseen-standing _ c.line.course c.line.scanner.state _ _ _ c.pass_unseen.ensures _ from.treated
    _ from.before _ _ _ _ _ c.line.invariant.ready.keeps.errors
    (c.line.invariant.standing from job stands))) _ c.send_on.ensures.same c.in_ok-send_on.ensures.sent)
    c.in-Finished.ended ends.0 ends.1

pub returns-in_err-send_on-clause-taken : goal.returns-in_err-send_on-clause-taken
returns-in_err-send_on-clause-taken g c = λ from job stands.
    let job_is = c.args.job.now in
    let stop = c.in_err-send_on.field-0.0 in
    let same : c.from_residual-in_err-send_on.result ≡ Err stop = search rules in
    subst
    (TakesPart (work_of job_is) job_is.most from
    (position (fed c.send_on.new.feed (g.S.Source.tells c.line.source))
    (progress c.take_ahead.new.course c.take_ahead.new.state
    (printed (g.O.Sink.tells c.send_on.new.out) (g.E.Sink.tells c.line.err)))))
    (sym same)
    (scans-unsent _ _ from.treated _ from.before _ _ _ _ _ _ _ _ _
    (ahead-standing _ _ _ _ _ _ (c.in_ok-take_ahead.ensures.taken (g.E.Sink.tells c.line.err)) from.treated _
    from.before _ _ _ (unseen-standing _ c.line.course c.line.scanner.state _ _ _ c.pass_unseen.ensures _ from.treated
    _ from.before _ _ _ _ _ c.line.invariant.ready.keeps.errors
    (c.line.invariant.standing from job stands))) _ job stop c.in_err-send_on.ensures.sent)

pub returns-in_err-take_ahead-clause-taken : goal.returns-in_err-take_ahead-clause-taken
returns-in_err-take_ahead-clause-taken g c = λ from job stands.
    let job_is = c.args.job.now in
    let stop = c.in_err-take_ahead.field-0.0 in
    let same : c.from_residual.result ≡ Err stop = search rules in
    subst
    (TakesPart (work_of job_is) job_is.most from
    (position (fed c.take_ahead.new.feed (g.S.Source.tells c.line.source))
    (progress c.take_ahead.new.course c.take_ahead.new.state
    (printed (g.O.Sink.tells c.take_ahead.new.out) (g.E.Sink.tells c.line.err)))))
    (sym same)
    (scans-cut _ _ from.treated _ from.before _ _ _ _ _ _ job _ _ stop
    (unseen-standing _ c.line.course c.line.scanner.state _ _ _ c.pass_unseen.ensures _ from.treated _ from.before _ _ _
    _ _ c.line.invariant.ready.keeps.errors (c.line.invariant.standing from job stands))
    (c.in_err-take_ahead.ensures.taken (g.E.Sink.tells c.line.err)))
