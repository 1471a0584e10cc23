use Rattle.std.proofs.Common.{rules, ◌≡◌, length, Err, ap, sym, subst, arith}
use Rattle.grep_core.specs.Work.{work_of, progress, fed, position}
use Rattle.grep_core.specs.Underway.{Origin}
use Rattle.grep_core.specs.WholeScans.{TakesAll}
use Rattle.grep_core.proofs.ScansLoop.{standing-begun}
use Rattle.tool_io.specs.Printed.{printed}
use Rattle.grep_core.proofs.scan.take_lines.Goals as goal

pub take_until-requires-clause-ready : goal.take_until-requires-clause-ready
take_until-requires-clause-ready g c = record {
  live = c.requires.live;
  longest = c.requires.longest;
  keeps =
      let first = c.requires.first in
      let selected = c.requires.selected in
      let context = c.requires.context in
      let earlier = ap length c.requires.earlier in record {
        max = c.requires.max;
        numbered = omega arith;
        number = omega arith;
        earlier = omega arith;
        context = omega arith;
        selected = omega arith;
        errors = c.requires.errors;
      };
  watch = c.first_part-part.ensures.watch c.args.scanner.now.feed.held;
  limit = λ is. c.requires.limit;
}

pub returns-in_err-came-clause-taken : goal.returns-in_err-came-clause-taken
returns-in_err-came-clause-taken g c = λ before treated job stood.
    let job_is = c.args.job.now in
    let out = g.O.Sink.tells c.args.out.now in
    let err = g.E.Sink.tells c.args.err.now in
    let from : Origin = record {
      treated = treated;
      before = before;
      feed = c.args.scanner.now.feed;
      course = c.args.course.now;
      state = c.args.scanner.now.state;
      out = out;
      err = err;
    } in
    let stop = c.in_err-came.field-0.0 in
    let same : c.from_residual.result ≡ Err stop = search rules in
    subst
    (TakesAll (work_of job_is) job_is.most treated
    (position (fed c.args.scanner.now.feed before)
    (progress c.args.course.now c.args.scanner.now.state (printed out err)))
    (position (fed c.take_until.new.scanner.feed (g.S.Source.tells c.take_until.new.source))
    (progress c.take_until.new.course c.take_until.new.scanner.state
    (printed (g.O.Sink.tells c.take_until.new.out) (g.E.Sink.tells c.take_until.new.err)))))
    (sym same)
    (c.in_err-came.ensures.taken from job
    (standing-begun _ _ treated _ before _ _ _ _ _ job stood c.requires.selected c.requires.context c.requires.earlier
    c.requires.errors))

pub returns-in-Done-clause-taken : goal.returns-in-Done-clause-taken
returns-in-Done-clause-taken g c = λ before treated job stood.
    let out = g.O.Sink.tells c.args.out.now in
    let err = g.E.Sink.tells c.args.err.now in
    let from : Origin = record {
      treated = treated;
      before = before;
      feed = c.args.scanner.now.feed;
      course = c.args.course.now;
      state = c.args.scanner.now.state;
      out = out;
      err = err;
    } in
    rw c.in-Done.is at (c.in_ok-came.ensures.taken from job
    (standing-begun _ _ treated _ before _ _ _ _ _ job stood c.requires.selected c.requires.context c.requires.earlier
    c.requires.errors))

pub returns-in-Far-clause-taken : goal.returns-in-Far-clause-taken
returns-in-Far-clause-taken g c = λ before treated job stood.
    let out = g.O.Sink.tells c.args.out.now in
    let err = g.E.Sink.tells c.args.err.now in
    let from : Origin = record {
      treated = treated;
      before = before;
      feed = c.args.scanner.now.feed;
      course = c.args.course.now;
      state = c.args.scanner.now.state;
      out = out;
      err = err;
    } in
    let stands = rw c.in-Far.is at (c.in_ok-came.ensures.taken from job
    (standing-begun _ _ treated _ before _ _ _ _ _ job stood c.requires.selected c.requires.context c.requires.earlier
    c.requires.errors)) in
    c.take_more.ensures.taken from job stands
