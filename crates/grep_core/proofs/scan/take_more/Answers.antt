use Rattle.std.proofs.Common.{rules, ◌≡◌, Err, sym, subst}
use Rattle.grep_core.specs.Work.{work_of, progress, fed, position}
use Rattle.grep_core.specs.Underway.{began_at}
use Rattle.grep_core.specs.WholeScans.{TakesAll}
use Rattle.tool_io.specs.Printed.{printed}
use Rattle.grep_core.proofs.scan.take_more.Goals as goal

pub returns-in_err-ended-clause-taken : goal.returns-in_err-ended-clause-taken
returns-in_err-ended-clause-taken g c = λ from job stands.
    let job_is = c.args.job.now in
    let stop = c.in_err-ended.field-0.0 in
    let same : c.from_residual.result ≡ Err stop = search rules in
    subst
    (TakesAll (work_of job_is) job_is.most from.treated (began_at from)
    (position (fed c.take_until.new.scanner.feed (g.S.Source.tells c.take_until.new.source))
    (progress c.take_until.new.course c.take_until.new.scanner.state
    (printed (g.O.Sink.tells c.take_until.new.out) (g.E.Sink.tells c.take_until.new.err)))))
    (sym same) (c.in_err-ended.ensures.taken from job stands)

pub returns-in-Done-clause-taken : goal.returns-in-Done-clause-taken
returns-in-Done-clause-taken g c = λ from job stands. rw c.in-Done.is at (c.in_ok-ended.ensures.taken from job stands)

pub returns-clause-taken : goal.returns-clause-taken
returns-clause-taken g c = λ from job stands.
    let far = rw c.in-Far.is at (c.in_ok-ended.ensures.taken from job stands) in
    c.take_rest.ensures.taken from job far
