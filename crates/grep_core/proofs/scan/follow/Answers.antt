use Rattle.std.proofs.Common.{rules, ◌≡◌, ◌≢◌, ◌<◌, Err, None, arith, sym, subst}
use Rattle.line_feed.specs.View.{Feed}
use Rattle.line_feed.specs.declared.phase.Phase.TheVariants.{Closed}
use Rattle.grep_output.specs.declared.shows.Show.TheVariants.{Lines}
use Rattle.grep_output.specs.Shows.{lines_after}
use Rattle.grep_core.specs.Work.{work_of}
use Rattle.grep_core.specs.Follows.{Follows, past}
use Rattle.line_feed.proofs.Given.{live-gives}
use Rattle.grep_core.proofs.ScansFollow.{after-lines, after-others, following-none, following-more, follows-ends}
use Rattle.grep_core.proofs.ScansFollow.{follows-stops, follows-all, following-sent, follows-unsent}
use Rattle.grep_core.proofs.scan.follow.Goals as goal

pub returns-then-ne : goal.returns-then-ne
returns-then-ne g c = λ before treated given stood kind max near whole.
    let job = c.args.job.now in
    let other : job.show ≢ Lines = λ is. (let e = rw is at c.if-ne.ensures in cc) in
    follows-all (work_of job) treated before given _ _ _ _ _
    (following-none (work_of job) treated before given _ _ _ stood kind max near whole)
    (sym (after-others job.show job.plan.now.after_context other))

pub line-init : goal.line-init
line-init g c = record {
  live = c.requires;
  within = omega arith;
  following = λ before treated given stood kind max near whole. following-none (work_of c.args.job.now) treated before
      given _ _ _ stood kind max near whole;
}

pub follow_one-requires : goal.follow_one-requires
follow_one-requires g c = subst (λ (f : Feed). f.phase ≢ Closed) (sym c.send_on.ensures.same) c.line.invariant.live

pub returns-in_err-ended : goal.returns-in_err-ended
returns-in_err-ended g c = λ before treated given stood kind max near whole.
    let job = c.args.job.now in
    let stop = c.in_err-ended.field-0.0 in
    let same : c.from_residual-in_err-ended.result ≡ Err stop = search rules in
    let lines : job.show ≡ Lines = search rules in
    let after = after-lines job.show job.plan.now.after_context lines in
    let less = c.line-test.true in
    let few : c.line.counter < lines_after job.show job.plan.now.after_context = omega arith in
    subst (Follows (work_of job) (past before treated given) (g.S.Source.tells c.follow_one.new.source)
    (g.O.Sink.tells c.args.out.now) (g.O.Sink.tells c.follow_one.new.out)) (sym same)
    (follows-stops (work_of job) treated before given _ _ _ _ _ _ _ _
    (following-sent (work_of job) treated before given _ _ _ _ _ _
    (c.line.invariant.following before treated given stood kind max near whole) _ c.send_on.ensures.same
    c.in_ok-send_on.ensures.sent) stop few c.in_err-ended.ensures)

pub returns-in-Some : goal.returns-in-Some
returns-in-Some g c = λ before treated given stood kind max near whole.
    let job = c.args.job.now in
    let lines : job.show ≡ Lines = search rules in
    let after = after-lines job.show job.plan.now.after_context lines in
    let less = c.line-test.true in
    let few : c.line.counter < lines_after job.show job.plan.now.after_context = omega arith in
    let ends = rw c.in-Some.is at c.in_ok-ended.ensures in
    follows-ends (work_of job) treated before given _ _ _ _ _ _ _ _
    (following-sent (work_of job) treated before given _ _ _ _ _ _
    (c.line.invariant.following before treated given stood kind max near whole) _ c.send_on.ensures.same
    c.in_ok-send_on.ensures.sent) c.in-Some.ended few ends

pub line-preserved : goal.line-preserved
line-preserved g c =
    let job = c.args.job.now in
    let none : c.in_ok-ended.field-0 ≡ None = search rules in
    let shows = rw none at c.in_ok-ended.ensures in
    record {
      live = live-gives _ _ _ _ shows.row shows.gives;
      within = let less = c.line-test.true in omega arith;
      following = λ before treated given stood kind max near whole. following-more (work_of job) treated before given
          _ _ _ _ _ _ _ _ (following-sent (work_of job) treated before given _ _ _ _ _ _
          (c.line.invariant.following before treated given stood kind max near whole) _ c.send_on.ensures.same
          c.in_ok-send_on.ensures.sent) shows;
    }

pub returns : goal.returns
returns g c = λ before treated given stood kind max near whole.
    let job = c.args.job.now in
    let lines : job.show ≡ Lines = search rules in
    let after = after-lines job.show job.plan.now.after_context lines in
    let most = c.line-test.false in
    let within = c.line.invariant.within in
    let all : c.line.counter ≡ lines_after job.show job.plan.now.after_context = omega arith in
    follows-all (work_of job) treated before given _ _ _ _ _
    (c.line.invariant.following before treated given stood kind max near whole) all

pub returns-in_err-send_on : goal.returns-in_err-send_on
returns-in_err-send_on g c = λ before treated given stood kind max near whole.
    let job = c.args.job.now in
    let stop = c.in_err-send_on.field-0.0 in
    let same : c.from_residual.result ≡ Err stop = search rules in
    let lines : job.show ≡ Lines = search rules in
    let after = after-lines job.show job.plan.now.after_context lines in
    let less = c.line-test.true in
    let few : c.line.counter < lines_after job.show job.plan.now.after_context = omega arith in
    subst (Follows (work_of job) (past before treated given) (g.S.Source.tells c.line.source)
    (g.O.Sink.tells c.args.out.now) (g.O.Sink.tells c.send_on.new.out)) (sym same)
    (follows-unsent (work_of job) treated before given _ _ _ _ _ _
    (c.line.invariant.following before treated given stood kind max near whole) stop few
    c.in_err-send_on.ensures.sent)
