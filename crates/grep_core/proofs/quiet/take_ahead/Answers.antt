use Rattle.std.proofs.Common.{subst}
use Rattle.grep_core.specs.Turns.{course_of}
use Rattle.grep_core.specs.Unseen.{KeepsUnmatched}
use Rattle.grep_core.proofs.quiet.take_ahead.Goals as goal

pub pass_kept-requires-clause-kept : goal.pass_kept-requires-clause-kept
pass_kept-requires-clause-kept g c =
    let job = c.args.job.now in
    subst (λ n. KeepsUnmatched job.plan.now job.show (course_of c.args.course.now) n) c.number.ensures
    (c.keeps_unmatched.ensures c.if-keeps_unmatched.true)
