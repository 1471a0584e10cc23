use Rattle.std.proofs.Common.{subst}
use Rattle.grep_match.specs.Compiled.{patterns_in}
use Rattle.grep_core.specs.Work.{work_of}
use Rattle.grep_core.specs.Turns.{course_of}
use Rattle.grep_core.specs.Unseen.{HidesUnmatched}
use Rattle.grep_core.proofs.Unseen.{unseen-over, unseen-none}
use Rattle.grep_core.proofs.quiet.pass_unseen.Goals as goal

pub returns-then-hides_unmatched : goal.returns-then-hides_unmatched
returns-then-hides_unmatched c =
    let job = c.args.job.now in
    let plan = job.plan.now in
    let patterns = patterns_in job.patterns.now in
    let course = course_of c.args.course.now in
    unseen-over (work_of job) course c.pass.new.self c.args.feed.now c.pass.new.feed
    (subst (λ n. HidesUnmatched plan job.name.now job.show course n) c.number.ensures
    (c.hides_unmatched.ensures c.if-hides_unmatched.true))
    (c.pass.ensures plan patterns c.requires.watch)

pub returns-else-hides_unmatched : goal.returns-else-hides_unmatched
returns-else-hides_unmatched c =
    let job = c.args.job.now in
    unseen-none (work_of job) (course_of c.args.course.now) c.args.watch.now c.args.feed.now c.requires.watch
