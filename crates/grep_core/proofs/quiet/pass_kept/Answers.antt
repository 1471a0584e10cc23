use Rattle.std.proofs.Common.{rules, ◌≡◌, ◌-◌, Err, min, arith, subst, sym, ap, refl, ◌∙◌}
use Rattle.grep_match.specs.Compiled.{patterns_in}
use Rattle.grep_output.specs.declared.ended.Stop.TheVariants.{Memory}
use Rattle.tool_io.specs.Printed.{printed}
use Rattle.grep_watch.specs.declared.watch.Watch.{Watch}
use Rattle.grep_watch.specs.Watched.{Watches, with_quiet}
use Rattle.grep_core.specs.declared.lines.Course.{Course}
use Rattle.grep_core.specs.Work.{work_of, progress}
use Rattle.grep_core.specs.Ahead.{TakesRun}
use Rattle.grep_core.proofs.Runs.{ahead-none}
use Rattle.grep_core.proofs.Keeping.{left-live, left-max, kept-watches, kept-ahead, kept-halts}
use Rattle.grep_core.proofs.quiet.pass_kept.Goals as goal

pub returns-in_default-clause-taken : goal.returns-in_default-clause-taken
returns-in_default-clause-taken c = λ s out err few. ahead-none _ _ _ _

pub pass_but-requires-clause-held : goal.pass_but-requires-clause-held
pass_but-requires-clause-held c =
    let job = c.args.job.now in
    (c.in-Some.ensures.reach job.plan.now (patterns_in job.patterns.now) c.requires.watch).held

pub keep_lines-requires-clause-live : goal.keep_lines-requires-clause-live
keep_lines-requires-clause-live c = left-live (work_of c.args.job.now) c.args.job.now.most _ _ _ _ _
    c.in-Some-pass_but.ensures c.requires.live

pub keep_lines-requires-clause-max : goal.keep_lines-requires-clause-max
keep_lines-requires-clause-max c =
    let same = left-max (work_of c.args.job.now) c.args.job.now.most _ _ _ _ _ c.in-Some-pass_but.ensures in
    let had = c.requires.max in
    omega (arith, same, had)

pub keep_lines-requires-clause-longest : goal.keep_lines-requires-clause-longest
keep_lines-requires-clause-longest c =
    let same = left-max (work_of c.args.job.now) c.args.job.now.most _ _ _ _ _ c.in-Some-pass_but.ensures in
    let had = c.requires.longest in
    omega (arith, same, had)

pub returns-in_err-kept-clause-taken : goal.returns-in_err-kept-clause-taken
returns-in_err-kept-clause-taken c = λ s out err few.
    let job = c.args.job.now in
    let old = c.args.course.now in
    let new : Course = record {
      selected = old.selected;
      context_to = old.context_to;
      earlier = c.keep_lines.new.earlier;
    } in
    let same : c.from_residual.result ≡ Err Memory = search rules in
    subst (TakesRun (work_of job) job.most c.args.feed.now c.keep_lines.new.feed (progress old s (printed out err))
    (progress new s (printed out err))) (sym same)
    (kept-halts (work_of job) job.most c.args.feed.now c.keep_lines.new.feed old new s out err refl)

pub returns-clause-watch : goal.returns-clause-watch
returns-clause-watch c =
    let job = c.args.job.now in
    let f = c.args.feed.now in
    let within = c.in-Some.within in
    let passed = c.in-Some-pass_but.passed in
    let leaves = c.in-Some-pass_but.ensures in
    let kept = c.in_ok-kept.kept in
    let is = c.skip-2.ensures ∙ ap (λ (w : Watch). with_quiet w (w.quiet - kept)) c.skip.ensures in
    subst (λ (w : Watch). Watches job.plan.now (patterns_in job.patterns.now) w c.keep_lines.new.feed.held) (sym is)
    (kept-watches (work_of job) f c.pass_but.new.self c.keep_lines.new.feed within passed kept
    c.args.course.now.earlier c.keep_lines.new.earlier leaves
    (c.in_ok-kept.ensures (min within f.max - passed) leaves.holds) c.reach.new.self
    (c.in-Some.ensures.reach job.plan.now (patterns_in job.patterns.now) c.requires.watch))

pub returns-clause-taken : goal.returns-clause-taken
returns-clause-taken c = λ s out err few.
    let job = c.args.job.now in
    let f = c.args.feed.now in
    let within = c.in-Some.within in
    let passed = c.in-Some-pass_but.passed in
    let leaves = c.in-Some-pass_but.ensures in
    kept-ahead (work_of job) f c.pass_but.new.self c.keep_lines.new.feed within passed c.in_ok-kept.kept
    c.args.course.now.earlier c.keep_lines.new.earlier leaves
    (c.in_ok-kept.ensures (min within f.max - passed) leaves.holds) job.most
    c.reach.new.self c.args.course.now s out err refl (c.requires.limit c.requires.kept.lines) c.requires.kept few
    (c.in-Some.ensures.reach job.plan.now (patterns_in job.patterns.now) c.requires.watch)
