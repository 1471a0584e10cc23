use Rattle.std.proofs.Common.{◌≡◌, ◌∷◌, [], not, Ok, Err, length, refl, sym, ap, subst, ◌∙◌, rules}
use Rattle.line_feed.specs.Lines.{row_of}
use Rattle.grep_match.specs.Compiled.{patterns_in}
use Rattle.grep_match.specs.Matches.{Matches, Tried, tried_row, selects}
use Rattle.grep_match.proofs.Searching.{lists_none}
use Rattle.tool_io.specs.Printed.{printed}
use Rattle.grep_core.specs.Work.{work_of, progress}
use Rattle.grep_core.specs.Turns.{TakesLine}
use Rattle.grep_core.proofs.Taking.{selects-alike, selected-takes, passed-takes, passed-refused}
use Rattle.grep_core.proofs.lines.take_found.Goals as goal

pub select-requires-clause-found : goal.select-requires-clause-found
select-requires-clause-found g c = (
  [],
  lists_none c.args.job.now.plan.now.only_matching (length c.args.line.now.bytes.now) c.clear.new.self
      c.clear.ensures,
)

pub returns-in_err-pass : goal.returns-in_err-pass
returns-in_err-pass g c = λ err.
    let job = c.args.job.now in
    let t = tried_row job.plan.now (patterns_in job.patterns.now) (row_of c.args.line.now) in
    let one = c.requires.found in
    let stop = c.in_err-pass.field-0.0 in
    let refused : c.from_residual.result ≡ Err stop = search rules in
    subst
    (TakesLine (work_of job) job.most t (progress c.args.course.now c.args.state.now
    (printed (g.O.Sink.tells c.args.out.now) err))
    (progress c.pass.new.course c.args.state.now (printed (g.O.Sink.tells c.pass.new.out) err)))
    (sym refused)
    (passed-refused (work_of job) job.most t (one.0 ∷ []) one.1 c.args.course.now c.pass.new.course
    c.args.state.now _ _ _ stop
    (ap (λ (m : Matches). selects job.plan.now.invert_match m) one.1 ∙ ap not c.if-not-job.false)
    (c.in_err-pass.ensures t c.args.state.now err refl))

pub returns : goal.returns
returns g c = λ err.
    let job = c.args.job.now in
    let t = tried_row job.plan.now (patterns_in job.patterns.now) (row_of c.args.line.now) in
    let one = c.requires.found in
    passed-takes (work_of job) job.most t (one.0 ∷ []) one.1 _ _ _ _ _ _
    (ap (λ (m : Matches). selects job.plan.now.invert_match m) one.1 ∙ ap not c.if-not-job.false)
    c.requires.errors
    (c.in_ok-pass.ensures t c.args.state.now err refl)

pub returns-then-not-job : goal.returns-then-not-job
returns-then-not-job g c = λ err.
    let job = c.args.job.now in
    let row = row_of c.args.line.now in
    let t = tried_row job.plan.now (patterns_in job.patterns.now) row in
    let u : Tried = record { row = row; matches = Ok [] } in
    let one = c.requires.found in
    let listed = lists_none job.plan.now.only_matching (length c.args.line.now.bytes.now) c.clear.new.self
    c.clear.ensures in
    selected-takes (work_of job) job.most t (one.0 ∷ []) one.1 _ _ _ _ _ _ _ _
    (ap (λ (m : Matches). selects job.plan.now.invert_match m) one.1 ∙ ap not c.if-not-job.true)
    c.requires.errors
    (selects-alike (work_of job) job.most t u refl c.requires.show _ _ c.select.result
    (c.select.ensures u err refl listed))
