use Rattle.std.proofs.Common.{◌≡◌, Err, refl, sym, ap, subst, ◌∙◌, rules, length, SFits, w32}
use Rattle.std.proofs.lemmas.Int.{to_z-of_z}
use Rattle.line_feed.specs.Lines.{row_of}
use Rattle.grep_match.specs.Compiled.{patterns_in}
use Rattle.grep_match.specs.Matches.{tried_row}
use Rattle.grep_watch.specs.Filtered.{IsKnown}
use Rattle.grep_core.specs.Work.{work_of, progress}
use Rattle.grep_core.specs.Turns.{TakesLine}
use Rattle.grep_core.proofs.Taking.{IsTried, verdict-error, verdict-match, verdict-none, tried-listed}
use Rattle.grep_core.proofs.Taking.{selected-takes, passed-takes, passed-refused, chosen, unchosen}
use Rattle.grep_core.proofs.lines.take_line.Goals.{in-Match, in-NoMatch}
use Rattle.grep_core.proofs.lines.take_line.Goals as goal
use Rattle.tool_io.specs.Printed.{printed}

pub take_found-requires-clause-found : goal.take_found-requires-clause-found
take_found-requires-clause-found g c =
    let job = c.args.job.now in
    subst (IsKnown job.plan.now (patterns_in job.patterns.now) c.args.line.now.bytes.now)
    (c.is_enough.ensures.known c.if-is_enough.true) c.requires.known

pub take_found-requires-clause-show : goal.take_found-requires-clause-show
take_found-requires-clause-show g c = c.is_enough.ensures.show c.if-is_enough.true

pub verdict_on-requires-clause-quiet : goal.verdict_on-requires-clause-quiet
verdict_on-requires-clause-quiet g c = λ on.
    let job = c.args.job.now in
    subst (IsKnown job.plan.now (patterns_in job.patterns.now) c.args.line.now.bytes.now)
    (c.is_without.ensures on) c.requires.known

pub returns-then-is_enough : goal.returns-then-is_enough
returns-then-is_enough g c = c.take_found.ensures (g.E.Sink.tells c.args.err.now)

pub returns-in-Error : goal.returns-in-Error
returns-in-Error g c =
    let job = c.args.job.now in
    let row = row_of c.args.line.now in
    let t = tried_row job.plan.now (patterns_in job.patterns.now) row in
    let fits : SFits w32 c.in-Error.error = search rules in
    c.take_error.ensures t refl
    (verdict-error job.plan.now.only_matching (length c.args.line.now.bytes.now) c.verdict_on.new.work.found
    c.in-Error.error t.matches (rw c.in-Error.is at c.in_ok-verdict_on.ensures)
    ∙ ap Err (sym (to_z-of_z w32 c.in-Error.error fits)))

pub returns-then-is_match-job : goal.returns-then-is_match-job
returns-then-is_match-job g c =
    let job = c.args.job.now in
    let row = row_of c.args.line.now in
    let t = tried_row job.plan.now (patterns_in job.patterns.now) row in
    let wanted = job.plan.now.only_matching in
    let len = length c.args.line.now.bytes.now in
    let list = c.verdict_on.new.work.found in
    let tried : IsTried wanted len list c.match-branch-2.is_match t.matches =
    elim c.match-branch-2.branch [
      | in-Match w ↦ subst (λ b. IsTried wanted len list b t.matches) (sym w.is_match-is)
          (verdict-match wanted len list t.matches (rw w.in-Match.is at c.in_ok-verdict_on.ensures))
      | in-NoMatch w ↦ subst (λ b. IsTried wanted len list b t.matches) (sym w.is_match-is)
          (verdict-none wanted len list t.matches (rw w.in-NoMatch.is at c.in_ok-verdict_on.ensures))
    ] in
    selected-takes (work_of job) job.most t tried.found tried.is _ _ _ _ _ _ _ _
    (tried.selects_so job.plan.now.invert_match ∙ chosen c.match-branch-2.is_match job.plan.now.invert_match
    c.if-is_match-job.true)
    c.requires.errors
    (c.select.ensures t (g.E.Sink.tells c.args.err.now) refl
    (tried-listed wanted len list c.match-branch-2.is_match t.matches tried))

pub returns-in_err-pass : goal.returns-in_err-pass
returns-in_err-pass g c =
    let job = c.args.job.now in
    let row = row_of c.args.line.now in
    let t = tried_row job.plan.now (patterns_in job.patterns.now) row in
    let wanted = job.plan.now.only_matching in
    let len = length c.args.line.now.bytes.now in
    let list = c.verdict_on.new.work.found in
    let tried : IsTried wanted len list c.match-branch-2.is_match t.matches =
    elim c.match-branch-2.branch [
      | in-Match w ↦ subst (λ b. IsTried wanted len list b t.matches) (sym w.is_match-is)
          (verdict-match wanted len list t.matches (rw w.in-Match.is at c.in_ok-verdict_on.ensures))
      | in-NoMatch w ↦ subst (λ b. IsTried wanted len list b t.matches) (sym w.is_match-is)
          (verdict-none wanted len list t.matches (rw w.in-NoMatch.is at c.in_ok-verdict_on.ensures))
    ] in
    let stop = c.in_err-pass.field-0.0 in
    let refused : c.from_residual-in_err-pass.result ≡ Err stop = search rules in
    subst
    (TakesLine (work_of job) job.most t (progress c.args.course.now c.args.state.now
    (printed (g.O.Sink.tells c.args.out.now) (g.E.Sink.tells c.args.err.now)))
    (progress c.pass.new.course c.args.state.now
    (printed (g.O.Sink.tells c.pass.new.out) (g.E.Sink.tells c.args.err.now))))
    (sym refused)
    (passed-refused (work_of job) job.most t tried.found tried.is c.args.course.now c.pass.new.course c.args.state.now
    _ _ _ stop
    (tried.selects_so job.plan.now.invert_match ∙ unchosen c.match-branch-2.is_match job.plan.now.invert_match
    c.if-is_match-job.false)
    (c.in_err-pass.ensures t c.args.state.now (g.E.Sink.tells c.args.err.now) refl))

pub returns : goal.returns
returns g c =
    let job = c.args.job.now in
    let row = row_of c.args.line.now in
    let t = tried_row job.plan.now (patterns_in job.patterns.now) row in
    let wanted = job.plan.now.only_matching in
    let len = length c.args.line.now.bytes.now in
    let list = c.verdict_on.new.work.found in
    let tried : IsTried wanted len list c.match-branch-2.is_match t.matches =
    elim c.match-branch-2.branch [
      | in-Match w ↦ subst (λ b. IsTried wanted len list b t.matches) (sym w.is_match-is)
          (verdict-match wanted len list t.matches (rw w.in-Match.is at c.in_ok-verdict_on.ensures))
      | in-NoMatch w ↦ subst (λ b. IsTried wanted len list b t.matches) (sym w.is_match-is)
          (verdict-none wanted len list t.matches (rw w.in-NoMatch.is at c.in_ok-verdict_on.ensures))
    ] in
    passed-takes (work_of job) job.most t tried.found tried.is _ _ _ _ _ _
    (tried.selects_so job.plan.now.invert_match ∙ unchosen c.match-branch-2.is_match job.plan.now.invert_match
    c.if-is_match-job.false)
    c.requires.errors
    (c.in_ok-pass.ensures t c.args.state.now (g.E.Sink.tells c.args.err.now) refl)
