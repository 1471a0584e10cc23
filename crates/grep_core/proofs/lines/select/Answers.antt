use Rattle.std.proofs.Common.{◌≡◌, ◌∙◌, ap, sym}
use Rattle.line_feed.specs.Rows.{Row}
use Rattle.grep_match.specs.Compiled.{patterns_in}
use Rattle.grep_output.specs.Course.{is_lines}
use Rattle.grep_core.proofs.Steps.{shows-lines, selected-line, selected-only}
use Rattle.grep_core.proofs.lines.select.Goals as goal
use Rattle.grep_core.proofs.lines.select.Goals.{then-eq, else-eq}

pub returns : goal.returns
returns g c t err e listed =
    let job = c.args.job.now in
    let old = g.O.Sink.tells c.args.out.now in
    let new = g.O.Sink.tells c.write_shown.new.out in
    let shown : c.eq.result ≡ is_lines job.show = c.eq.ensures ∙ shows-lines job.show in
    elim c.if-eq.branch [
      | then-eq w ↦
          selected-line job.plan.now (patterns_in job.patterns.now) job.name.now job.most t c.args.course.now
          c.args.state.now c.if-eq.course c.if-eq.state old new err
          c.next_after.result c.in_ok-write_shown.field-0 job.show c.args.line.now.number w.from.result
          w.clear.new.self (sym shown ∙ w.if-eq.true) (c.in_ok-write_shown.ensures t e listed)
          (ap (λ (r : Row). r.number) e) w.from.ensures w.clear.ensures w.course-is w.state-is c.next_after.ensures
      | else-eq w ↦
          selected-only job.plan.now (patterns_in job.patterns.now) job.name.now job.most t c.args.course.now
          c.args.state.now c.if-eq.course c.if-eq.state old new err
          c.next_after.result c.in_ok-write_shown.field-0 job.show (sym shown ∙ w.if-eq.false)
          (c.in_ok-write_shown.ensures t e listed) w.course-is w.state-is c.next_after.ensures
    ]
