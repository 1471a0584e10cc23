use Rattle.std.proofs.Common.{rules, ◌≡◌, Err, ap, ◌∙◌}
use Rattle.grep_output.specs.declared.ended.Stop.TheVariants.{SinkFault, Memory}
use Rattle.grep_match.specs.Compiled.{patterns_in}
use Rattle.grep_core.proofs.FileTexts.{Scanned, job-is, greps-all, greps-moved, greps-breaks, greps-many}
use Rattle.grep_core.proofs.FileTexts.{greps-untold, greps-cut, greps-lacks, fault-other, memory-other}
use Rattle.grep_core.proofs.file.grep_file_by.Given as given
use Rattle.grep_core.proofs.file.grep_file_by.Goals.{After-scan_as, in-Ok+in_ok-write_end-in-Ok}
use Rattle.grep_core.proofs.file.grep_file_by.Goals.{in-Err-TooManyErrors+in_ok-write_too_many-in-Err-TooManyErrors}
use Rattle.grep_core.proofs.file.grep_file_by.Goals.{in-Err-SinkFault, in-Err-Memory}
use Rattle.grep_core.proofs.file.grep_file_by.Goals as goal
use Rattle.tool_io.specs.Printed.{printed}

-- what each way after the scan knows of it
scanned : (g : given.Over) (c : After-scan_as g) → Scanned c.args.plan.now (patterns_in c.args.patterns.now)
    c.args.name.now c.args.state.now c.in_ok-treatment.treatment c.mode_of-mode.result c.tells_binary-is_told.result
    (g.S.Source.tells c.args.source.now) (g.S.Source.tells c.scan_as.new.source) c.scan_as.new.scanner.state
    (printed (g.O.Sink.tells c.args.out.now) (g.E.Sink.tells c.args.err.now))
    (printed (g.O.Sink.tells c.scan_as.new.out) (g.E.Sink.tells c.scan_as.new.err)) c.scan_as.result
scanned g c =
    let treats = c.in_ok-treatment.ensures in
    record {
      mode_is = c.mode_of-mode.ensures;
      told_is = c.tells_binary-is_told.ensures;
      shows = c.show_in.result;
      shows_is = c.show_in.ensures;
      state = c.state.inside.scanner.state;
      state_is = c.state.view_is;
      few = c.requires.errors;
      some = c.requires.most;
      scans = c.scan_as.ensures.scans (g.S.Source.tells c.args.source.now)
          (job-is c.mode_of-mode.ensures c.tells_binary-is_told.ensures c.show_in.ensures c.most_selected.ensures
          c.requires.most (treats.kind ∙ c.restart.ensures.kind ∙ c.line_end-kind.ensures)
          (treats.max ∙ c.restart.ensures.max) treats.begun treats.near) treats.stood;
    }

pub returns-in_err-write_end-in-Ok-clause-greps : goal.returns-in_err-write_end-in-Ok-clause-greps
returns-in_err-write_end-in-Ok-clause-greps g c =
    greps-breaks (scanned g (goal.at.returns-in_err-write_end-in-Ok-clause-greps g c).After-scan_as) c.in-Ok.end
    c.in-Ok.is
    c.in_err-write_end-in-Ok.field-0.0 c.from_residual-in_err-write_end-in-Ok.result (search rules)
    c.in_err-write_end-in-Ok.ensures

pub returns-in_err-write_too_many-in-Err-TooManyErrors-clause-greps
    : goal.returns-in_err-write_too_many-in-Err-TooManyErrors-clause-greps
returns-in_err-write_too_many-in-Err-TooManyErrors-clause-greps g c =
    greps-untold (scanned g (goal.at.returns-in_err-write_too_many-in-Err-TooManyErrors-clause-greps g c).After-scan_as)
    (c.in-Err-TooManyErrors.is ∙ ap Err c.in-Err-TooManyErrors.field-0-is)
    c.in_err-write_too_many-in-Err-TooManyErrors.field-0.0
    c.from_residual-in_err-write_too_many-in-Err-TooManyErrors.result (search rules)
    c.in_err-write_too_many-in-Err-TooManyErrors.ensures

pub returns-clause-greps : goal.returns-clause-greps
returns-clause-greps g c =
    let said = scanned g (goal.at.returns-clause-greps g c).After-scan_as in
    elim c.match-scan_as.branch [
      | in-Ok+in_ok-write_end-in-Ok w ↦
          greps-moved _ _ _ _ _ _ (ap (λ o. g.O.Sink.tells o) w.out-is) (ap (λ e. g.E.Sink.tells e) w.err-is)
          w.result-is
          (greps-all said w.in-Ok.end w.in-Ok.is w.in_ok-write_end-in-Ok.ensures)
      | in-Err-TooManyErrors+in_ok-write_too_many-in-Err-TooManyErrors w ↦
          greps-moved _ _ _ _ _ _ (ap (λ o. g.O.Sink.tells o) w.out-is) (ap (λ e. g.E.Sink.tells e) w.err-is)
          w.result-is
          (greps-many said (w.in-Err-TooManyErrors.is ∙ ap Err w.in-Err-TooManyErrors.field-0-is)
          w.in_ok-write_too_many-in-Err-TooManyErrors.field-0
          w.in_ok-write_too_many-in-Err-TooManyErrors.ensures)
      | in-Err-SinkFault w ↦
          greps-moved _ _ _ _ _ _ (ap (λ o. g.O.Sink.tells o) w.out-is) (ap (λ e. g.E.Sink.tells e) w.err-is)
          w.result-is
          (greps-cut said SinkFault (w.in-Err-SinkFault.is ∙ ap Err w.in-Err-SinkFault.field-0-is) fault-other)
      | in-Err-Memory w ↦
          greps-moved _ _ _ _ _ _ (ap (λ o. g.O.Sink.tells o) w.out-is) (ap (λ e. g.E.Sink.tells e) w.err-is)
          w.result-is
          (greps-cut said Memory (w.in-Err-Memory.is ∙ ap Err w.in-Err-Memory.field-0-is) memory-other)
    ]

pub returns-in_err-treatment-clause-greps : goal.returns-in_err-treatment-clause-greps
returns-in_err-treatment-clause-greps g c =
    let stop = c.in_err-treatment.field-0.0 in
    let same : c.from_residual.result ≡ Err stop = search rules in
    greps-lacks (g.O.Sink.tells c.args.out.now) (g.E.Sink.tells c.args.err.now) stop c.from_residual.result
    c.state.view_is same c.in_err-treatment.ensures.0 c.in_err-treatment.ensures.1
