use Rattle.std.proofs.Common.{◌∙◌, sym, subst}
use Rattle.grep_core.proofs.FileTexts.{skipped-is, skipped-not}
use Rattle.tool_io.specs.Printed.{printed}
use Rattle.grep_blocks.specs.Scanned.{CountsTo}
use Rattle.grep_blocks.proofs.Counting.{counts-skipped, scan-by}
use Rattle.grep_blocks.proofs.text.scan_as.Goals as goal

pub returns-then-is_skipped : goal.returns-then-is_skipped
returns-then-is_skipped g c finish is =
    counts-skipped c.args.job.now finish c.args.state.now
    (printed (g.O.Sink.tells c.args.out.now) (g.E.Sink.tells c.args.err.now)) c.args.treatment
    (skipped-is c.args.treatment (sym c.is_skipped.ensures ∙ c.if-is_skipped.true))

pub returns : goal.returns
returns g c finish is =
    subst (λ s. CountsTo c.args.job.now s c.args.state.now c.scan_counted.new.state
    (printed (g.O.Sink.tells c.args.out.now) (g.E.Sink.tells c.args.err.now))
    (printed (g.O.Sink.tells c.scan_counted.new.out) (g.E.Sink.tells c.scan_counted.new.err)) c.scan_counted.result)
    (scan-by c.args.job.now finish c.args.state.now c.args.treatment
    (skipped-not c.args.treatment (sym c.is_skipped.ensures ∙ c.if-is_skipped.false)))
    (c.scan_counted.ensures finish is)
