use Rattle.std.proofs.Common.{length, refl}
use Rattle.line_feed.specs.Lines.{row_of}
use Rattle.grep_core.proofs.Steps.{parts-written}
use Rattle.grep_core.proofs.lines.write_shown.Goals as goal

pub returns-in-Lines : goal.returns-in-Lines
returns-in-Lines g c t e listed = rw c.in-Lines.is (c.write_selected.ensures t e)

pub returns-in-Parts : goal.returns-in-Parts
returns-in-Parts g c t e listed =
    rw c.in-Parts.is
    (parts-written c.args.job.now.plan.now c.args.job.now.name.now t (row_of c.args.line.now)
    (length c.args.line.now.bytes.now) c.args.found.now (g.O.Sink.tells c.args.out.now)
    (g.O.Sink.tells c.write_matches.new.out) c.write_matches.result t.matches refl listed e c.write_matches.ensures)
