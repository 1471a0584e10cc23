use Rattle.std.proofs.Common.{false, refl, sym, subst}
use Rattle.line_feed.specs.Lines.{row_of}
use Rattle.tool_io.specs.Writes.{Writes}
use Rattle.grep_blocks.specs.Steps.{line_by}
use Rattle.grep_blocks.proofs.lines.write_one.Goals as goal

pub returns : goal.returns
returns g c =
    let row = row_of c.args.line.now in
    subst (λ b. Writes (line_by c.args.job.now b row) (g.O.Sink.tells c.args.out.now)
    (g.O.Sink.tells c.write_line.new.out) c.write_line.result) (sym c.if-is_bare.false)
    (c.write_line.ensures (record { row = row; is_selected = false; begins_group = false }) refl refl)
