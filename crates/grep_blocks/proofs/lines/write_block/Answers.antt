use Rattle.std.proofs.Common.{◌≡◌, ◌++◌, ◌-◌, List, ℕ, flat_map, take, true, false, sym, refl, subst, rules, Err}
use Rattle.line_feed.specs.Lines.{row_of}
use Rattle.grep_output.specs.Course.{line_as}
use Rattle.tool_io.specs.Writes.{Writes}
use Rattle.tool_io.proofs.Writing.{left-all, left-more, left-refused, left-last, writes-same}
use Rattle.grep_blocks.specs.BlockText.{block_out}
use Rattle.grep_blocks.specs.Steps.{line_by, rows_at}
use Rattle.grep_blocks.proofs.Shown.{block-text}
use Rattle.grep_blocks.proofs.lines.write_block.Goals as goal

pub returns-in_err-write_line : goal.returns-in_err-write_line
returns-in_err-write_line g c rows gap =
    let job = c.args.job.now in
    let row = row_of c.line_at-line.result in
    let first = line_as job.search.plan.now job.name.now true row in
    let all = block_out job.search.plan.now job.name.now rows in
    let old = g.O.Sink.tells c.args.out.now in
    let fault = c.in_err-write_line.field-0.0 in
    let same : c.from_residual.result ≡ Err fault = search rules in
    subst (λ r. Writes all old (g.O.Sink.tells c.write_line.new.out) r) (sym same)
    (left-refused first _ fault (left-all all old)
    (block-text job c.args.from c.args.behind c.line_at-line.result rows gap c.line_at-line.ensures
    c.requires.ordered)
    (c.in_err-write_line.ensures (record { row = row; is_selected = true; begins_group = false }) refl refl))

pub returns : goal.returns
returns g c rows gap =
    let job = c.args.job.now in
    let row = row_of c.line_at-line.result in
    let first = line_as job.search.plan.now job.name.now true row in
    let all = block_out job.search.plan.now job.name.now rows in
    let old = g.O.Sink.tells c.args.out.now in
    left-last c.write_lines.result
    (left-more first _ _ (left-all all old)
    (block-text job c.args.from c.args.behind c.line_at-line.result rows gap c.line_at-line.ensures
    c.requires.ordered)
    (c.in_ok-write_line.ensures (record { row = row; is_selected = true; begins_group = false }) refl refl))
    refl
    (subst (λ at. Writes (flat_map (line_by job true) (take (c.args.behind.lines - c.args.from.lines - 1)
    (rows_at job at))) (g.O.Sink.tells c.write_line.new.out) (g.O.Sink.tells c.write_lines.new.out)
    c.write_lines.result) c.past.ensures c.write_lines.ensures)
