use Rattle.std.proofs.Common.{◌≡◌, ◌++◌, ◌+◌, ◌==◌, ◌∷◌, ℕ, List, [], drop, length, sym, ap, subst, refl, rules, Err, Ok}
use Rattle.grep_output.specs.declared.shows.Show.{Show}
use Rattle.grep_output.specs.declared.shows.Show.TheVariants.{Lines, Parts}
use Rattle.tool_io.specs.Writes.{Writes}
use Rattle.tool_io.proofs.Writing.{left-all, left-more, left-refused, left-last}
use Rattle.grep_blocks.specs.BlockText.{block_out, gap_out, shown_out}
use Rattle.grep_blocks.specs.Steps.{all_rows}
use Rattle.grep_blocks.proofs.Turning.{block-lines-are, parts-written}
use Rattle.grep_blocks.proofs.scan.write_shown.Goals as goal

pub returns-in_err-write_gap-in-Lines : goal.returns-in_err-write_gap-in-Lines
returns-in_err-write_gap-in-Lines g c b gap block rows listed =
    let job = c.args.job.now in
    let plan = job.search.plan.now in
    let course = c.args.course.now in
    let is_first = course.selected == 0 in
    let front = gap_out plan job.name.now job.has_shown is_first gap in
    let back = block_out plan job.name.now b.lines in
    let old = g.O.Sink.tells c.args.out.now in
    let fault = c.in_err-write_gap-in-Lines.field-0.0 in
    let same : c.from_residual.result ≡ Err fault = search rules in
    subst (λ (s : Show). Writes (shown_out plan job.name.now job.search.text.now (all_rows job) job.has_shown s is_first
    gap b) old (g.O.Sink.tells c.write_gap.new.out) c.from_residual.result)
    (sym c.in-Lines.is)
    (subst (λ r. Writes (front ++ back) old (g.O.Sink.tells c.write_gap.new.out) r) (sym same)
    (left-refused front back fault (left-all (front ++ back) old) refl
    (c.in_err-write_gap-in-Lines.ensures gap rows)))

pub returns-in_ok-write_gap-in-Lines : goal.returns-in_ok-write_gap-in-Lines
returns-in_ok-write_gap-in-Lines g c b gap block rows listed =
    let job = c.args.job.now in
    let plan = job.search.plan.now in
    let course = c.args.course.now in
    let is_first = course.selected == 0 in
    let front = gap_out plan job.name.now job.has_shown is_first gap in
    let back = block_out plan job.name.now b.lines in
    let old = g.O.Sink.tells c.args.out.now in
    subst (λ (s : Show). Writes (shown_out plan job.name.now job.search.text.now (all_rows job) job.has_shown s is_first
    gap b) old (g.O.Sink.tells c.write_block.new.out) c.write_block.result)
    (sym c.in-Lines.is)
    (left-last c.write_block.result
    (left-more front back _ (left-all (front ++ back) old) refl (c.in_ok-write_gap-in-Lines.ensures gap rows))
    refl (c.write_block.ensures b.lines block.lines))

pub returns-in-Parts : goal.returns-in-Parts
returns-in-Parts g c b gap block rows listed =
    let job = c.args.job.now in
    let plan = job.search.plan.now in
    let course = c.args.course.now in
    let is_first = course.selected == 0 in
    let ready = c.requires.ready in
    subst (λ (s : Show). Writes (shown_out plan job.name.now job.search.text.now (all_rows job) job.has_shown s is_first
    gap b) (g.O.Sink.tells c.args.out.now) (g.O.Sink.tells c.write_parts.new.out) c.write_parts.result)
    (sym c.in-Parts.is)
    (parts-written job b (length job.search.text.now) c.args.found.now _ _ _ b.matches refl listed
    (λ os lists. c.write_parts.ensures _ _ os
    (block-lines-are job course.from c.args.behind b block ready.next) lists))
