use Rattle.std.proofs.Common.{◌≡◌, ◌++◌, ◌∙◌, ◌-◌, ◌<◌, ◌≤◌, List, ℕ, min, flat_map, take, drop, length, false, ap, sym, refl}
use Rattle.std.proofs.Common.{subst, rules, Ok, Err, append_assoc, append-nil, codes, arith}
use Rattle.tool_io.specs.Texts.{text_if}
use Rattle.tool_io.specs.Writes.{Writes}
use Rattle.tool_io.proofs.Writing.{left-all, left-more, left-none, left-refused, left-last, writes-same}
use Rattle.grep_core.proofs.Steps.{gap-text}
use Rattle.grep_blocks.specs.BlockText.{after_of, behind_of, context, gap_out, is_parted}
use Rattle.grep_blocks.specs.Steps.{line_by, rows_at}
use Rattle.grep_blocks.proofs.Shown.{back-text, front-text, gap-long, no-back, behind-is, parted-is}
use Rattle.grep_blocks.proofs.lines.write_gap.Goals as goal

pub returns-in_err-write_lines : goal.returns-in_err-write_lines
returns-in_err-write_lines g c rows gap =
    let job = c.args.job.now in
    let plan = job.search.plan.now in
    let front = context plan job.name.now (take (after_of plan c.args.is_first) rows) in
    let all = gap_out plan job.name.now job.has_shown c.args.is_first rows in
    let old = g.O.Sink.tells c.args.out.now in
    let fault = c.in_err-write_lines.field-0.0 in
    let same : c.from_residual.result ≡ Err fault = search rules in
    subst (λ r. Writes all old (g.O.Sink.tells c.write_lines.new.out) r) (sym same)
    (left-refused front _ fault (left-all all old) (append_assoc front _ _)
    (writes-same
    (ap (λ n. flat_map (line_by job false) (take n (rows_at job c.args.gap)))
    (c.min.ensures ∙ ap (λ n. min n (c.args.to.lines - c.args.gap.lines)) c.after_of-after.ensures)
    ∙ front-text job c.args.gap c.args.to rows gap (after_of plan c.args.is_first))
    c.in_err-write_lines.ensures))

pub returns-in_err-write_texts : goal.returns-in_err-write_texts
returns-in_err-write_texts g c rows gap =
    let job = c.args.job.now in
    let plan = job.search.plan.now in
    let front = context plan job.name.now (take (after_of plan c.args.is_first) rows) in
    let parting = text_if (is_parted plan job.has_shown c.args.is_first (length rows)) (codes "--\n") in
    let all = gap_out plan job.name.now job.has_shown c.args.is_first rows in
    let old = g.O.Sink.tells c.args.out.now in
    let fault = c.in_err-write_texts.field-0.0 in
    let same : c.from_residual-in_err-write_texts.result ≡ Err fault = search rules in
    subst (λ r. Writes all old (g.O.Sink.tells c.write_texts.new.out) r) (sym same)
    (left-refused parting _ fault
    (left-more front _ _ (left-all all old) (append_assoc front _ _)
    (writes-same {result = Ok c.in_ok-write_lines.field-0}
    (ap (λ n. flat_map (line_by job false) (take n (rows_at job c.args.gap)))
    (c.min.ensures ∙ ap (λ n. min n (c.args.to.lines - c.args.gap.lines)) c.after_of-after.ensures)
    ∙ front-text job c.args.gap c.args.to rows gap (after_of plan c.args.is_first))
    c.in_ok-write_lines.ensures))
    refl
    (writes-same
    (gap-text c.is_parted-is_parted.result _ c.text_if.result.now c.text_if.ensures
    (c.is_parted-is_parted.ensures
    ∙ parted-is job c.args.gap c.args.to rows gap c.args.is_first c.after_of-after.result c.max-behind.result
    c.saturating_sub.result c.after_of-after.ensures
    (c.saturating_sub.ensures ∙ ap (λ n. c.args.to.lines - c.args.gap.lines - n) c.from.ensures)
    c.max-behind.ensures))
    c.in_err-write_texts.ensures))

pub returns-then-behind-count : goal.returns-then-behind-count
returns-then-behind-count g c rows gap =
    let job = c.args.job.now in
    let plan = job.search.plan.now in
    let front = context plan job.name.now (take (after_of plan c.args.is_first) rows) in
    let parting = text_if (is_parted plan job.has_shown c.args.is_first (length rows)) (codes "--\n") in
    let all = gap_out plan job.name.now job.has_shown c.args.is_first rows in
    let old = g.O.Sink.tells c.args.out.now in
    let left =
    left-more parting _ _
    (left-more front _ _ (left-all all old) (append_assoc front _ _)
    (writes-same {result = Ok c.in_ok-write_lines.field-0}
    (ap (λ n. flat_map (line_by job false) (take n (rows_at job c.args.gap)))
    (c.min.ensures ∙ ap (λ n. min n (c.args.to.lines - c.args.gap.lines)) c.after_of-after.ensures)
    ∙ front-text job c.args.gap c.args.to rows gap (after_of plan c.args.is_first))
    c.in_ok-write_lines.ensures))
    refl
    (writes-same {result = Ok c.in_ok-write_texts.field-0}
    (gap-text c.is_parted-is_parted.result _ c.text_if.result.now c.text_if.ensures
    (c.is_parted-is_parted.ensures
    ∙ parted-is job c.args.gap c.args.to rows gap c.args.is_first c.after_of-after.result c.max-behind.result
    c.saturating_sub.result c.after_of-after.ensures
    (c.saturating_sub.ensures ∙ ap (λ n. c.args.to.lines - c.args.gap.lines - n) c.from.ensures)
    c.max-behind.ensures))
    c.in_ok-write_texts.ensures) in
    let behind : c.max-behind.result ≡ behind_of plan c.args.is_first (length rows) =
    behind-is job c.args.gap c.args.to rows gap c.args.is_first c.after_of-after.result c.max-behind.result
    c.saturating_sub.result c.after_of-after.ensures
    (c.saturating_sub.ensures ∙ ap (λ n. c.args.to.lines - c.args.gap.lines - n) c.from.ensures)
    c.max-behind.ensures in
    left-none _ left
    (ap (λ n. context plan job.name.now (drop n rows)) (sym behind)
    ∙ no-back job c.args.gap c.args.to rows gap c.max-behind.result c.if-behind-count.true)

pub returns : goal.returns
returns g c rows gap =
    let job = c.args.job.now in
    let plan = job.search.plan.now in
    let front = context plan job.name.now (take (after_of plan c.args.is_first) rows) in
    let parting = text_if (is_parted plan job.has_shown c.args.is_first (length rows)) (codes "--\n") in
    let all = gap_out plan job.name.now job.has_shown c.args.is_first rows in
    let old = g.O.Sink.tells c.args.out.now in
    let left =
    left-more parting _ _
    (left-more front _ _ (left-all all old) (append_assoc front _ _)
    (writes-same {result = Ok c.in_ok-write_lines.field-0}
    (ap (λ n. flat_map (line_by job false) (take n (rows_at job c.args.gap)))
    (c.min.ensures ∙ ap (λ n. min n (c.args.to.lines - c.args.gap.lines)) c.after_of-after.ensures)
    ∙ front-text job c.args.gap c.args.to rows gap (after_of plan c.args.is_first))
    c.in_ok-write_lines.ensures))
    refl
    (writes-same {result = Ok c.in_ok-write_texts.field-0}
    (gap-text c.is_parted-is_parted.result _ c.text_if.result.now c.text_if.ensures
    (c.is_parted-is_parted.ensures
    ∙ parted-is job c.args.gap c.args.to rows gap c.args.is_first c.after_of-after.result c.max-behind.result
    c.saturating_sub.result c.after_of-after.ensures
    (c.saturating_sub.ensures ∙ ap (λ n. c.args.to.lines - c.args.gap.lines - n) c.from.ensures)
    c.max-behind.ensures))
    c.in_ok-write_texts.ensures) in
    let behind : c.max-behind.result ≡ behind_of plan c.args.is_first (length rows) =
    behind-is job c.args.gap c.args.to rows gap c.args.is_first c.after_of-after.result c.max-behind.result
    c.saturating_sub.result c.after_of-after.ensures
    (c.saturating_sub.ensures ∙ ap (λ n. c.args.to.lines - c.args.gap.lines - n) c.from.ensures)
    c.max-behind.ensures in
    left-last c.write_lines-2.result left refl
    (writes-same
    (back-text job c.args.gap c.args.to rows gap c.max-behind.result c.skip_lines-from.result c.if-behind-count.false
    c.skip_lines-from.ensures
    ∙ ap (λ n. context plan job.name.now (drop n rows)) behind)
    c.write_lines-2.ensures)
