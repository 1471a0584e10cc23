use Rattle.std.proofs.Common.{◌≡◌, ◌∙◌, true, ◌+◌, ◌≤◌, length, sym, subst, arith, rules}
use Rattle.line_feed.specs.Rows.{Fault, has_no_row}
use Rattle.grep_multi.proofs.Holding.{passed-none, passed-next, passed-shorter, passed-stops, passed-within, room}
use Rattle.grep_multi.proofs.held.whole_len.Goals as goal

pub line-init : goal.line-init
line-init c = passed-none c.args.kind c.args.bytes.now

pub returns-then-has_no_row : goal.returns-then-has_no_row
returns-then-has_no_row c =
    passed-stops c.args.kind c.args.bytes.now c.line.rest.now c.line.invariant
    (subst (λ k. has_no_row c.args.kind c.line.rest.now Fault k ≡ true) c.find_line_end-end.ensures.value
    (sym c.has_no_row.ensures ∙ c.if-has_no_row.true))

pub overflow_add-rest : goal.overflow_add-rest
overflow_add-rest c =
    let fits = passed-within c.args.kind c.args.bytes.now c.line.rest.now c.line.invariant _ _
    c.find_line_end-end.ensures.value c.find_line_end-end.ensures.len in
    let less = room c.args.kind c.args.bytes.now c.line.rest.now c.line.invariant in omega (arith, fits, less)

pub slice_bounds-rest-count : goal.slice_bounds-rest-count
slice_bounds-rest-count c =
    passed-within c.args.kind c.args.bytes.now c.line.rest.now c.line.invariant _ _
    c.find_line_end-end.ensures.value c.find_line_end-end.ensures.len

pub slice_bounds-rest-start : goal.slice_bounds-rest-start
slice_bounds-rest-start c =
    let fits : c.find_line_end-end.result.at + c.find_line_end-end.result.len ≤ length c.line.rest.now =
    passed-within c.args.kind c.args.bytes.now c.line.rest.now c.line.invariant _ _
    c.find_line_end-end.ensures.value c.find_line_end-end.ensures.len in
    search rules

pub line-preserved : goal.line-preserved
line-preserved c =
    passed-next c.args.kind c.args.bytes.now c.line.rest.now c.line.invariant _ _ c.find_line_end-end.ensures.value
    c.find_line_end-end.ensures.len (sym c.has_no_row.ensures ∙ c.if-has_no_row.false)

pub line-smaller : goal.line-smaller
line-smaller c =
    passed-shorter c.args.kind c.args.bytes.now c.line.rest.now c.line.invariant _ _ c.find_line_end-end.ensures.value
    c.find_line_end-end.ensures.len (sym c.has_no_row.ensures ∙ c.if-has_no_row.false)
