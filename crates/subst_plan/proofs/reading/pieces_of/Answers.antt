use Rattle.std.proofs.Common.{◌≡◌, ◌<◌, length, sym, arith, vec_len, true-eqb, false-eqb}
use Rattle.std.proofs.lemmas.Result.{err_from_is_err_and}
use Rattle.subst_plan.specs.Plans.{nest_after, pieces_of}
use Rattle.subst_plan.proofs.Turns.{refuses, refuses_on, nothing_open, start, bad_piece, bad_nest, goes_on, all_read}
use Rattle.subst_plan.proofs.Turns.{not_closed}
use Rattle.subst_plan.proofs.reading.pieces_of.Goals as goal

pub loop-at-init : goal.loop-at-init
loop-at-init c = rw (c.new-pieces.ensures.items, c.new-nest.ensures.items)
    (start c.args.extended c.args.utf c.args.text.now)

pub returns-in_err-piece-clause-refused : goal.returns-in_err-piece-clause-refused
returns-in_err-piece-clause-refused c =
    let p = err_from_is_err_and c.from_residual.result c.from_residual.ensures.1 in
    let e = c.in_err-piece.field-0.0 in
    let text = c.args.text.now in
    let is = rw (c.innermost-inner.ensures, c.as_slice.ensures.value) at c.in_err-piece.ensures.value in
    rw (p.1, p.2)
    (refuses (pieces_of c.args.extended c.args.utf text) e
    (bad_piece c.args.extended c.args.utf text c.loop-at.pieces.items c.loop-at.nest.items c.loop-at.at
    c.loop-at.invariant e c.loop-at-test.true (sym is)))

pub returns-in_err-nest_piece-clause-refused : goal.returns-in_err-nest_piece-clause-refused
returns-in_err-nest_piece-clause-refused c =
    let p = err_from_is_err_and c.from_residual-in_err-nest_piece.result c.from_residual-in_err-nest_piece.ensures.1 in
    let e = c.in_err-nest_piece.field-0.0 in
    let text = c.args.text.now in
    let piece = c.in_ok-piece.piece in
    let nest = c.loop-at.nest.items in
    let is = rw (c.innermost-inner.ensures, c.as_slice.ensures.value) at c.in_ok-piece.ensures.value in
    rw (p.1, p.2)
    (refuses_on (nest_after piece nest) (pieces_of c.args.extended c.args.utf text) e
    (bad_nest c.args.extended c.args.utf text c.loop-at.pieces.items nest c.loop-at.at c.loop-at.invariant piece
    c.in_ok-piece.to e c.loop-at-test.true (sym is))
    c.in_err-nest_piece.ensures.refused)

pub loop-at-preserved : goal.loop-at-preserved
loop-at-preserved c =
    let text = c.args.text.now in
    let is = rw (c.innermost-inner.ensures, c.as_slice.ensures.value) at c.in_ok-piece.ensures.value in
    rw c.in_ok-push.ensures.items
    (goes_on c.args.extended c.args.utf text c.loop-at.pieces.items c.loop-at.nest.items c.loop-at.at
    c.loop-at.invariant c.in_ok-piece.piece c.in_ok-piece.to c.nest_piece.new.nest.items c.loop-at-test.true
    (sym is) c.in_ok-piece.ensures.place c.in_ok-nest_piece.ensures.nested)

pub returns-then-is_empty-clause-pieces : goal.returns-then-is_empty-clause-pieces
returns-then-is_empty-clause-pieces c =
    let nest = c.loop-at.nest in
    let none : length nest.items ≡ 0 = omega (arith, nest.ok.0, true-eqb (vec_len nest) 0 c.if-is_empty.ensures) in
    all_read c.args.extended c.args.utf c.args.text.now c.loop-at.pieces.items nest.items c.loop-at.at
    c.loop-at.invariant c.loop-at-test.false (nothing_open nest.items none)

pub returns-else-is_empty-clause-refused : goal.returns-else-is_empty-clause-refused
returns-else-is_empty-clause-refused c =
    let nest = c.loop-at.nest in
    let some : 0 < length nest.items = omega (arith, nest.ok.0, false-eqb (vec_len nest) 0 c.if-is_empty.ensures) in
    not_closed c.args.extended c.args.utf c.args.text.now c.loop-at.pieces.items nest.items c.loop-at.at
    c.loop-at.invariant c.loop-at-test.false some
