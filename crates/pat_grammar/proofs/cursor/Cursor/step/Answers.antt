use Rattle.std.proofs.Common.{false, ◌∙◌, sym, arith}
use Rattle.std.proofs.lemmas.Result.{err_from_is_err_and}
use Rattle.pat_grammar.specs.Classes.{class_parts}
use Rattle.pat_grammar.proofs.ClassParts.{parts_from, parts_closed, parts_bad}
use Rattle.pat_grammar.specs.Places.{state_at}
use Rattle.pat_grammar.proofs.cursor.Cursor.step.Goals as goal

pub returns-in_err-item-clause-bad : goal.returns-in_err-item-clause-bad
returns-in_err-item-clause-bad c =
    let p = err_from_is_err_and c.from_residual.result c.from_residual.ensures.1 in
    rw (p.1, p.2)
    (λ st n more. parts_bad c.args.self.now.text.now n c.args.first (state_at c.args.self.now st c.args.place)
    c.in_err-item.field-0.0 (c.in_err-item.ensures.bad st n more))

pub returns-then-closes-clause-step : goal.returns-then-closes-clause-step
returns-then-closes-clause-step c = λ st n more.
    let i = c.in_ok-item.item in
    let at = state_at c.args.self.now st in
    parts_closed c.args.self.now.text.now n c.args.first (at c.args.place) i.token (at i.here) (at i.after)
    (c.in_ok-item.ensures.found st n more)
    (sym c.closes.ensures ∙ c.if-closes.true)

pub returns-in_err-part-clause-bad : goal.returns-in_err-part-clause-bad
returns-in_err-part-clause-bad c =
    let p = err_from_is_err_and c.from_residual-in_err-part.result c.from_residual-in_err-part.ensures.1 in
    let i = c.in_ok-item.item in
    rw (p.1, p.2)
    (λ st n more.
    let at = state_at c.args.self.now st in
    parts_from c.args.self.now.text.now n c.args.first (at c.args.place) i.token (at i.here) (at i.after)
    (c.in_ok-item.ensures.found st n more)
    ∙ c.in_err-part.ensures.bad c.args.first (sym c.closes.ensures ∙ c.if-closes.false) st n
    (class_parts c.args.self.now.text.now n false)
    (omega (arith, c.in_ok-item.ensures.past, c.in_ok-item.ensures.onward)))

pub returns-clause-step : goal.returns-clause-step
returns-clause-step c = λ st n more.
    let i = c.in_ok-item.item in
    let at = state_at c.args.self.now st in
    parts_from c.args.self.now.text.now n c.args.first (at c.args.place) i.token (at i.here) (at i.after)
    (c.in_ok-item.ensures.found st n more)
    ∙ c.in_ok-part.ensures.part c.args.first (sym c.closes.ensures ∙ c.if-closes.false) st n
    (class_parts c.args.self.now.text.now n false)
    (omega (arith, c.in_ok-item.ensures.past, c.in_ok-item.ensures.onward))
