use Rattle.std.proofs.Common.{◌∙◌, sym}
use Rattle.std.proofs.lemmas.Result.{err_from_is_err_and}
use Rattle.pat_grammar.proofs.Ranges.{range_made, range_backward, hyphen_last, hyphen_between, range_bad}
use Rattle.pat_grammar.specs.Places.{state_at}
use Rattle.pat_grammar.proofs.cursor.Cursor.range_or_hyphen.Goals as goal

pub returns-in_err-item-clause-bad : goal.returns-in_err-item-clause-bad
returns-in_err-item-clause-bad c =
    let p = err_from_is_err_and c.from_residual.result c.from_residual.ensures.1 in
    rw (p.1, p.2)
    (λ st n rest more. range_bad c.args.self.now.text.now n rest c.args.c (state_at c.args.self.now st c.args.here)
    (state_at c.args.self.now st c.args.before) (state_at c.args.self.now st c.args.after)
    c.in_err-item.field-0.0 (c.in_err-item.ensures.bad st n more))

pub returns-else-d-c-clause-part : goal.returns-else-d-c-clause-part
returns-else-d-c-clause-part c = λ st n rest more.
    let i = c.in_ok-item.item in
    let at = state_at c.args.self.now st in
    range_made c.args.self.now.text.now n rest c.args.c (at c.args.here) (at c.args.before) (at c.args.after) i.token
    (at i.here) (at i.after) (c.in_ok-item.ensures.found st n more)
    c.in-Some.d c.in-Some.ensures c.if-d-c.false

pub returns-then-d-c-clause-bad : goal.returns-then-d-c-clause-bad
returns-then-d-c-clause-bad c = λ st n rest more.
    let i = c.in_ok-item.item in
    let at = state_at c.args.self.now st in
    range_backward c.args.self.now.text.now n rest c.args.c (at c.args.here) (at c.args.before) (at c.args.after)
    i.token (at i.here) (at i.after) (c.in_ok-item.ensures.found st n more)
    c.in-Some.d c.in-Some.ensures c.if-d-c.true

pub returns-then-is_last-clause-part : goal.returns-then-is_last-clause-part
returns-then-is_last-clause-part c = λ st n rest more.
    let i = c.in_ok-item.item in
    let at = state_at c.args.self.now st in
    hyphen_last c.args.self.now.text.now n rest c.args.c (at c.args.here) (at c.args.before) (at c.args.after) i.token
    (at i.here) (at i.after) (c.in_ok-item.ensures.found st n more)
    c.in-None.ensures (sym c.is_last.ensures ∙ c.if-is_last.true)

pub returns-else-is_last-clause-bad : goal.returns-else-is_last-clause-bad
returns-else-is_last-clause-bad c = λ st n rest more.
    let i = c.in_ok-item.item in
    let at = state_at c.args.self.now st in
    hyphen_between c.args.self.now.text.now n rest c.args.c (at c.args.here) (at c.args.before) (at c.args.after)
    i.token (at i.here) (at i.after) (c.in_ok-item.ensures.found st n more)
    c.in-None.ensures (sym c.is_last.ensures ∙ c.if-is_last.false)
