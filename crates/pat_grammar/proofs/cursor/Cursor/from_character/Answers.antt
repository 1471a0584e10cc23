use Rattle.std.proofs.Common.{◌∙◌, sym, arith}
use Rattle.std.proofs.lemmas.Result.{err_from_is_err_and}
use Rattle.pat_grammar.proofs.Ranges.{character_hyphen, character_alone, character_bad}
use Rattle.pat_grammar.specs.Places.{state_at}
use Rattle.pat_grammar.proofs.cursor.Cursor.from_character.Goals as goal

pub returns-in_err-hyphen-clause-bad : goal.returns-in_err-hyphen-clause-bad
returns-in_err-hyphen-clause-bad c =
    let p = err_from_is_err_and c.from_residual.result c.from_residual.ensures.1 in
    rw (p.1, p.2)
    (λ st n rest more. character_bad c.args.self.now.text.now n rest c.args.c
    (state_at c.args.self.now st c.args.here) (state_at c.args.self.now st c.args.after)
    c.in_err-hyphen.field-0.0 (c.in_err-hyphen.ensures.bad st n more))

pub returns-then-is_hyphen-clause-part : goal.returns-then-is_hyphen-clause-part
returns-then-is_hyphen-clause-part c = λ st n rest more.
    let i = c.in_ok-hyphen.hyphen in
    let at = state_at c.args.self.now st in
    character_hyphen c.args.self.now.text.now n rest c.args.c (at c.args.here) (at c.args.after) i.token (at i.here)
    (at i.after) (c.in_ok-hyphen.ensures.found st n more)
    (sym c.is_hyphen.ensures ∙ c.if-is_hyphen.true)
    ∙ c.in_ok-range.ensures.part st n rest (omega (arith, c.in_ok-hyphen.ensures.past, c.in_ok-hyphen.ensures.onward))

pub returns-in_err-range-clause-bad : goal.returns-in_err-range-clause-bad
returns-in_err-range-clause-bad c =
    let p = err_from_is_err_and c.from_residual-in_err-range.result c.from_residual-in_err-range.ensures.1 in
    let i = c.in_ok-hyphen.hyphen in
    rw (p.1, p.2)
    (λ st n rest more.
    let at = state_at c.args.self.now st in
    character_hyphen c.args.self.now.text.now n rest c.args.c (at c.args.here) (at c.args.after) i.token (at i.here)
    (at i.after) (c.in_ok-hyphen.ensures.found st n more)
    (sym c.is_hyphen.ensures ∙ c.if-is_hyphen.true)
    ∙ c.in_err-range.ensures.bad st n rest (omega (arith, c.in_ok-hyphen.ensures.past, c.in_ok-hyphen.ensures.onward)))

pub returns-clause-part : goal.returns-clause-part
returns-clause-part c = λ st n rest more.
    let i = c.in_ok-hyphen.hyphen in
    let at = state_at c.args.self.now st in
    character_alone c.args.self.now.text.now n rest c.args.c (at c.args.here) (at c.args.after) i.token (at i.here)
    (at i.after) (c.in_ok-hyphen.ensures.found st n more)
    (sym c.is_hyphen.ensures ∙ c.if-is_hyphen.false)
