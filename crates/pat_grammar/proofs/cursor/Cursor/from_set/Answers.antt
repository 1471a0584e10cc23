use Rattle.std.proofs.Common.{◌∙◌, sym, arith}
use Rattle.std.proofs.lemmas.Result.{err_from_is_err_and}
use Rattle.pat_grammar.proofs.Ranges.{set_alone, set_ends, set_refused, set_bad}
use Rattle.pat_grammar.specs.Places.{state_at}
use Rattle.pat_grammar.proofs.cursor.Cursor.from_set.Goals.{else-is_hyphen-via-then-is_hyphen+else-not-is_last_at}
use Rattle.pat_grammar.proofs.cursor.Cursor.from_set.Goals.{else-is_hyphen-via-else-is_hyphen}
use Rattle.pat_grammar.proofs.cursor.Cursor.from_set.Goals as goal

pub returns-in_err-hyphen-clause-bad : goal.returns-in_err-hyphen-clause-bad
returns-in_err-hyphen-clause-bad c =
    let p = err_from_is_err_and c.from_residual.result c.from_residual.ensures.1 in
    rw (p.1, p.2)
    (λ st n rest more. set_bad c.args.self.now.text.now n rest c.args.set (state_at c.args.self.now st c.args.after)
    c.in_err-hyphen.field-0.0 (c.in_err-hyphen.ensures.bad st n more))

pub returns-then-not-is_last_at-clause-bad : goal.returns-then-not-is_last_at-clause-bad
returns-then-not-is_last_at-clause-bad c = λ st n rest more.
    let i = c.in_ok-hyphen.hyphen in
    let at = state_at c.args.self.now st in
    set_refused c.args.self.now.text.now n rest c.args.set (at c.args.after) i.token (at i.here) (at i.after)
    (c.in_ok-hyphen.ensures.found st n more)
    (sym c.is_hyphen.ensures ∙ c.if-is_hyphen.true)
    (c.is_last_at.ensures st n (omega (arith, c.in_ok-hyphen.ensures.past, c.in_ok-hyphen.ensures.onward))
    ∙ c.if-not-is_last_at.true)

pub returns-clause-part : goal.returns-clause-part
returns-clause-part c = λ st n rest more.
    let i = c.in_ok-hyphen.hyphen in
    let at = state_at c.args.self.now st in
    let found = c.in_ok-hyphen.ensures.found st n more in
    elim c.else-is_hyphen.branch [
      | else-is_hyphen-via-then-is_hyphen+else-not-is_last_at w ↦
          set_ends c.args.self.now.text.now n rest c.args.set (at c.args.after) i.token (at i.here) (at i.after) found
          (w.is_last_at.ensures st n (omega (arith, c.in_ok-hyphen.ensures.past, c.in_ok-hyphen.ensures.onward))
          ∙ w.if-not-is_last_at.false)
      | else-is_hyphen-via-else-is_hyphen w ↦
          set_alone c.args.self.now.text.now n rest c.args.set (at c.args.after) i.token (at i.here) (at i.after) found
          (sym c.is_hyphen.ensures ∙ w.if-is_hyphen.false)
    ]
