use Rattle.std.proofs.lemmas.Result.{err_from_is_err_and}
use Rattle.pat_grammar.proofs.ClassParts.{class_is, class_refused}
use Rattle.pat_grammar.specs.Places.{state_at}
use Rattle.pat_grammar.proofs.brackets.read_class.Goals as goal

pub returns-clause-class : goal.returns-clause-class
returns-clause-class c = λ st n more.
    let cursor = c.args.cursor.now in
    class_is cursor.text.now n c.args.negated (state_at cursor st cursor.place) c.in_ok-parts.parts
    (state_at cursor st c.in_ok-parts.end) (c.in_ok-parts.ensures.parts st n more)

pub returns-in_err-parts-clause-bad : goal.returns-in_err-parts-clause-bad
returns-in_err-parts-clause-bad c =
    let p = err_from_is_err_and c.from_residual.result c.from_residual.ensures.1 in
    let cursor = c.args.cursor.now in
    rw (p.1, p.2)
    (λ st n more. class_refused cursor.text.now n c.args.negated (state_at cursor st cursor.place)
    c.in_err-parts.field-0.0 (c.in_err-parts.ensures.bad st n more))
