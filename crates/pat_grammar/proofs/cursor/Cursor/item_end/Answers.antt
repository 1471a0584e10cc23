use Rattle.std.proofs.Common.{◌∙◌, length, ◌+◌, ap, arith}
use Rattle.pat_grammar.specs.Callouts.{quantified_end, state_after}
use Rattle.pat_grammar.specs.Places.{state_at}
use Rattle.pat_grammar.proofs.cursor.Cursor.item_end.Goals as goal

pub returns-in-Err-Bad-clause-value : goal.returns-in-Err-Bad-clause-value
returns-in-Err-Bad-clause-value c st =
    let text = c.args.self.now.text.now in
    let after = state_at c.args.self.now st c.args.after in
    rw (c.in-ClassStart.is)
    (ap (λ r. quantified_end text (state_after after r))
    (rw (c.in-Err-Bad.field-0-is) at c.in-Err-Bad.ensures.bad st (length text + 2) (omega arith))
    ∙ c.quantified_end-in-Err-Bad.ensures.value st)
