use Rattle.std.proofs.Common.{ap, [], ◌∷◌, ℕ}
use Rattle.pat_grammar.specs.Callouts.{callout_of}
use Rattle.pat_grammar.proofs.cursor.Cursor.written_lead.Goals as goal

pub returns-clause-value : goal.returns-clause-value
returns-clause-value c st =
    let a = c.args.called in
    ap (λ (i : ℕ × ℕ). callout_of a.number a.text_from a.text_to i ∷ []) (c.in_ok-item.ensures.value st)
