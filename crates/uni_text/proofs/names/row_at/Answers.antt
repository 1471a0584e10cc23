use Rattle.std.proofs.Common.{◌∙◌}
use Rattle.uni_text.proofs.NameLemmas.{numbered-past, numbered-within}
use Rattle.uni_text.proofs.names.row_at.Goals as goal

pub returns-in_err-row : goal.returns-in_err-row
returns-in_err-row c = c.from_residual.ensures ∙ numbered-past c.args.rows.now c.args.n c.in_err-row.ensures.lookup.3

pub returns : goal.returns
returns c = numbered-within c.args.rows.now c.args.n c.in_ok-row.row.now c.in_ok-row.ensures.lookup.3.0
    c.in_ok-row.ensures.lookup.1
