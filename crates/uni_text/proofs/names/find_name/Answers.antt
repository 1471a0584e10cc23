use Rattle.std.proofs.Common.{map, ap, sym, ◌∙◌}
use Rattle.std.proofs.lemmas.List.{drop_all}
use Rattle.uni_text.specs.Properties.{named}
use Rattle.uni_text.specs.Table.{row_of}
use Rattle.uni_text.proofs.names.find_name.Goals as goal

pub returns : goal.returns
returns c =
    sym (c.loop-row.invariant ∙ ap (λ rows. named (map row_of rows) c.args.written.now)
    (drop_all c.loop-row.row-index c.args.rows.now c.loop-row-test.false))
