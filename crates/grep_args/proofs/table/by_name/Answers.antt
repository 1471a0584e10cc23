-- A name that differs from each of the early rows' is looked for in the later ones.
use Rattle.std.proofs.Common.{sym, ap, ◌∙◌}
use Rattle.std.specs.Option.{option_map}
use Rattle.grep_args.specs.Table.{Row, early_rows, later_rows}
use Rattle.grep_args.proofs.Absent.{name_past}
use Rattle.grep_args.proofs.table.by_name.Goals as goal

pub returns-in_default : goal.returns-in_default
returns-in_default c = c.by_later_name.ensures
    ∙ sym (ap (option_map (λ (r : Row). r.option)) (name_past c.args.name.now early_rows later_rows assumption))
