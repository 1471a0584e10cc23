-- A name that differs from each of the later rows' is none of theirs.
use Rattle.std.proofs.Common.{sym, ap}
use Rattle.std.specs.Option.{option_map}
use Rattle.grep_args.specs.Table.{Row, later_rows}
use Rattle.grep_args.proofs.Absent.{name_absent}
use Rattle.grep_args.proofs.table.by_later_name.Goals as goal

pub returns-in_default : goal.returns-in_default
returns-in_default c = sym (ap (option_map (λ (r : Row). r.option)) (name_absent c.args.name.now later_rows assumption))
