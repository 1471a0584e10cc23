use Rattle.std.proofs.Common.{arith}
use Rattle.frame_board.proofs.SameNames.{name_read, name_missed}
use Rattle.frame_board.proofs.board.name_of.Goals as goal

pub returns-then-number-verb_names : goal.returns-then-number-verb_names
returns-then-number-verb_names c = name_read c.args.tree.now.verb_names c.args.number _ c.verb_name.ensures

pub returns-else-number-verb_names : goal.returns-else-number-verb_names
returns-else-number-verb_names c = name_missed c.args.tree.now.verb_names c.args.number
    (omega (arith, c.if-number-verb_names.false, c.verb_names.ensures))
