use Rattle.std.proofs.Common.{sym, subst}
use Rattle.frame_state.specs.Validity.{SpanStands}
use Rattle.frame_state.proofs.Turns.{stands_set}
use Rattle.frame_machine.proofs.enter.enter_ref.Goals as goal

pub refer_reaches-reached-requires-clause-span : goal.refer_reaches-reached-requires-clause-span
refer_reaches-reached-requires-clause-span g c =
    subst (SpanStands (g.S.Searchable.searched c.args.on.now)) (sym c.first_set-captured.ensures)
    (stands_set (g.S.Searchable.searched c.args.on.now) (g.met.S.Searchable.sound c.args.on.now)
    c.args.registers.now c.args.groups.now c.requires.spans)

pub refer-to-requires-clause-span : goal.refer-to-requires-clause-span
refer-to-requires-clause-span g c =
    subst (SpanStands (g.S.Searchable.searched c.args.on.now)) (sym c.first_set-captured.ensures)
    (stands_set (g.S.Searchable.searched c.args.on.now) (g.met.S.Searchable.sound c.args.on.now)
    c.args.registers.now c.args.groups.now c.requires.spans)
