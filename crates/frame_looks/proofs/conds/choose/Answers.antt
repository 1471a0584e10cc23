use Rattle.std.proofs.Common.{sym, subst}
use Rattle.frame_state.specs.Validity.{IsCondition}
use Rattle.frame_looks.proofs.CondTurns.{choice_yes, choice_some, choice_none, stray_condition}
use Rattle.frame_looks.proofs.conds.choose.Goals as goal

pub returns-then-holds : goal.returns-then-holds
returns-then-holds g c =
    rw c.if-holds.true (choice_yes (g.S.Searchable.searched c.args.on.now) (g.met.S.Searchable.sound c.args.on.now)
    c.args.part c.requires.inside _ c.node.ensures _ _ _ c.in-Cond.is)

pub returns-in-Some : goal.returns-in-Some
returns-in-Some g c = rw c.if-holds.false (choice_some (g.S.Searchable.searched c.args.on.now)
    (g.met.S.Searchable.sound c.args.on.now) c.args.part c.requires.inside _ c.node.ensures _ _ _ c.in-Cond.is _
    c.in-Some.is)

pub returns-in-None : goal.returns-in-None
returns-in-None g c = rw (c.if-holds.false, c.go_on.ensures)
    (choice_none (g.S.Searchable.searched c.args.on.now) (g.met.S.Searchable.sound c.args.on.now) c.args.part
    c.requires.inside _ c.node.ensures _ _ _ c.in-Cond.is c.in-None.is)

pub unreachable-requires : goal.unreachable-requires
unreachable-requires g c = stray_condition (g.S.Searchable.searched c.args.on.now) _
    (subst (IsCondition (g.S.Searchable.searched c.args.on.now)) (sym c.node.ensures.is) c.requires.condition)
    c.in_default.not-Cond
