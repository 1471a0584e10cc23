use Rattle.std.proofs.Common.{sym, ◌∙◌}
use Rattle.frame_looks.proofs.CondTurns.{set_some, set_none}
use Rattle.frame_looks.proofs.conds.is_set.Goals as goal

pub returns-in-Some : goal.returns-in-Some
returns-in-Some c = sym (set_some c.args.registers.now c.args.groups.now _
    (sym c.first_set-first.ensures ∙ c.in-Some.is))

pub returns-in-None : goal.returns-in-None
returns-in-None c = sym (set_none c.args.registers.now c.args.groups.now (sym c.first_set-first.ensures ∙ c.in-None.is))
