use Rattle.std.proofs.Common.{ap, ◌∙◌, ◌-◌}
use Rattle.frame_parts.proofs.BackTurns.{pop_back}
use Rattle.frame_machine.proofs.back.pop.Goals as goal

pub returns-clause-back : goal.returns-clause-back
returns-clause-back c = c.undo_spans.ensures.undone ∙ pop_back _ _ _ _ _ c.in-Some.ensures
    (ap (λ n. n - 1) c.len-height.ensures)
