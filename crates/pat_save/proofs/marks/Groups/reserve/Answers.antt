use Rattle.std.proofs.Common.{◌∙◌}
use Rattle.pat_tree.proofs.Marks.{marked_push}
use Rattle.pat_save.proofs.marks.Groups.reserve.Goals as goal

pub loop-self-preserved : goal.loop-self-preserved
loop-self-preserved c = λ n. rw c.in_ok-push.ensures.items (marked_push c.loop-self.self-inside.marks.items n
    ∙ c.loop-self.invariant n)
