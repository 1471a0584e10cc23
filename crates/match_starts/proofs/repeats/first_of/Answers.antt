use Rattle.match_starts.proofs.PastRepeats.{begins_parts}
use Rattle.match_starts.proofs.repeats.first_of.Goals as goal

pub returns-clause-begins : goal.returns-clause-begins
returns-clause-begins c =
    let r = c.in_ok-repeat.repeat in
    begins_parts c.args.tree.now c.args.parts.now
    (record r { behind = c.behind.result }) c.in-len2-up.len_at_least
    c.in_ok-repeat.ensures.is c.behind.ensures
