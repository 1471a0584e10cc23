use Rattle.std.proofs.Common.{◌≤◌, length, subst}
use Rattle.frame_parts.proofs.PossessiveTurns.{several}
use Rattle.frame_parts.proofs.possessive.only_repeat.Goals as goal

pub returns-in_default-2 : goal.returns-in_default-2
returns-in_default-2 g c = several (g.S.Searchable.searched c.args.on.now).trees c.args.branches.now
    (subst (λ ks. 2 ≤ length ks) c.as_slice.ensures c.in_default.len_at_least)
