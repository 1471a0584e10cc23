use Rattle.std.proofs.Common.{rules}
use Rattle.frame_memo.specs.Slots.{home}
use Rattle.frame_memo.proofs.slots.home.Goals as goal

pub returns-clause-is : goal.returns-clause-is
unfolding home
returns-clause-is c = search rules
