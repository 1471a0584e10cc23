use Rattle.std.proofs.lemmas.List.Elements.{All-contains_itself}
use Rattle.frame_memo.specs.Slots.{kept}
use Rattle.frame_memo.proofs.slots.make_room.Goals as goal

pub returns-then-taken-len-clause-no_other : goal.returns-then-taken-len-clause-no_other
returns-then-taken-len-clause-no_other c = All-contains_itself (kept c.args.slots.now.items)
