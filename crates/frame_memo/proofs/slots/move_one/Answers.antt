use Rattle.std.proofs.Common.{refl, arith}
use Rattle.std.proofs.lemmas.List.Elements.{All-contains_itself}
use Rattle.frame_memo.specs.Slots.{kept}
use Rattle.frame_memo.proofs.KeptLemmas.{All-moved}
use Rattle.frame_memo.proofs.slots.move_one.Goals as goal

pub returns-then-set-i-clause-no_other : goal.returns-then-set-i-clause-no_other
returns-then-set-i-clause-no_other c =
    All-moved c.args.slots.now c.args.i _ _ c.requires.within (omega (arith, c.home-set.ensures.within)) refl

pub returns-else-slot-clause-no_other : goal.returns-else-slot-clause-no_other
returns-else-slot-clause-no_other c = All-contains_itself (kept c.args.slots.now)
