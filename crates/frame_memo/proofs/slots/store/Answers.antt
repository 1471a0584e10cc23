use Rattle.std.proofs.Common.{◌<◌, length, refl, arith}
use Rattle.frame_memo.proofs.KeptLemmas.{Contains-written, All-stored}
use Rattle.frame_memo.proofs.slots.store.Goals as goal

pub returns-clause-stored : goal.returns-clause-stored
returns-clause-stored c =
    let within : c.way_for-way.result < length c.args.slots.now = omega arith in
    Contains-written c.args.slots.now c.way_for-way.result _ within refl

pub returns-clause-no_other : goal.returns-clause-no_other
returns-clause-no_other c =
    let within : c.way_for-way.result < length c.args.slots.now = omega arith in
    All-stored c.args.slots.now c.way_for-way.result _ within
