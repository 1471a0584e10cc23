use Rattle.std.proofs.Common.{refl}
use Rattle.pat_needs.specs.Needs.{may_take}
use Rattle.pat_needs.proofs.NeedLemmas.{repeat_long}
use Rattle.pat_needs.proofs.needs.length_of.Goals as goal

pub returns-in-One : goal.returns-in-One
returns-in-One c classes trees = rw c.in-One.is (refl, c.is_short.ensures classes c.if-is_short.true)

pub returns-in-OneRepeat : goal.returns-in-OneRepeat
returns-in-OneRepeat c classes trees =
    let here = c.in-OneRepeat in
    rw here.is (repeat_long (may_take c.args.utf classes) c.args.utf here.item here.min here.max here.lazy
    c.repeat_length.result (c.repeat_length.ensures classes))
