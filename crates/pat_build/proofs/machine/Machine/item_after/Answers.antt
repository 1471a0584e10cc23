use Rattle.std.proofs.Common.{◌∙◌}
use Rattle.pat_build.specs.Machine.{state_of}
use Rattle.pat_build.proofs.Calling.{item_same}
use Rattle.pat_build.proofs.machine.Machine.item_after.Goals as goal

pub returns-clause-value : goal.returns-clause-value
returns-clause-value c =
    let m = c.args.self.now in
    let v = c.cursor-cursor.result in
    let is = c.cursor-cursor.ensures in
    item_same m c.args.at v.text.now v.place v.options v.groups is.text is.place is.options is.groups
    ∙ c.in_ok-item.ensures.value (state_of m)
