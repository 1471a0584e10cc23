use Rattle.std.specs.Option.{option_copied}
use Rattle.match_drive.proofs.BeginText.{begun_told}
use Rattle.match_drive.proofs.need.begin_of.Goals as goal

pub returns : goal.returns
returns c =
    begun_told c.args.ready.now.tree.now c.args.view.now c.in-Some.need (option_copied c.as_ref.result)
    (rw c.in-Some.is at c.requires.facts.need)
    c.as_ref.ensures.value c.requires.options c.requires.subject c.requires.start
    (c.is_off.ensures c.if-not-is_off.false)
    (c.is_within.ensures.steps c.if-not-is_within.false) (c.is_within.ensures.units c.if-not-is_within.false)
    c.are_bytes.ensures
