use Rattle.match_drive.proofs.Needless.{none_without}
use Rattle.match_drive.proofs.need.lacks_need.Goals as goal

pub returns-then-is_within : goal.returns-then-is_within
returns-then-is_within c none answers =
    let tree = c.args.ready.now.tree.now in
    let ahead = c.in-Some-text_ahead.ahead in
    let told = c.in-Some-text_ahead.ensures tree (rw c.in-Some.is at c.requires.facts.need) in
    none_without tree c.args.view.now ahead.text.now ahead.bound answers told.0 told.1
    c.requires.options c.requires.subject c.requires.start (c.is_off.ensures c.if-not-is_off.false)
    (c.is_within.ensures.steps c.if-is_within.true) (c.is_within.ensures.units c.if-is_within.true)
    c.lacks.ensures.small (c.lacks.ensures.missing none)
