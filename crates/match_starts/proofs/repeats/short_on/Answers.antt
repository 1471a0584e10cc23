use Rattle.match_starts.proofs.PastSpans.{short_before}
use Rattle.match_starts.proofs.repeats.short_on.Goals as goal

pub returns : goal.returns
returns c =
    let tree = c.args.ready.now.tree.now in
    let r = c.requires in
    let next = c.first_long-next.ensures in
    short_before tree c.args.ready.now.classes.now c.args.view.now c.args.first.now r.table
    r.options r.first c.args.class r.class c.bytes-set.result.now c.are_bytes.ensures
    (c.bytes-set.ensures tree r.table) c.args.place c.first_long-next.result next.high next.short
    c.last_before.result c.last_before.ensures
