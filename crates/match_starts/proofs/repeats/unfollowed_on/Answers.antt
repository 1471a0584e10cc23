use Rattle.std.proofs.Common.{◌≡◌, true, ◌∙◌}
use Rattle.byte_lanes.specs.Sets.{has_byte}
use Rattle.match_starts.proofs.PastSpans.{open_before, put_in}
use Rattle.match_starts.proofs.repeats.unfollowed_on.Goals as goal

pub returns : goal.returns
returns c =
    let tree = c.args.ready.now.tree.now in
    let r = c.requires in
    let next = c.first_closed-next.ensures in
    let ends = c.insert.new.self in
    let member : has_byte ends c.args.behind ≡ true = c.insert.ensures c.args.behind
    ∙ put_in _ c.args.behind in
    open_before tree c.args.ready.now.classes.now c.args.view.now c.args.first.now r.table r.options
    r.first c.args.class r.class c.bytes-set.result.now c.are_bytes.ensures
    (c.bytes-set.ensures tree r.table) c.args.behind r.behind ends member c.args.place
    c.first_closed-next.result next.high r.limit next.open c.last_before.result
    c.last_before.ensures
