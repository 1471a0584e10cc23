use Rattle.std.proofs.Common.{◌≤◌, ◌<◌, ◌+◌, sym, ◌∙◌, arith}
use Rattle.ordered_search.specs.Setting.{lower_of}
use Rattle.match_starts.proofs.PastRepeats.{up_to_end, end_stands, short_run, lacking_run}
use Rattle.match_starts.proofs.repeats.unfollowed_to.Goals as goal

pub returns-then-run-least : goal.returns-then-run-least
returns-then-run-least c =
    let tree = c.args.ready.now.tree.now in
    let table = c.args.ready.now.classes.now in
    let view = c.args.view.now in
    let first = c.args.first.now in
    let r = c.requires in
    let run = c.item_run-run.result in
    let told = c.item_run-run.ensures in
    let least = c.from-least.ensures in
    let less = c.if-run-least.true in
    let few : run.count < first.min = omega (arith, least, less) in
    up_to_end tree table view first r.table r.options r.first c.args.place r.place.within run.to
    told.to
    (short_run tree table view first r.table r.options r.first c.args.place r.place.within
    run.count told.count few)

pub taken-requires-clause-place : goal.taken-requires-clause-place
taken-requires-clause-place c =
    let r = c.requires in
    end_stands c.args.ready.now.tree.now c.args.ready.now.classes.now c.args.view.now
    c.args.first.now r.table r.options r.first c.args.place
    r.place.within c.item_run-run.result.to c.item_run-run.ensures.to

pub returns-in-None : goal.returns-in-None
returns-in-None c =
    let tree = c.args.ready.now.tree.now in
    let table = c.args.ready.now.classes.now in
    let view = c.args.view.now in
    let first = c.args.first.now in
    let r = c.requires in
    let run = c.item_run-run.result in
    let told = c.item_run-run.ensures in
    let least = c.from-least.ensures in
    let limit = c.match_limit.ensures in
    let long = c.if-run-least.false in
    let less = c.if-run-least-2.false in
    let few : run.count + 1 ≤ first.min + lower_of view.options.now.match_limit
    view.matching.now.match_limit = omega (arith, least, limit, long, less) in
    up_to_end tree table view first r.table r.options r.first c.args.place r.place.within run.to
    told.to
    (lacking_run tree table view first r.table r.options r.first c.args.place r.place.within
    c.args.c c.requires.behind c.requires.lacks run.count run.to told.count
    told.to (sym c.taken.ensures.value ∙ c.in-None.is) few)
