use Rattle.std.proofs.Common.{◌<◌, List, ℕ, length, ap, ◌∙◌, arith}
use Rattle.match_items.specs.Items.{longest_run}
use Rattle.match_items.specs.Views.{text_scene, maximum, end_of}
use Rattle.match_starts.proofs.PastRepeats.{whole_short, up_to_end, short_run}
use Rattle.match_starts.proofs.repeats.short_to.Goals as goal

pub returns : goal.returns
returns c =
    let tree = c.args.ready.now.tree.now in
    let table = c.args.ready.now.classes.now in
    let view = c.args.view.now in
    let first = c.args.first.now in
    let r = c.requires in
    let p = c.args.place in
    let run = c.item_run-run.result in
    let told = c.item_run-run.ensures in
    let least = c.from-least.ensures in
    let less = c.if-run-least.false in
    let count = told.count in
    let scene = text_scene view table in
    let few : run.count < first.min = omega (arith, least, less) in
    let short : length (longest_run scene first.item
    (maximum c.from-least.result) p) < c.from-least.result =
    omega (arith, less, count) in
    let same = whole_short scene first.item c.from-least.result p short in
    up_to_end tree table view first r.table r.options r.first p r.place.within run.to (told.to
    ∙ ap (end_of p) same)
    (short_run tree table view first r.table r.options r.first p r.place.within run.count
    (told.count ∙ ap (λ (ps : List ℕ). length ps) same) few)
