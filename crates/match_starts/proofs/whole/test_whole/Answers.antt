use Rattle.std.proofs.Common.{◌≤◌, sym, ◌∙◌, arith}
use Rattle.match_starts.proofs.PastWhole.{whole_tells}
use Rattle.match_starts.proofs.whole.test_whole.Goals as goal

pub returns-then-is_admitted : goal.returns-then-is_admitted
returns-then-is_admitted c given =
    let r = c.requires in
    let only = c.args.only.now in
    let run = c.item_run-run.result in
    let told = c.item_run-run.ensures in
    let few : only.min ≤ run.count = omega (arith, c.from.ensures, c.if-run-from.false) in
    whole_tells c.args.ready.now.tree.now c.args.ready.now.classes.now c.args.view.now given only
    c.args.place c.most_of.result run.to run.count r.table r.options r.only c.most_of.ensures
    told.count told.to few (sym c.is_admitted.ensures ∙ c.if-is_admitted.true)
