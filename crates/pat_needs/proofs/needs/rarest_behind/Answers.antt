use Rattle.std.proofs.Common.{◌∷◌, Some, false, refl, drop, map}
use Rattle.pat_tree.specs.Nested.{row, tree_at, trees}
use Rattle.pat_needs.specs.NeedTables.{may_of}
use Rattle.pat_needs.specs.Texts.{sets_of}
use Rattle.pat_needs.proofs.NeedLemmas.{at_none}
use Rattle.pat_needs.proofs.needs.rarest_behind.Goals as goal

pub returns : goal.returns
returns c kept =
    let t = c.args.tree.now in
    let may = may_of t in
    let utf = t.options.utf in
    let of = tree_at (trees t.nodes) in
    let xs = c.args.parts.now in
    let far = c.in_ok-far.far in
    let wanted = c.in_ok-text_of.field-0 in
    c.in_ok-far.ensures.1 (sets_of wanted.text)
    (at_none may utf (row (map of (drop far.choice.at xs))) (Some wanted)
    (Some (record { wanted = wanted; distance = 0 })) (c.in_ok-text_of.ensures may utf false of kept) (refl, refl))
