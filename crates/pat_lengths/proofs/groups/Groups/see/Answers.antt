use Rattle.std.proofs.Common.{◌≡◌, ◌∙◌, ◌<◌, ◌≤◌, ◌∷◌, [], All, Some, length, sym, ap, subst, arith}
use Rattle.pat_tree.specs.Nested.{trees, tree_at}
use Rattle.pat_tree.specs.Sound.{greatest, group_numbers}
use Rattle.pat_lengths.specs.Passing.{capture_number}
use Rattle.pat_lengths.proofs.GroupLemmas.{put_group}
use Rattle.pat_lengths.proofs.PlacedLemmas.{placed_put}
use Rattle.pat_lengths.specs.Passing.{ArePlaced}
use Rattle.pat_lengths.proofs.groups.Groups.see.Goals as goal

pub returns-in-Some-clause-are : goal.returns-in-Some-clause-are
returns-in-Some-clause-are c nodes are =
    let t = c.args.tree.now in
    let old = c.args.self.now in
    let number = c.in-Some.number in
    let told : Some number ≡ capture_number (tree_at (trees t.nodes) c.args.id) =
    c.in-Some.ensures.told (trees t.nodes) ∙ ap capture_number c.node.ensures.is in
    let own : All (λ n. n ≤ greatest (group_numbers t.nodes)) (number ∷ []) =
    subst (All (λ n. n ≤ greatest (group_numbers t.nodes))) (sym c.in-Some.ensures.own) c.node.ensures.grouped in
    let first : number ≤ greatest (group_numbers t.nodes) = own 0 0 (omega arith) in
    let room : number < length old.places.items = omega (arith, first, c.requires.room) in
    put_group (trees t.nodes) t.root old c.put.new.self nodes number c.args.id told c.requires.below room
    c.put.ensures.places c.put.ensures.count c.put.ensures.shared are

pub returns-in-Some-clause-placed : goal.returns-in-Some-clause-placed
returns-in-Some-clause-placed c ids placed =
    let t = c.args.tree.now in
    let old = c.args.self.now in
    let number = c.in-Some.number in
    let told : Some number ≡ capture_number (tree_at (trees t.nodes) c.args.id) =
    c.in-Some.ensures.told (trees t.nodes) ∙ ap capture_number c.node.ensures.is in
    let own : All (λ n. n ≤ greatest (group_numbers t.nodes)) (number ∷ []) =
    subst (All (λ n. n ≤ greatest (group_numbers t.nodes))) (sym c.in-Some.ensures.own) c.node.ensures.grouped in
    let first : number ≤ greatest (group_numbers t.nodes) = own 0 0 (omega arith) in
    let room : number < length old.places.items = omega (arith, first, c.requires.room) in
    subst (ArePlaced (trees t.nodes) (c.args.id ∷ ids)) (sym c.put.ensures.places)
    (placed_put (trees t.nodes) c.args.id ids old.places.items number room told placed)
