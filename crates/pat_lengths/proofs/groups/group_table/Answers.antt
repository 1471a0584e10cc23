use Rattle.std.proofs.Common.{◌≡◌, ◌∙◌, ◌<◌, Some, refl, ap, sym, subst, length, set, arith}
use Rattle.pat_tree.specs.Groups.{group_of}
use Rattle.pat_tree.specs.Nested.{trees}
use Rattle.pat_tree.specs.Parts.{tree_of}
use Rattle.pat_lengths.specs.Nodes.{all_nodes}
use Rattle.pat_lengths.specs.Passing.{AreGroups, IsAt, place_of}
use Rattle.pat_lengths.proofs.PlacedLemmas.{placed_whole}
use Rattle.pat_lengths.proofs.GroupLemmas.{with_whole_is}
use Rattle.pat_lengths.proofs.groups.group_table.Goals as goal

pub returns-clause-table : goal.returns-clause-table
returns-clause-table c =
    let t = c.args.tree.now in
    let ts = trees t.nodes in
    let g = c.in_ok-groups.groups in
    let are : AreGroups ts t.root g (all_nodes (tree_of t)) =
    subst (AreGroups ts t.root g) c.requires.nodes c.in_ok-groups.ensures.are in
    let room : 0 < length g.places.items = omega (arith, c.in_ok-groups.ensures.room) in
    let placed : c.put_whole.new.self.places.items ≡ set g.places.items 0 (Some t.root) = c.put_whole.ensures.places
    ∙ ap (λ k. set g.places.items 0 (Some k)) c.root.ensures in
    record {
      places = λ n. subst (λ xs. IsAt ts t.root (place_of xs n) (group_of (tree_of t) n)) (sym placed)
          (with_whole_is ts t.root (tree_of t) g.places.items room refl are.places n);
      count = c.put_whole.ensures.count ∙ are.count;
      shared = c.put_whole.ensures.shared ∙ are.shared;
    }

pub returns-clause-places : goal.returns-clause-places
returns-clause-places c n =
    let t = c.args.tree.now in
    let ts = trees t.nodes in
    let g = c.in_ok-groups.groups in
    let room : 0 < length g.places.items = omega (arith, c.in_ok-groups.ensures.room) in
    let placed : c.put_whole.new.self.places.items ≡ set g.places.items 0 (Some t.root) = c.put_whole.ensures.places
    ∙ ap (λ k. set g.places.items 0 (Some k)) c.root.ensures in
    ap (λ xs. place_of xs n) placed ∙ placed_whole ts t.root c.args.order.now g.places.items room
    c.in_ok-groups.ensures.placed n
