use Rattle.std.proofs.Common.{◌≡◌, ◌<◌, length, arith, ap}
use Rattle.pat_tree.proofs.Reached.{reached_node}
use Rattle.pat_tree.proofs.Keeping.{refs_stand, le_greatest}
use Rattle.pat_tree.specs.Refs.{has_group}
use Rattle.pat_tree.proofs.tree.Tree.node.Goals as goal

pub returns-clause-is : goal.returns-clause-is
returns-clause-is c =
    let ps = c.self.inside.nodes.items in
    let root : c.self.inside.root ≡ c.args.self.now.root = ap (λ t. t.root) c.self.view_is in
    let within : c.args.id < length ps = omega (arith, root, c.requires, c.self.invariant.0.root) in
    rw (← c.self.view_is) (reached_node ps c.args.id c.index-placed.result.now c.self.invariant.0.nodes.below within
    c.index-placed.ensures).0

pub returns-clause-below : goal.returns-clause-below
returns-clause-below c =
    let ps = c.self.inside.nodes.items in
    let root : c.self.inside.root ≡ c.args.self.now.root = ap (λ t. t.root) c.self.view_is in
    let within : c.args.id < length ps = omega (arith, root, c.requires, c.self.invariant.0.root) in
    (reached_node ps c.args.id c.index-placed.result.now c.self.invariant.0.nodes.below within c.index-placed.ensures).1

pub returns-clause-stand : goal.returns-clause-stand
returns-clause-stand c =
    let ps = c.self.inside.nodes.items in
    let root : c.self.inside.root ≡ c.args.self.now.root = ap (λ t. t.root) c.self.view_is in
    let within : c.args.id < length ps = omega (arith, root, c.requires, c.self.invariant.0.root) in
    rw (← c.self.view_is) (refs_stand (has_group ps) ps c.args.id c.index-placed.result.now within
    c.index-placed.ensures c.self.invariant.0.refs)

pub returns-clause-grouped : goal.returns-clause-grouped
returns-clause-grouped c =
    let ps = c.self.inside.nodes.items in
    let root : c.self.inside.root ≡ c.args.self.now.root = ap (λ t. t.root) c.self.view_is in
    let within : c.args.id < length ps = omega (arith, root, c.requires, c.self.invariant.0.root) in
    rw (← c.self.view_is) (le_greatest ps c.args.id c.index-placed.result.now within c.index-placed.ensures)
