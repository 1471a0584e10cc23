use Rattle.std.proofs.Common.{◌≡◌, ◌<◌, Bool, length, map, sym, subst}
use Rattle.std.specs.Prelude.{All}
use Rattle.pat_tree.specs.declared.nodes.Node.{Node}
use Rattle.pat_tree.specs.Parts.{TreeParts}
use Rattle.pat_tree.specs.Nested.{nest, repeat, tree_at, trees}
use Rattle.pat_tree.specs.Rules.{kids_of, number_in, tests_of}
use Rattle.regex_hir.specs.Re.{Re}
use Rattle.regex_hir.specs.Meaning.{meaning}
use Rattle.regex_hir.specs.declared.hir.Hir.TheVariants.{Concat, Alternation}
use Rattle.pat_shape.specs.IsShape.{IsShape}
use Rattle.pat_shape.proofs.Kept.{seq_is, group_is, atomic_is, told_are, told_some, yes_below}
use Rattle.pat_shape.proofs.shape.node_shape.Goals as goal

through : (parts : TreeParts) (lined : Bool) (node node' : Node) (re : Re) → node ≡ node'
    → IsShape parts lined (nest (trees parts.nodes) node') re → IsShape parts lined (nest (trees parts.nodes) node) re
through parts lined node node' re e h = subst (λ n. IsShape parts lined (nest (trees parts.nodes) n) re) (sym e) h

pub returns-in-Some-clause-is : goal.returns-in-Some-clause-is
returns-in-Some-clause-is c =
    through c.args.tree.now c.args.lined c.args.node.now _ (meaning (Concat c.in-Some.subs)) c.in-Seq.is
    (seq_is c.args.tree.now c.args.lined (map (tree_at (trees c.args.tree.now.nodes)) c.in-Seq.kids)
    c.in-Some.subs (told_are c.args.tree.now c.args.lined c.as_slice.result.now c.in-Seq.kids
    c.in_ok-subs-in-Seq.field-0 c.in-Some.subs c.as_slice.ensures c.in-Some.is
    c.in_ok-subs-in-Seq.ensures.are))

pub returns-in-Some-2-clause-is : goal.returns-in-Some-2-clause-is
returns-in-Some-2-clause-is c =
    through c.args.tree.now c.args.lined c.args.node.now _ (meaning (Alternation c.in-Some-2.subs)) c.in-Group.is
    (group_is c.args.tree.now c.args.lined c.in-Group.number
    (map (tree_at (trees c.args.tree.now.nodes)) c.in-Group.branches) c.in-Some-2.subs
    (told_are c.args.tree.now c.args.lined c.as_slice-in-Group.result.now c.in-Group.branches
    c.in_ok-subs-in-Group.field-0 c.in-Some-2.subs c.as_slice-in-Group.ensures c.in-Some-2.is
    c.in_ok-subs-in-Group.ensures.are))

pub returns-in-Some-3-clause-is : goal.returns-in-Some-3-clause-is
returns-in-Some-3-clause-is c =
    through c.args.tree.now c.args.lined c.args.node.now _ (meaning (Alternation c.in-Some-3.subs)) c.in-Atomic.is
    (atomic_is c.args.tree.now c.args.lined (map (tree_at (trees c.args.tree.now.nodes)) c.in-Atomic.branches)
    c.in-Some-3.subs (told_are c.args.tree.now c.args.lined c.as_slice-in-Atomic.result.now c.in-Atomic.branches
    c.in_ok-subs-in-Atomic.field-0 c.in-Some-3.subs c.as_slice-in-Atomic.ensures c.in-Some-3.is
    c.in_ok-subs-in-Atomic.ensures.are))

pub condition_shape-requires-clause-first : goal.condition_shape-requires-clause-first
condition_shape-requires-clause-first c =
    let below = subst (λ n. All (λ k. k < length c.args.shapes.now) (kids_of n)) c.in-Cond.is c.requires.below in
    yes_below (λ k. k < length c.args.shapes.now) (tests_of c.in-Cond.test) c.in-Cond.yes (number_in c.in-Cond.no) below

pub returns-in-Repeat-clause-is : goal.returns-in-Repeat-clause-is
returns-in-Repeat-clause-is c =
    let tree = c.args.tree.now in
    let ts = trees tree.nodes in
    told_some (λ hir. (lazily : Bool) → IsShape tree c.args.lined
    (repeat (tree_at ts c.in-Repeat.body) c.in-Repeat.min c.in-Repeat.max lazily) (meaning hir))
    (λ hir. IsShape tree c.args.lined (nest ts c.args.node.now) (meaning hir)) c.repeat_shape.result
    (λ hir h. through tree c.args.lined c.args.node.now _ (meaning hir) c.in-Repeat.is (h c.in-Repeat.lazy))
    c.repeat_shape.ensures
