use Rattle.std.proofs.Common.{◌≡◌, Bool, map, sym, subst}
use Rattle.std.specs.Prelude.{IfSome}
use Rattle.pat_tree.specs.declared.nodes.Node.{Node}
use Rattle.pat_tree.specs.Parts.{TreeParts}
use Rattle.pat_tree.specs.Nested.{nest, tree_at, trees}
use Rattle.regex_hir.specs.Re.{Re}
use Rattle.regex_hir.specs.Meaning.{meaning}
use Rattle.regex_hir.specs.declared.hir.Hir.TheVariants.{Empty}
use Rattle.pat_shape.specs.IsShape.{IsShape}
use Rattle.pat_shape.proofs.Kept.{empty_is, keep_is, look_is, callout_is, anchor_is, one_is, many_is, break_is}
use Rattle.pat_shape.proofs.Kept.{ref_is, call_is}
use Rattle.pat_shape.proofs.shape.leaf_shape.Goals as goal

through : (parts : TreeParts) (lined : Bool) (node node' : Node) (re : Re) → node ≡ node'
    → IsShape parts lined (nest (trees parts.nodes) node') re → IsShape parts lined (nest (trees parts.nodes) node) re
through parts lined node node' re e h = subst (λ n. IsShape parts lined (nest (trees parts.nodes) n) re) (sym e) h

pub returns-in-Empty : goal.returns-in-Empty
returns-in-Empty c = through c.args.tree.now c.args.lined c.args.node.now _ (meaning Empty) c.in-Empty.is
    (empty_is c.args.tree.now c.args.lined)

pub returns-in-KeepOut : goal.returns-in-KeepOut
returns-in-KeepOut c = through c.args.tree.now c.args.lined c.args.node.now _ (meaning Empty) c.in-KeepOut.is
    (keep_is c.args.tree.now c.args.lined)

pub returns-in-Look : goal.returns-in-Look
returns-in-Look c =
    through c.args.tree.now c.args.lined c.args.node.now _ (meaning Empty) c.in-Look.is
    (look_is c.args.tree.now c.args.lined c.in-Look.ahead c.in-Look.positive c.in-Look.atomic
    (map (tree_at (trees c.args.tree.now.nodes)) c.in-Look.branches))

pub returns-in-Callout : goal.returns-in-Callout
returns-in-Callout c = through c.args.tree.now c.args.lined c.args.node.now _ (meaning Empty) c.in-Callout.is
    (callout_is c.args.tree.now c.args.lined _)

pub returns-in-Anchor : goal.returns-in-Anchor
returns-in-Anchor c =
    through c.args.tree.now c.args.lined c.args.node.now _ (meaning c.anchor_shape.result) c.in-Anchor.is
    (anchor_is c.args.tree.now c.args.lined c.in-Anchor.kind (meaning c.anchor_shape.result)
    (c.anchor_shape.ensures c.args.lined))

pub returns-in_ok-item_shape-in-One : goal.returns-in_ok-item_shape-in-One
returns-in_ok-item_shape-in-One c =
    through c.args.tree.now c.args.lined c.args.node.now _ (meaning c.in_ok-item_shape-in-One.field-0) c.in-One.is
    (one_is c.args.tree.now c.args.lined c.in-One.item (meaning c.in_ok-item_shape-in-One.field-0)
    c.in_ok-item_shape-in-One.ensures)

pub returns-in_ok-rounds-in-OneRepeat : goal.returns-in_ok-rounds-in-OneRepeat
returns-in_ok-rounds-in-OneRepeat c =
    through c.args.tree.now c.args.lined c.args.node.now _ (meaning c.in_ok-rounds-in-OneRepeat.field-0)
    c.in-OneRepeat.is
    (many_is c.args.tree.now c.args.lined c.in-OneRepeat.item (meaning c.in_ok-one-in-OneRepeat.one)
    (meaning c.in_ok-rounds-in-OneRepeat.field-0) c.in-OneRepeat.min c.in-OneRepeat.max c.in-OneRepeat.lazy
    c.in_ok-one-in-OneRepeat.ensures c.in_ok-rounds-in-OneRepeat.ensures)

pub returns-in_ok-any_text-in-Break : goal.returns-in_ok-any_text-in-Break
returns-in_ok-any_text-in-Break c =
    through c.args.tree.now c.args.lined c.args.node.now _ (meaning c.in_ok-any_text-in-Break.field-0) c.in-Break.is
    (break_is c.args.tree.now c.args.lined (meaning c.in_ok-any_text-in-Break.field-0)
    c.in_ok-any_text-in-Break.ensures)

pub returns-in_ok-any_text-in-Ref : goal.returns-in_ok-any_text-in-Ref
returns-in_ok-any_text-in-Ref c =
    through c.args.tree.now c.args.lined c.args.node.now _ (meaning c.in_ok-any_text-in-Ref.field-0) c.in-Ref.is
    (ref_is c.args.tree.now c.args.lined c.in-Ref.groups c.in-Ref.caseless
    (meaning c.in_ok-any_text-in-Ref.field-0) c.in_ok-any_text-in-Ref.ensures)

pub returns-in_ok-any_text-in-Call : goal.returns-in_ok-any_text-in-Call
returns-in_ok-any_text-in-Call c =
    through c.args.tree.now c.args.lined c.args.node.now _ (meaning c.in_ok-any_text-in-Call.field-0) c.in-Call.is
    (call_is c.args.tree.now c.args.lined c.in-Call.group (meaning c.in_ok-any_text-in-Call.field-0)
    c.in_ok-any_text-in-Call.ensures)

pub returns-in-VerbNode : goal.returns-in-VerbNode
returns-in-VerbNode c =
    subst (λ n. IfSome c.verb_shape.result (λ hir. IsShape c.args.tree.now c.args.lined
    (nest (trees c.args.tree.now.nodes) n) (meaning hir))) (sym c.in-VerbNode.is) c.verb_shape.ensures
