use Rattle.std.proofs.Common.{length, sym, ap, ◌∙◌}
use Rattle.pat_tree.specs.Nested.{nest, tree_at, trees}
use Rattle.match_starts.proofs.PastRepeats.{lead_alone, lead_grouped}
use Rattle.match_starts.proofs.repeats.lead_of.Goals as goal

pub returns-in-len1-clause-is : goal.returns-in-len1-clause-is
returns-in-len1-clause-is c =
    let ts = trees c.args.tree.now.nodes in
    lead_grouped ts c.in-Group.number c.as_slice.result.now (tree_at ts c.args.part)
    c.in-len1.len_at_least c.in-len1.len_below
    (rw c.as_slice.ensures (ap (nest ts) (sym c.in-Group.is) ∙ c.node.ensures.is))
    _ c.node-in-len1.ensures.is c.repeat_of.result (c.repeat_of.ensures.repeat ts)

pub returns-in-len1-clause-class : goal.returns-in-len1-clause-class
returns-in-len1-clause-class c =
    c.repeat_of.ensures.class (length c.args.tree.now.classes)
    c.node-in-len1.ensures.rules.classes

pub returns-in_default : goal.returns-in_default
returns-in_default c =
    let tree = c.args.tree.now in
    let r = c.repeat_of-in_default.ensures in
    record {
      is = lead_alone _ _ c.node.ensures.is c.repeat_of-in_default.result
          (r.repeat (trees tree.nodes));
      class = r.class (length tree.classes) c.node.ensures.rules.classes;
      behind = r.behind;
    }
