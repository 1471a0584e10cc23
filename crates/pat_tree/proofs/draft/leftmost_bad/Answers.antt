use Rattle.std.proofs.Common.{◌∙◌}
use Rattle.pat_tree.specs.Refs.{refs, has_group, marked}
use Rattle.pat_tree.proofs.Named.{bad_ref_same}
use Rattle.pat_tree.proofs.draft.leftmost_bad.Goals as goal

pub returns : goal.returns
returns c = c.leftmost_outside.ensures ∙ bad_ref_same (marked c.args.groups.now) (has_group c.args.nodes.now)
    c.requires (refs c.args.nodes.now)
