use Rattle.std.proofs.Common.{sym, ◌∙◌}
use Rattle.pat_tree.proofs.draft.Draft.finish.Goals as goal

pub of-requires : goal.of-requires
of-requires c =
    let given = rw (← c.self.view_is) at c.requires in record {
      nodes = c.self.invariant.0.nodes;
      root = given.root;
      refs = rw c.deref.ensures.value at (sym c.leftmost_bad.ensures ∙ c.in-None.is);
      names = given.names;
      ordered = c.self.invariant.0.ordered;
      node_count = c.self.invariant.0.node_count;
      class_count = c.self.invariant.0.class_count;
      verb_name_count = c.self.invariant.0.verb_name_count;
    }
