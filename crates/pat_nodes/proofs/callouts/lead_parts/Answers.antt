use Rattle.std.proofs.Common.{sym, append-nil, arith}
use Rattle.pat_tree.specs.Growing.{loose}
use Rattle.pat_tree.proofs.Growing.{stand_none, grows_not}
use Rattle.pat_nodes.proofs.Extending.{adds_none}
use Rattle.pat_nodes.proofs.callouts.lead_parts.Goals as goal

pub returns-in-None : goal.returns-in-None
returns-in-None c =
    let d = c.args.draft.now in record {
      stands = rw (c.in-None.is, c.new.ensures) (stand_none d.nodes);
      loose = rw c.new.ensures (sym (append-nil (loose d.nodes)));
      grows = grows_not d.nodes;
      adds = adds_none d;
      count = omega arith;
    }
