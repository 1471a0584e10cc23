use Rattle.std.proofs.Common.{append-nil, sym, []}
use Rattle.pat_save.proofs.taken_nodes.take_asserted.Goals as goal

pub returns-in-Some-clause-taken : goal.returns-in-Some-clause-taken
returns-in-Some-clause-taken c = record {
  kids = [];
  is = sym (append-nil c.args.pile.now.items);
  ids_are = sym (rw c.in-Some.is at c.requires);
}
