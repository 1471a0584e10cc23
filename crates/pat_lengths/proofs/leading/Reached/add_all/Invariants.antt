use Rattle.std.proofs.Common.{take}
use Rattle.pat_lengths.specs.Leading.{Grows}
use Rattle.pat_lengths.proofs.leading.Reached.add_all.Given as goal

abbrev pub invariant-loop-id : goal.invariant-loop-id
invariant-loop-id l = Grows l.fn.self l.self (take l.id-index l.ids)
