use Rattle.std.proofs.Common.{take}
use Rattle.pat_lengths.specs.Leading.{Grows, places_of}
use Rattle.pat_lengths.proofs.leading.Reached.add_groups.Given as goal

abbrev pub invariant-loop-number : goal.invariant-loop-number
invariant-loop-number l = Grows l.fn.self l.self (places_of l.groups.places.items (take l.number-index l.numbers))
