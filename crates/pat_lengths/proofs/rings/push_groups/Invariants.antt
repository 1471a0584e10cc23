use Rattle.std.proofs.Common.{◌≡◌, ◌++◌, take}
use Rattle.pat_lengths.specs.Leading.{places_of}
use Rattle.pat_lengths.proofs.rings.push_groups.Given as goal

abbrev pub invariant-loop-number : goal.invariant-loop-number
invariant-loop-number l =
    l.next.items ≡ l.fn.next.items ++ places_of l.groups.places.items (take l.number-index l.named)
