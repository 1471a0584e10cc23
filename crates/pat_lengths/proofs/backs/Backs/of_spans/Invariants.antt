use Rattle.std.proofs.Common.{◌≡◌, map, take}
use Rattle.pat_lengths.specs.Backs.{back_of}
use Rattle.pat_lengths.proofs.backs.Backs.of_spans.Given as goal

abbrev pub invariant-loop-span : goal.invariant-loop-span
invariant-loop-span l = l.lengths.items ≡ map back_of (take l.span-index l.spans)
