use Rattle.std.proofs.Common.{◌≡◌, map, take}
use Rattle.pat_lengths.specs.Passing.{passes_at}
use Rattle.pat_lengths.proofs.rounds.next_round.Given as goal

abbrev pub invariant-loop-place : goal.invariant-loop-place
invariant-loop-place l = l.next.items ≡ map (passes_at l.answers.items) (take l.place-index l.places)
