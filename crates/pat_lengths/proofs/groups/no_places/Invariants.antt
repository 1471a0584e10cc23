use Rattle.std.proofs.Common.{◌≡◌, ℕ, length, None}
use Rattle.pat_lengths.specs.Passing.{place_of}
use Rattle.pat_lengths.proofs.groups.no_places.Given as goal

abbrev pub invariant-loop : goal.invariant-loop
invariant-loop l = (length l.places.items ≡ l.counter) × ((n : ℕ) → place_of l.places.items n ≡ None)
