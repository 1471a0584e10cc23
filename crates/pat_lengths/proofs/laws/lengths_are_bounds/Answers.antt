use Rattle.pat_lengths.proofs.LengthLaw.{calls_bounds, branch_bounds}
use Rattle.pat_lengths.proofs.LeastLaw.{least_of_all}
use Rattle.pat_lengths.proofs.laws.lengths_are_bounds.Goals as goal

pub returns : goal.returns
returns c = record { by_calls = calls_bounds; of_branches = branch_bounds; least = least_of_all }
