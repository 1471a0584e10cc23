use Rattle.std.proofs.Common.{◌≡◌, ℕ, ◌<◌, length}
use Rattle.pat_tree.specs.Parts.{tree_of}
use Rattle.pat_lengths.specs.Lengths as lengths
use Rattle.pat_lengths.specs.Passing.{flagged}
use Rattle.pat_lengths.proofs.behind.each_searched.Given as goal

abbrev pub invariant-loop-target : goal.invariant-loop-target
invariant-loop-target l = (length l.back.items ≡ l.target)
    × ((n : ℕ) → n < l.target → flagged l.back.items n ≡ lengths.leads_back (tree_of l.tree) n)
