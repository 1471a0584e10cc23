use Rattle.std.proofs.Common.{suc}
use Rattle.pat_tree.specs.Parts.{tree_of}
use Rattle.pat_lengths.specs.Rounds.{AreRounds}
use Rattle.pat_lengths.proofs.rounds.answers_of.Given as goal

abbrev pub invariant-loop : goal.invariant-loop
invariant-loop l = AreRounds l.question (tree_of l.tree) (suc l.counter) l.of.items
