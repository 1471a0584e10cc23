use Rattle.std.proofs.Common.{◌≡◌, length}
use Rattle.pat_tree.specs.Nested.{trees}
use Rattle.pat_lengths.specs.Rounds.{KeepAnswers}
use Rattle.pat_lengths.proofs.rounds.node_answers.Given as goal

abbrev pub invariant-loop-id : goal.invariant-loop-id
invariant-loop-id l = (length l.answers.items ≡ l.id) × KeepAnswers l.question l.of (trees l.tree.nodes) l.answers.items
