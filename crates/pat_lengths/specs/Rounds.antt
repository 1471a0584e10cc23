-- What is asked of each group by rounds, each of which lets calls and references go one group further.
use Rattle.std.specs.Prelude.{◌≡◌, ℕ, zero, suc, ◌<◌, Bool, true, false, List, length, Option, Some, None}
use Rattle.std.specs.List.{list_any}
use Rattle.pat_tree.specs.Nested.{Nested, tree_at}
use Rattle.pat_tree.specs.Groups.{group_of}
use Rattle.pat_lengths.specs.Nodes.{named_in}
use Rattle.pat_lengths.specs.Passing.{flagged, passes}
use Rattle.pat_lengths.specs.declared.rounds.Question.{Question}
use Rattle.pat_lengths.specs.declared.rounds.Question.TheVariants.{Passes, Names}

-- of a tree, by the answers of the groups
abbrev pub answer : Question → (ℕ → Bool) → Nested → Bool
answer (Passes any) can t = passes any can t
answer Names names t = list_any (λ n. true) (named_in t)

abbrev pub group_answer : Question → (ℕ → Bool) → Option Nested → Bool
group_answer q of None = false
group_answer q of (Some t) = answer q of t

-- of group n, where calls and references lead through fewer than d groups
unfoldable pub rounds : Question → Nested → ℕ → ℕ → Bool
rounds q whole zero n = false
rounds q whole (suc d) n = group_answer q (rounds q whole d) (group_of whole n)

-- what is kept of the first nodes is the answer
abbrev pub KeepAnswers : Question → List Bool → List Nested → List Bool → Type 0
KeepAnswers q of trees answers =
    (k : ℕ) → k < length answers → flagged answers k ≡ answer q (flagged of) (tree_at trees k)

-- what is kept of the groups is the answer after so many rounds
abbrev pub AreRounds : Question → Nested → ℕ → List Bool → Type 0
AreRounds q whole d of = (n : ℕ) → flagged of n ≡ rounds q whole d n
