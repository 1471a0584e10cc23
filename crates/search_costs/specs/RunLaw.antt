-- Failures of a greedy repeat of one item without a maximum, which hands on falling places.
use Rattle.std.specs.Prelude.{◌≡◌, ◌<◌, ◌≤◌, ℕ, false, List, ◌∷◌, ◌++◌, All, drop, reverse, None}
use Rattle.pat_tree.specs.declared.nodes.Item.{Item}
use Rattle.pat_tree.specs.Nested as tree
use Rattle.pat_tree.specs.Nested.{Nested}
use Rattle.match_items.specs.Items.{longest_run}
use Rattle.ordered_search.specs.Stream.{State, exhausted, and_then, ◌or_else◌}
use Rattle.ordered_search.specs.Setting.{Setting}
use Rattle.ordered_search.specs.Tests.{move_to, offers}
use Rattle.search_costs.specs.Tasks.{Task, part, onward, Key, IsDeeper}
use Rattle.search_costs.specs.Costs.{steps, Cost, IsWhole, IsAt, IsKnown}

abbrev pub greedy_run : Item → ℕ → Nested
greedy_run item low = tree.one_repeat item low None false

-- the places that the repeat hands on from p, the furthest first
abbrev pub handed_on : Setting → Item → ℕ → ℕ → List ℕ
handed_on g item low p = reverse (drop low (p ∷ longest_run g.scene item None p))

-- The repeat from s hands on all places that it hands on from q, and further ones behind them. From q it is known to
-- fail, with one unit more: each place before the last one that a repeat hands on holds a unit.
pub record IsLonger (g : Setting) (item : Item) (low q : ℕ) (ks : List Key) (c : Cost) (d : ℕ) (left : List Task)
    (s : State) (r : ℕ) (rest : List ℕ) : Type 0 where
  pub places : handed_on g item low s.place ≡ handed_on g item low q ++ r ∷ rest
  pub known : IsKnown g q ks c
  pub at : IsAt g q ks (part d (greedy_run item low) ∷ left) (move_to q s)
  pub room : s.units < c.most
  pub fits : c.most ≤ g.matching.frame_limit

-- Then those places fail at its cost, and the further ones are left.
abbrev pub RunLaw : Type 0
RunLaw =
    (g : Setting) (item : Item) (low q : ℕ) (ks : List Key) (c : Cost) (d : ℕ) (left : List Task) (s : State) (r : ℕ)
    (rest : List ℕ) → IsWhole g → IsLonger g item low q ks c d left s r rest
    → All (IsDeeper c.steps) (part d (greedy_run item low) ∷ left)
    → onward g (part d (greedy_run item low) ∷ left) s
    ≡ (steps c.steps exhausted or_else and_then (offers g (r ∷ rest) s) (onward g left))
