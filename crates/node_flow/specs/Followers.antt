-- What runs when a part of a pattern is done, up to the end of the innermost frame around it. A capturing group, a turn
-- of a repeat, an atomic group and a lookaround are frames: at their end nothing follows (pcre2pattern, "Repetition",
-- "Atomic grouping and possessive quantifiers", "Assertions", "Conditional groups").
use Rattle.std.specs.Prelude.{◌≡◌, ◌≤◌, ℕ, ◌+◌, ◌==◌, if◌then◌else◌, List, [], ◌∷◌, ◌++◌, take, length}
use Rattle.std.specs.Prelude.{slice_index_or, Option, Some, None}
use Rattle.pat_tree.specs.declared.nodes.Node.{Node}
use Rattle.pat_tree.specs.declared.nodes.Node.TheVariants as node
use Rattle.pat_tree.specs.declared.nodes.Placed.{Placed}
use Rattle.pat_tree.specs.Rules.{number_in, kids_of}
use Rattle.pat_tree.specs.Refs.{is_in}

-- those that come after k
abbrev pub later_than : ℕ → List ℕ → List ℕ
later_than k [] = []
later_than k (x ∷ xs) = if x == k then xs else later_than k xs

-- What follows the child k of a node, where `after` follows the node: the later children of a sequence, and then what
-- follows the sequence. What follows a plain group follows each of its branches, and what follows a condition its two
-- branches. The end of any other child is the end of a frame: of its node, or for a repeat's body and a condition's
-- lookaround its own.
abbrev pub after_child : Node → List ℕ → ℕ → List ℕ
after_child (node.Seq kids) after k = later_than k kids ++ after
after_child (node.Group None branches) after k = after
after_child (node.Cond test yes' no') after k = if is_in k (yes' ∷ number_in no') then after else []
after_child _ after k = []

-- What follows the part k by its parent among these nodes, which are numbered from n on. Where none of them has it as a
-- child, nothing follows.
unfoldable pub rest_among : ℕ → List Placed → ℕ → List ℕ
rest_among n [] k = []
rest_among n (p ∷ ps) k = if is_in k (kids_of p.node) then after_child p.node (rest_among (n + 1) ps n) k else
    rest_among (n + 1) ps k

-- the parts that still follow a part of the tree of a root, in the order in which they run
unfoldable pub rest : List Placed → ℕ → ℕ → List ℕ
rest nodes root = rest_among 0 (take (root + 1) nodes)

abbrev pub first_of : List ℕ → Option ℕ
first_of [] = None
first_of (q ∷ qs) = Some q

-- the part that follows next
abbrev pub next_of : List Placed → ℕ → ℕ → Option ℕ
next_of nodes root part = first_of (rest nodes root part)

-- a list that has for each part up to the root the one that follows next
pub record IsFlowOf (nodes : List Placed) (root : ℕ) (flow : List (Option ℕ)) : Type 0 where
  pub count : length flow ≡ root + 1
  pub each : (part : ℕ) → part ≤ root → slice_index_or flow part None ≡ next_of nodes root part

-- What stands at k once the children of a node that `after` follows are told their next parts.
abbrev pub next_by : List (Option ℕ) → Node → List ℕ → ℕ → Option ℕ
next_by told n after k = if is_in k (kids_of n) then first_of (after_child n after k) else slice_index_or told k None
