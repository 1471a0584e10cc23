-- Facts that a board keeps have one proof at most.
use Rattle.std.proofs.Common.{ℕ, false, List, [], ◌∷◌, Option, Some, None}
use Rattle.std.specs.Coded.{×_prop}
use Rattle.std.proofs.Props.{props}
use Rattle.pat_tree.specs.declared.nodes.Node.{Node}
use Rattle.pat_tree.specs.declared.nodes.Node.TheVariants as node
use Rattle.pat_tree.specs.declared.nodes.Placed.{Placed}
use Rattle.pat_tree.specs.declared.options.MatchOptions.{MatchOptions}
use Rattle.pat_tree.specs.Nested as tree
use Rattle.pat_tree.specs.Nested.{Nested, Row}
use Rattle.pat_tree.specs.Parts.{TreeParts}
use Rattle.pat_check.specs.declared.facts.Facts.{Facts}
use Rattle.char_sets.specs.Table.{CharSet}
use Rattle.node_flow.specs.Branches.{AreBranchesOf}
use Rattle.node_flow.specs.Followers.{IsFlowOf}
use Rattle.node_flow.specs.LookBranches.{AreLookBranchesOf}
use Rattle.node_flow.specs.Order.{AreRanks, StandInTurn}
use Rattle.node_flow.specs.Linked.{AreChained, IsLinked}
use Rattle.frame_state.specs.Behind.{AreFixed, HasFixed}
use Rattle.frame_board.specs.Ready.{IsBoardSearch, IsKnown}
use Rattle.pat_lengths.specs.Lengths.{SomeLengths}
use Rattle.pat_lengths.specs.Backs.{AreBacks}
use Rattle.pat_lengths.specs.declared.backs.Back.{Back}
use Rattle.pat_lengths.specs.Places.{ArePlaces}
use Rattle.pat_lengths.specs.declared.groups.Groups.{Groups}

module _ (lengths : Nested → SomeLengths) where
  AreFixed-prop : (ts : Row) → IsProp (AreFixed lengths ts)
  AreFixed-prop tree.none = hlevel props
  AreFixed-prop (tree.more t ts) = ×_prop (hlevel props) (AreFixed-prop ts)

  HasFixed-prop : (t : Nested) → IsProp (HasFixed lengths t)
  HasFixed-prop (tree.look false positive once ts) = AreFixed-prop ts
  HasFixed-prop _ = hlevel props

module _ (rank past : ℕ → ℕ) where
  StandInTurn-prop : (from : ℕ) (ks : List ℕ) (to : ℕ) → IsProp (StandInTurn rank past from ks to)
  StandInTurn-prop from [] to = hlevel props
  StandInTurn-prop from (k ∷ ks) to = ×_prop (hlevel props) (StandInTurn-prop (past k) ks to)

module _ (rest : ℕ → List ℕ) where
  AreChained-prop : (ks after : List ℕ) → IsProp (AreChained rest ks after)
  AreChained-prop [] after = hlevel props
  AreChained-prop (k ∷ ks) after = ×_prop (hlevel props) (AreChained-prop ks after)

  IsLinked-prop : (after : List ℕ) (n : Node) → IsProp (IsLinked rest after n)
  IsLinked-prop after node.Empty = hlevel props
  IsLinked-prop after (node.One item) = hlevel props
  IsLinked-prop after node.Break = hlevel props
  IsLinked-prop after (node.Seq ks) = AreChained-prop ks after
  IsLinked-prop after (node.Group None ks) = hlevel props
  IsLinked-prop after (node.Group (Some m) ks) = hlevel props
  IsLinked-prop after (node.Repeat body low high lazily) = hlevel props
  IsLinked-prop after (node.OneRepeat item low high lazily) = hlevel props
  IsLinked-prop after (node.Atomic ks) = hlevel props
  IsLinked-prop after (node.Look ahead positive once ks) = hlevel props
  IsLinked-prop after (node.Cond test first second) = hlevel props
  IsLinked-prop after (node.Call m) = hlevel props
  IsLinked-prop after (node.Ref ns caseless) = hlevel props
  IsLinked-prop after (node.Anchor kind) = hlevel props
  IsLinked-prop after node.KeepOut = hlevel props
  IsLinked-prop after (node.VerbNode v) = hlevel props
  IsLinked-prop after (node.Callout number from to at len) = hlevel props

pub IsBoardSearch-prop : (t : TreeParts) (table : List CharSet) (matching : MatchOptions) (subject : List ℕ)
    → IsProp (IsBoardSearch t table matching subject)
IsBoardSearch-prop t table matching subject = hlevel (props, HasFixed-prop, IsLinked-prop, StandInTurn-prop)

pub IsFlowOf-prop : (nodes : List Placed) (root : ℕ) (flow : List (Option ℕ)) → IsProp (IsFlowOf nodes root flow)
IsFlowOf-prop nodes root flow = hlevel props

pub AreBranchesOf-prop : (nodes : List Placed) (root : ℕ) (branches : List (Option ℕ))
    → IsProp (AreBranchesOf nodes root branches)
AreBranchesOf-prop nodes root branches = hlevel props

pub AreLookBranchesOf-prop : (nodes : List Placed) (root : ℕ) (branches : List (Option ℕ))
    → IsProp (AreLookBranchesOf nodes root branches)
AreLookBranchesOf-prop nodes root branches = hlevel props

pub AreRanks-prop : (nodes : List Placed) (root : ℕ) (ranks : List ℕ) → IsProp (AreRanks nodes root ranks)
AreRanks-prop nodes root ranks = hlevel props

pub AreBacks-prop : (t : TreeParts) (backs : List Back) → IsProp (AreBacks t backs)
AreBacks-prop t backs = hlevel props

pub ArePlaces-prop : (t : TreeParts) (groups : Groups) → IsProp (ArePlaces t groups)
ArePlaces-prop t groups = hlevel props

pub IsKnown-prop : (t : TreeParts) (facts : Facts) → IsProp (IsKnown t facts)
IsKnown-prop t facts = hlevel props
