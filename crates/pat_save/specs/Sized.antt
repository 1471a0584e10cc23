-- Numbers within the types that hold them, and trees without the places that are not saved.
use Rattle.std.specs.Prelude.{◌≡◌, ℕ, ◌^◌, ◌<◌, List, [], ◌∷◌, All, IfSome, Result, MatchResult, ◌≢◌, map}
use Rattle.pat_tree.specs.declared.nodes.Cond.{Cond}
use Rattle.pat_tree.specs.declared.nodes.Cond.TheVariants as test
use Rattle.pat_tree.specs.declared.nodes.Node.{Node}
use Rattle.pat_tree.specs.declared.nodes.Node.TheVariants as node
use Rattle.pat_tree.specs.declared.nodes.Placed.{Placed}
use Rattle.pat_tree.specs.declared.nodes.SetName.{SetName}
use Rattle.pat_tree.specs.declared.nodes.SetName.TheVariants as set
use Rattle.pat_tree.specs.declared.nodes.Part.{Part}
use Rattle.pat_tree.specs.declared.nodes.Part.TheVariants as part
use Rattle.pat_tree.specs.Rules.{number_in}
use Rattle.pat_tree.specs.Parts.{TreeParts}
use Rattle.pat_save.specs.declared.errors.LoadError.{LoadError}
use Rattle.pat_save.specs.declared.errors.LoadError.TheVariants as load
use Rattle.pat_save.specs.declared.saved.Saved.{Saved}

-- numbers of two bytes
abbrev pub AreShort : List ℕ → Type 0
AreShort = All (λ n. n < 2 ^ 16)

abbrev pub groups_in : Cond → List ℕ
groups_in (test.AnySet groups) = groups
groups_in (test.InCallOf groups) = groups
groups_in _ = []

-- the numbers of a node that have two bytes
abbrev pub shorts_of : Node → List ℕ
shorts_of (node.Group number branches) = number_in number
shorts_of (node.Repeat body min max lazy) = min ∷ number_in max
shorts_of (node.OneRepeat item min max lazy) = min ∷ number_in max
shorts_of (node.Cond t yes' no') = groups_in t
shorts_of (node.Call group) = group ∷ []
shorts_of (node.Ref groups caseless) = groups
shorts_of _ = []

abbrev pub IsSizedNode : Node → Type 0
IsSizedNode x = AreShort (shorts_of x)

-- a property's number has two bytes
abbrev pub IsSizedSet : SetName → Type 0
IsSizedSet (set.Property n) = n < 2 ^ 16
IsSizedSet _ = Unit {0}

abbrev pub IsSizedPart : Part → Type 0
IsSizedPart (part.Range low high) = Unit {0}
IsSizedPart (part.Set name not' ucp) = IsSizedSet name

pub record IsSized (t : TreeParts) : Type 0 where
  pub match_limit : IfSome t.options.match_limit (λ n. n < 2 ^ 32)
  pub names : All (λ entry. entry.group < 2 ^ 16) t.names
  pub classes : All (λ spec. All IsSizedPart spec.parts) t.classes
  pub nodes : All (λ p. IsSizedNode p.node) t.nodes

-- each number is one that its type holds
abbrev pub AreSized : List Saved → Type 0
AreSized = All (λ s. IsSized s.tree)

abbrev pub plain_node : Placed → Placed
plain_node p = record { node = p.node; at = 0 }

abbrev pub plain_tree : TreeParts → TreeParts
plain_tree t = record t { nodes = map plain_node t.nodes }

abbrev pub plain_saved : Saved → Saved
plain_saved s = record { tree = plain_tree s.tree; text = s.text }

-- the list without places of nodes in their patterns, which an image doesn't have
abbrev pub plain : List Saved → List Saved
plain = map plain_saved

-- the list was loaded, unless memory ran out or there were too many bytes
abbrev pub IsLoaded : Result (List Saved) LoadError → List Saved → Type 0
IsLoaded result list = MatchResult result (λ found. found ≡ list) (λ e. e ≢ load.Bad)
