-- The nodes that no other has taken, and what each may serve as.
use Rattle.std.specs.Prelude.{◌≡◌, ℕ, Bool, true, false, List, [], ◌∷◌, ◌++◌, map, All}
use Rattle.pat_tree.specs.declared.nodes.Node.{Node}
use Rattle.pat_tree.specs.declared.nodes.Node.TheVariants as node
use Rattle.pat_tree.specs.declared.nodes.Placed.{Placed}
use Rattle.pat_tree.specs.Growing.{loose}
use Rattle.pat_tree.specs.Nested.{Nested, look, callout, seq, more, none, trees, tree_at}
use Rattle.pat_tree.specs.Rules.{kids_of}
use Rattle.pat_save.specs.declared.pile.Loose.{Loose}
use Rattle.pat_save.specs.declared.pile.Role.{Role}
use Rattle.pat_save.specs.declared.pile.Role.TheVariants as role

abbrev pub role_of : Nested → Role
role_of (look ahead positive once branches) = role.Look
role_of (callout c) = role.Callout
role_of (seq (more (callout c) (more (look ahead positive once branches) none))) = role.CalledLook
role_of _ = role.Other

-- a lookaround, or a callout and a lookaround after it
abbrev pub serves : Role → Bool
serves role.Look = true
serves role.CalledLook = true
serves role.Callout = false
serves role.Other = false

abbrev pub ids_of : List Loose → List ℕ
ids_of = map (λ l. l.id)

-- each node with whether it may be the test of a condition
abbrev pub free_of : List Loose → List (ℕ × Bool)
free_of = map (λ l. (l.id, serves l.role))

-- what stands for the parts of a row
abbrev pub pair_role : Role → Role → Role
pair_role role.Callout role.Look = role.CalledLook
pair_role _ _ = role.Other

abbrev pub row_role : List Loose → Role
row_role (one ∷ other ∷ []) = pair_role one.role other.role
row_role _ = role.Other

-- what a node with these children may serve as
abbrev pub role_with : List Loose → Node → Role
role_with kids (node.Seq ids) = row_role kids
role_with kids (node.Look ahead positive once branches) = role.Look
role_with kids (node.Callout number from to at len) = role.Callout
role_with kids _ = role.Other

-- the last of the pile were taken, and these are their numbers
pub record AreTaken (old new : List Loose) (ids : List ℕ) (role : Role) : Type 0 where
  pub kids : List Loose
  pub is : old ≡ new ++ kids
  pub ids_are : ids_of kids ≡ ids
  pub role_is : role ≡ row_role kids

-- the last of the pile are a node's children
pub record Takes (old new : List Loose) (node : Node) (role : Role) : Type 0 where
  pub kids : List Loose
  pub is : old ≡ new ++ kids
  pub ids_are : ids_of kids ≡ kids_of node
  pub role_is : role ≡ role_with kids node

-- the last of the pile were taken, and these are their numbers
pub record AreLast (old new : List Loose) (ids : List ℕ) : Type 0 where
  pub kids : List Loose
  pub is : old ≡ new ++ kids
  pub ids_are : ids_of kids ≡ ids

-- a node without children that serves as this
pub record IsLeaf (node : Node) (role : Role) : Type 0 where
  pub kids : kids_of node ≡ []
  pub role_is : role ≡ role_with [] node

-- the pile has the loose nodes, and knows what each may serve as
pub record IsPile (known : List Placed) (pile : List Loose) : Type 0 where
  pub ids : loose known ≡ ids_of pile
  pub roles : All (λ l. l.role ≡ role_of (tree_at (trees known) l.id)) pile
