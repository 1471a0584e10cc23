-- A graph holds a fragment for a tree: from a state on to the state that follows.
use Rattle.std.specs.Prelude.{length, ◌≡◌, ℕ, zero, suc, ◌-◌, ◌≤◌, ◌<◌, ◌⊎◌, ◌||◌, Bool, true, false, List, [], ◌∷◌}
use Rattle.std.specs.Prelude.{Option, Some, None, slice_get}
use Rattle.pat_tree.specs.declared.nodes.Verb.{Verb}
use Rattle.pat_tree.specs.declared.nodes.Verb.TheVariants.{Fail}
use Rattle.pat_tree.specs.Nested as tree
use Rattle.pat_tree.specs.Nested.{Nested, Row, Test, Other}
use Rattle.dfa_ends.specs.pat_check.Size.{whole_size}
use Rattle.pat_lengths.specs.Nodes.{has_lookbehind}
use Rattle.pat_lengths.specs.Backs.{lengths_back}
use Rattle.pat_lengths.specs.Lengths.{branch_lengths, can_be_empty}
use Rattle.pat_lengths.specs.declared.backs.Back.{Back}
use Rattle.dfa_ends.specs.ordered_search.Setting.{Setting}
use Rattle.dfa_ends.specs.Ends.{Spot, spot, Among, Ends, Reaches}
use Rattle.dfa_paths.specs.declared.graph.Node.{Node}
use Rattle.dfa_paths.specs.declared.graph.Node.TheVariants.{One, Break, Anchor, Split, Goto, Look, Atomic, Dead, Match}
use Rattle.match_items.specs.Scene.{Scene}
use Rattle.dfa_ends.specs.TwoMatchers.{EndPlace}
use Rattle.dfa_paths.specs.Graph.{Accepts, Deep, IsGraph, IsFlat, takers}
use Rattle.dfa_paths.specs.Plain.{is_plain}

-- from a state on to a state
abbrev pub Part : Type 1
Part = ℕ → ℕ → Type 0

-- how deep the forms of a graph are nested at most
abbrev pub most_nested : ℕ
most_nested = 512

-- a branch of a lookbehind has these lengths, whatever the pattern around it
abbrev pub HasBack : Nested → Back → Type 0
HasBack t back =
    (unset_matches : Bool) (whole : Nested) → branch_lengths unset_matches whole t ≡ lengths_back back

module _ (nodes : List Node) where
  -- nothing stands between
  abbrev pub IsAt : Part
  IsAt e next = (e ≡ next) ⊎ (slice_get nodes e ≡ Some (Goto next))

  abbrev pub IsNode : Node → ℕ → Type 0
  IsNode n e = slice_get nodes e ≡ Some n

  -- n copies, one after the other
  unfoldable pub Copies : Part → ℕ → Part
  Copies P zero e next = IsAt e next
  Copies P (suc n) e next = (m : ℕ) × P e m × Copies P n m next

  -- n copies, each of which may be left out with those after it
  unfoldable pub Options : Part → ℕ → Part
  Options P zero e next = IsAt e next
  Options P (suc n) e next =
      (p : ℕ) × (m : ℕ) × (k : ℕ) × IsNode (Split p next) e × P p m × IsAt m k × Options P n k next

  -- any number of turns
  abbrev pub Loop : Part → Part
  Loop P e next = (p : ℕ) × IsNode (Split p next) e × P p e

  abbrev pub After : Part → ℕ → Option ℕ → Part
  After P low None e next = Loop P e next
  After P low (Some high) e next = (low ≤ high) × Options P (high - low) e next

  abbrev pub Turns : Part → ℕ → Option ℕ → Part
  Turns P low high e next = (m : ℕ) × Copies P low e m × After P low high m next

  -- no branch is left
  abbrev pub IsLast : Row → Type 0
  IsLast tree.none = Unit {0}
  IsLast (tree.more t ts) = ⊥

  abbrev pub VerbPlaced : Verb → Part
  VerbPlaced (Fail name) e next = IsNode Dead e
  VerbPlaced _ e next = ⊥

  -- the ways of a lookaround, which goes on in the first where it is true
  abbrev pub Branches : Bool → (ℕ → Type 0) → (ℕ → Type 0) → ℕ → ℕ → Type 0
  Branches true P Q hit miss = P hit × Q miss
  Branches false P Q hit miss = Q hit × P miss

  unfoldable mutual
    -- A fragment for a tree, in which so many levels may be nested: nested paths end at state 1.
    pub Placed : Nested → ℕ → Part
    Placed tree.empty d e next = IsAt e next
    Placed (tree.one item) d e next = IsNode (One item next) e
    Placed tree.line_break d e next = IsNode (Break next) e
    Placed (tree.seq ts) d e next = AllPlaced ts d e next
    Placed (tree.group number ts) d e next = AnyPlaced ts d e next
    Placed (tree.repeat body low high lazily) d e next = Turns (Placed body d) low high e next
    Placed (tree.one_repeat item low high lazily) d e next =
        Turns (λ e next. IsNode (One item next) e) low high e next
    Placed (tree.atomic ts) zero e next = ⊥
    Placed (tree.atomic ts) (suc d) e next =
        (entry : ℕ) × IsNode (Atomic entry next) e × AnyPlaced ts d entry 1
    Placed (tree.look true positive once ts) zero e next = ⊥
    Placed (tree.look true positive once ts) (suc d) e next =
        (entry : ℕ) × (hit : ℕ) × (miss : ℕ) × IsNode (Look None entry hit miss) e
        × AnyPlaced ts d entry 1 × Branches positive (λ q. q ≡ next) (IsNode Dead) hit miss
    Placed (tree.look false positive once ts) zero e next = ⊥
    Placed (tree.look false positive once ts) (suc d) e next =
        (hit : ℕ) × (miss : ℕ) × BehindPlaced ts d hit miss e
        × Branches positive (λ q. IsAt q next) (IsNode Dead) hit miss
    Placed (tree.condition test first second) d e next =
        TestPlaced test d (λ q. Placed first d q next) (λ q. OtherPlaced second d q next) e
    Placed (tree.call n) d e next = ⊥
    Placed (tree.ref ns caseless) d e next = ⊥
    Placed (tree.anchor kind) d e next = IsNode (Anchor kind next) e
    Placed tree.keep_out d e next = ⊥
    Placed (tree.verb v) d e next = VerbPlaced v e next
    Placed (tree.callout c) d e next = IsAt e next

    pub AllPlaced : Row → ℕ → Part
    AllPlaced tree.none d e next = IsAt e next
    AllPlaced (tree.more t ts) d e next = (m : ℕ) × Placed t d e m × AllPlaced ts d m next

    pub AnyPlaced : Row → ℕ → Part
    AnyPlaced tree.none d e next = IsNode Dead e
    AnyPlaced (tree.more t ts) d e next =
        (IsLast ts × Placed t d e next)
        ⊎ ((p : ℕ) × (q : ℕ) × IsNode (Split p q) e × Placed t d p next × AnyPlaced ts d q next)

    -- the branches of a lookbehind, one after the other: each begins so far before the place
    pub BehindPlaced : Row → ℕ → ℕ → ℕ → ℕ → Type 0
    BehindPlaced tree.none d hit miss e = IsNode (Goto miss) e
    BehindPlaced (tree.more t ts) d hit miss e =
        (back : Back) × (entry : ℕ) × (m : ℕ) × HasBack t back
        × IsNode (Look (Some back) entry hit m) e × Placed t d entry 1
        × BehindPlaced ts d hit miss m × (e < m)

    -- a condition with its first branch P and its second Q, of which the second stands alone where
    -- the test is false
    pub TestPlaced : Test → ℕ → (ℕ → Type 0) → (ℕ → Type 0) → ℕ → Type 0
    TestPlaced tree.never d P Q e = Q e
    TestPlaced tree.in_call d P Q e = Q e
    TestPlaced (tree.any_set ns) d P Q e = ⊥
    TestPlaced (tree.in_call_of ns) d P Q e = ⊥
    TestPlaced (tree.assert true positive once ts) zero P Q e = ⊥
    TestPlaced (tree.assert true positive once ts) (suc d) P Q e =
        (entry : ℕ) × (hit : ℕ) × (miss : ℕ) × IsNode (Look None entry hit miss) e
        × AnyPlaced ts d entry 1 × Branches positive P Q hit miss
    TestPlaced (tree.assert false positive once ts) zero P Q e = ⊥
    TestPlaced (tree.assert false positive once ts) (suc d) P Q e =
        (hit : ℕ) × (miss : ℕ) × BehindPlaced ts d hit miss e × Branches positive P Q hit miss
    TestPlaced (tree.called c test) d P Q e = TestPlaced test d P Q e

    pub OtherPlaced : Other → ℕ → Part
    OtherPlaced tree.no_other d e next = IsAt e next
    OtherPlaced (tree.other t) d e next = Placed t d e next

-- A fragment accepts what the tree takes and the next state accepts.
pub record Means (g : Setting) (nodes : List Node) (d : ℕ) (t : Nested) (e next : ℕ) : Type 0 where
  pub goes : (x y : Spot) (end : ℕ) → Ends g t x y →
      Accepts g.scene nodes (Deep g.scene nodes d) end next y.place →
      Accepts g.scene nodes (Deep g.scene nodes d) end e x.place
  pub comes : (x : Spot) (end : ℕ) → Accepts g.scene nodes (Deep g.scene nodes d) end e x.place →
      (y : Spot) × Ends g t x y × Accepts g.scene nodes (Deep g.scene nodes d) end next y.place

abbrev pub FragmentLaw : Type 0
FragmentLaw =
    (g : Setting) (nodes : List Node) (d : ℕ) (t : Nested) (e next : ℕ) →
    slice_get nodes 1 ≡ Some Match → Placed nodes t d e next → Means g nodes d t e next

-- The states of a tree's graph: paths begin at state 0, and state 1 ends them.
pub record AreStatesOf (classes : ℕ) (nodes : List Node) (t : Nested) : Type 0 where
  pub placed : Placed nodes t most_nested 0 1
  pub ends : slice_get nodes 1 ≡ Some Match
  pub graph : IsGraph classes nodes
  pub some : 2 ≤ length nodes
  pub few : length nodes ≤ 1048576
  -- at most as many states take something as the tree has nodes, with its repeats written out
  pub bounded : takers nodes ≤ whole_size t
  -- the graph of a tree without atomic groups and lookarounds nests nothing
  pub plain : is_plain t ≡ true → IsFlat nodes

-- What a graph is made of: its states, and whether reaching the subject's end counts wherever a
-- match begins.
pub record GraphParts : Type 0 where
  pub nodes : List Node
  pub always : Bool

-- it counts where the pattern has a lookbehind or can be empty
abbrev pub always_counts : Bool → Nested → Bool
always_counts unset_matches t = has_lookbehind t || can_be_empty unset_matches t

-- The graph of a tree. No reference is in it, so it makes no difference how an unset one matches.
pub record IsGraphOf (classes : ℕ) (graph : GraphParts) (t : Nested) : Type 0 where
  pub states : AreStatesOf classes graph.nodes t
  pub always : (unset_matches : Bool) → graph.always ≡ always_counts unset_matches t

-- The paths of the graph of a tree end where the tree can end.
abbrev pub PathLaw : Type 0
PathLaw =
    (g : Setting) (classes : ℕ) (nodes : List Node) (t : Nested) → AreStatesOf classes nodes t →
    (p q : ℕ) →
    (Deep g.scene nodes (suc most_nested) 0 p q → EndPlace g t p q) ×
    (EndPlace g t p q → Deep g.scene nodes (suc most_nested) 0 p q)

-- each is below all that follow
unfoldable pub Rising : List ℕ → Type 0
Rising [] = Unit {0}
Rising (x ∷ xs) = ((q : ℕ) → Among q xs → x < q) × Rising xs

-- These are the places where the graph's tree can end from a place, rising.
pub record AreEnds (scene : Scene) (graph : GraphParts) (place : ℕ) (found : List ℕ) : Type 0 where
  pub each_is_an_end :
      (classes : ℕ) (t : Nested) → IsGraphOf classes graph t → (g : Setting) → g.scene ≡ scene →
      (end : ℕ) →
      Among end found → EndPlace g t place end
  pub all_are_found :
      (classes : ℕ) (t : Nested) → IsGraphOf classes graph t → (g : Setting) → g.scene ≡ scene →
      (end : ℕ) →
      EndPlace g t place end → Among end found
  pub rising : Rising found

-- The flag is true exactly where some test that counts, of those that the graph's tree makes from a
-- place, reaches the subject's end.
pub record IsHit (scene : Scene) (graph : GraphParts) (place : ℕ) (hit : Bool) : Type 0 where
  pub hit_reaches :
      (classes : ℕ) (t : Nested) → IsGraphOf classes graph t → (g : Setting) → g.scene ≡ scene →
      g.whole ≡ t → hit ≡ true → Reaches g t (spot place place)
  pub reaching_hits :
      (classes : ℕ) (t : Nested) → IsGraphOf classes graph t → (g : Setting) → g.scene ≡ scene →
      g.whole ≡ t → Reaches g t (spot place place) → hit ≡ true
