-- Paths of a graph of states over a subject.
use Rattle.std.specs.Prelude.{◌≡◌, ℕ, zero, suc, ◌+◌, ◌≤◌, ◌<◌, ◌⊎◌, Bool, true, false, All, List, [], ◌∷◌, length}
use Rattle.std.specs.Prelude.{drop, Option, Some, None, slice_get, ◌==◌}
use Rattle.pat_tree.specs.Rules.{class_in}
use Rattle.match_items.specs.Scene.{Scene}
use Rattle.match_items.specs.Items.{places_back, after_item, after_break, holds}
use Rattle.pat_lengths.specs.declared.backs.Back.{Back}
use Rattle.dfa_ends.specs.Ends.{Among}
use Rattle.dfa_paths.specs.declared.graph.Node.{Node}
use Rattle.dfa_paths.specs.declared.graph.Node.TheVariants.{One, Break, Anchor, Split, Goto, Look, Atomic, Dead, Match}

-- the state takes something
abbrev pub takes : Node → Bool
takes (One item next) = true
takes (Break next) = true
takes _ = false

-- it asks for the ends of nested paths
abbrev pub nests : Node → Bool
nests (Look back entry hit miss) = true
nests (Atomic entry next) = true
nests _ = false

abbrev pub is_match : Node → Bool
is_match Match = true
is_match _ = false

module _ (g : Scene) where
  -- the states that follow at the same place
  abbrev pub moves : Node → ℕ → List ℕ
  moves (Anchor kind next) i = elim (holds g kind i) [ true ↦ next ∷ [] | false ↦ [] ]
  moves (Split first second) i = first ∷ second ∷ []
  moves (Goto next) i = next ∷ []
  moves _ i = []

  -- the place after what the state takes
  abbrev pub lands : Node → ℕ → Option ℕ
  lands (One item next) i = after_item g item i
  lands (Break next) i = after_break g i
  lands _ i = None

-- the state that follows what is taken
abbrev pub target : Node → ℕ
target (One item next) = next
target (Break next) = next
target _ = 0

-- Where nested paths end: from a state and a place, at a place.
abbrev pub Inner : Type 1
Inner = ℕ → ℕ → ℕ → Type 0

-- the furthest place where they end
abbrev pub Furthest : Inner → ℕ → ℕ → ℕ → Type 0
Furthest B entry i j = B entry i j × ((k : ℕ) → B entry i k → k ≤ j)

abbrev pub IsFurthest : Inner → ℕ → ℕ → Option ℕ → Type 0
IsFurthest B entry i None = (k : ℕ) → B entry i k → ⊥
IsFurthest B entry i (Some j) = Furthest B entry i j

-- where nested paths begin: at a place, or so many characters before it
abbrev pub Begins : Scene → Option Back → ℕ → ℕ → Type 0
Begins g None i p = p ≡ i
Begins g (Some back) i p = Among p (drop back.least (places_back g back.most i))

-- an end counts that stands at a place, or each where all do
abbrev pub CountsAt : Bool → ℕ → ℕ → Type 0
CountsAt true i k = Unit {0}
CountsAt false i k = k ≡ i

-- of the ends of nested paths those that count: where the lengths of a branch differ, those at the place
abbrev pub Tried : Inner → Option Back → ℕ → Inner
Tried B None i entry p k = B entry p k
Tried B (Some back) i entry p k = B entry p k × CountsAt (back.least == back.most) i k

-- an end of nested paths that begin so, where there is one
abbrev pub IsEndBehind : Scene → Inner → Option Back → ℕ → ℕ → Option ℕ → Type 0
IsEndBehind g B back entry i None = (p k : ℕ) → Begins g back i p → Tried B back i entry p k → ⊥
IsEndBehind g B back entry i (Some j) = (p : ℕ) × Begins g back i p × Tried B back i entry p j

-- the states that follow at the same place, where nested paths end as B says
abbrev pub Follows : Scene → Inner → Node → ℕ → ℕ → Type 0
Follows g B (Look back entry hit miss) i a =
    (((p : ℕ) × (k : ℕ) × Begins g back i p × Tried B back i entry p k) × (a ≡ hit))
    ⊎ (((p k : ℕ) → Begins g back i p → Tried B back i entry p k → ⊥) × (a ≡ miss))
Follows g B (Atomic entry next) i a = Furthest B entry i i × (a ≡ next)
Follows g B n i a = Among a (moves g n i)

-- a state that follows at a later place, which an atomic group gives
abbrev pub Leaps : Inner → Node → ℕ → ℕ → ℕ → Type 0
Leaps B (Atomic entry next) i j a = Furthest B entry i j × (a ≡ next)
Leaps B n i j a = ⊥

module _ (g : Scene) (nodes : List Node) where
  -- some path from q at i reaches `Match` at `end`, where the nested paths end as B says
  pub data Accepts (B : Inner) (end : ℕ) : ℕ → ℕ → Type 0 where
    matched : (q i : ℕ) → slice_get nodes q ≡ Some Match → i ≡ end → Accepts B end q i
    moved : (q i a : ℕ) (n : Node) → slice_get nodes q ≡ Some n → Among a (moves g n i) →
        Accepts B end a i → Accepts B end q i
    landed : (q i j : ℕ) (n : Node) → slice_get nodes q ≡ Some n → lands g n i ≡ Some j →
        Accepts B end (target n) j → Accepts B end q i
    -- a lookaround, by whether its paths have an end
    ended : (q i : ℕ) (back : Option Back) (entry hit miss p k : ℕ) →
        slice_get nodes q ≡ Some (Look back entry hit miss) → Begins g back i p → Tried B back i entry p k →
        Accepts B end hit i → Accepts B end q i
    missed : (q i : ℕ) (back : Option Back) (entry hit miss : ℕ) →
        slice_get nodes q ≡ Some (Look back entry hit miss) →
        ((p k : ℕ) → Begins g back i p → Tried B back i entry p k → ⊥) → Accepts B end miss i →
        Accepts B end q i
    -- an atomic group goes on where its paths have their furthest end
    went : (q i entry next j : ℕ) → slice_get nodes q ≡ Some (Atomic entry next) →
        B entry i j → ((k : ℕ) → B entry i k → k ≤ j) → Accepts B end next j → Accepts B end q i

  -- from a state and a place to an end, by paths that nest others so deep at most
  unfoldable pub Deep : ℕ → Inner
  Deep zero q i end = ⊥
  Deep (suc d) q i end = Accepts (Deep d) end q i

  -- from one of the states
  abbrev pub SomeAccepts : Inner → ℕ → ℕ → List ℕ → Type 0
  SomeAccepts B end i qs = (q : ℕ) × Among q qs × Accepts B end q i

  -- the state follows one of those at the same place, or is one
  pub data Comes (B : Inner) (i : ℕ) (start : List ℕ) : ℕ → Type 0 where
    here : (q : ℕ) → Among q start → Comes B i start q
    on : (q a : ℕ) (n : Node) → Comes B i start q → slice_get nodes q ≡ Some n →
        Follows g B n i a → Comes B i start a

abbrev pub AllBelow : ℕ → List ℕ → Type 0
AllBelow n qs = (q : ℕ) → Among q qs → q < n

-- What follows is a state, and each item's class is one of so many.
abbrev pub IsNodeIn : ℕ → ℕ → Node → Type 0
IsNodeIn states classes (One item next) = (next < states) × All (λ n. n < classes) (class_in item)
IsNodeIn states classes (Break next) = next < states
IsNodeIn states classes (Anchor kind next) = next < states
IsNodeIn states classes (Split first second) = (first < states) × (second < states)
IsNodeIn states classes (Goto next) = next < states
IsNodeIn states classes (Look back entry hit miss) =
    (entry < states) × (hit < states) × (miss < states)
IsNodeIn states classes (Atomic entry next) = (entry < states) × (next < states)
IsNodeIn states classes Dead = Unit {0}
IsNodeIn states classes Match = Unit {0}

-- a graph for a table of so many classes
abbrev pub IsGraph : ℕ → List Node → Type 0
IsGraph classes nodes =
    (q : ℕ) (n : Node) → slice_get nodes q ≡ Some n → IsNodeIn (length nodes) classes n

-- no state asks for the ends of nested paths
abbrev pub IsFlat : List Node → Type 0
IsFlat nodes = (q : ℕ) (n : Node) → slice_get nodes q ≡ Some n → nests n ≡ false

abbrev pub count_if : Bool → ℕ → ℕ
count_if true n = 1 + n
count_if false n = n

-- how many states take something
unfoldable pub takers : List Node → ℕ
takers [] = 0
takers (n ∷ ns) = count_if (takes n) (takers ns)
