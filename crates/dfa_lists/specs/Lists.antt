-- Lists of states, at one place and over places.
use Rattle.std.specs.Prelude.{◌≡◌, ℕ, ◌<◌, ◌+◌, ◌≤◌, ◌⊎◌, Bool, true, false, List, [], ◌∷◌, ◌++◌, ◌||◌, ◌-◌, not}
use Rattle.std.specs.Prelude.{nat_lt, zero, suc, length, Option, Some, None, ◌==◌, slice_get, slice_index}
use Rattle.std.specs.Prelude.{slice_index_or}
use Rattle.match_items.specs.Scene.{Scene}
use Rattle.dfa_ends.specs.Ends.{Among}
use Rattle.dfa_paths.specs.declared.graph.Node.{Node}
use Rattle.dfa_paths.specs.declared.graph.Node.TheVariants.{Look, Dead}
use Rattle.dfa_lists.specs.declared.lists.Seed.{Seed}
use Rattle.dfa_lists.specs.declared.lists.Branch.{Branch}
use Rattle.dfa_paths.specs.Graph.{Inner, Follows, Leaps, IsFlat, takes, is_match, lands, target, takers, count_if}
use Rattle.dfa_paths.specs.Graph.{Comes}

abbrev pub IsTaking : List Node → ℕ → Type 0
IsTaking nodes q = (n : Node) × (slice_get nodes q ≡ Some n) × (takes n ≡ true)

abbrev pub IsMatching : List Node → ℕ → Type 0
IsMatching nodes q = (n : Node) × (slice_get nodes q ≡ Some n) × (is_match n ≡ true)

-- one more item
abbrev pub kept : Bool → ℕ → List ℕ → List ℕ
kept true q qs = qs ++ q ∷ []
kept false q qs = qs

-- the states that wait at a place, and what waits elsewhere
abbrev pub waiting_at : ℕ → List Seed → List ℕ
waiting_at i [] = []
waiting_at i (s ∷ ss) =
    elim (s.at == i) [ true ↦ s.state ∷ waiting_at i ss | false ↦ waiting_at i ss ]

abbrev pub elsewhere : ℕ → List Seed → List Seed
elsewhere i [] = []
elsewhere i (s ∷ ss) = elim (s.at == i) [ true ↦ elsewhere i ss | false ↦ s ∷ elsewhere i ss ]

unfoldable pub Waits : ℕ → ℕ → List Seed → Type 0
Waits q i [] = ⊥
Waits q i (s ∷ ss) = ((q ≡ s.state) × (i ≡ s.at)) ⊎ Waits q i ss

-- a state waits where an atomic group, which follows the start at a place, has a later end
abbrev pub Leaping : Scene → List Node → Inner → ℕ → List ℕ → ℕ → ℕ → Type 0
Leaping g nodes B i start a j =
    (q : ℕ) × (n : Node) × Comes g nodes B i start q × (slice_get nodes q ≡ Some n) ×
    Leaps B n i j a × (i < j)

-- What follows some states at a place: the leaves are those that take something, the leaps what atomic
-- groups among them give later, and `hit` tells whether `Match` is among them.
pub record Closure : Type 0 where
  pub leaves : List ℕ
  pub leaps : List Seed
  pub hit : Bool

abbrev pub closure : List ℕ → List Seed → Bool → Closure
closure leaves leaps hit = record { leaves = leaves; leaps = leaps; hit = hit }

-- this is what follows the start at a place
pub record IsClosed (g : Scene) (nodes : List Node) (B : Inner) (i : ℕ) (start : List ℕ)
    (c : Closure) : Type 0 where
  pub each_comes : (q : ℕ) → Among q c.leaves → Comes g nodes B i start q × IsTaking nodes q
  pub all_are_kept : (q : ℕ) → Comes g nodes B i start q → IsTaking nodes q → Among q c.leaves
  pub hit_comes : c.hit ≡ true → (q : ℕ) × Comes g nodes B i start q × IsMatching nodes q
  pub comes_hit : (q : ℕ) → Comes g nodes B i start q → IsMatching nodes q → c.hit ≡ true
  pub each_leaps : (a j : ℕ) → Waits a j c.leaps → Leaping g nodes B i start a j
  pub all_leap : (a j : ℕ) → Leaping g nodes B i start a j → Waits a j c.leaps
  pub few : length c.leaves ≤ takers nodes

-- what is still to be followed at a place, and what waits past it
pub record Waiting : Type 0 where
  pub seeds : List ℕ
  pub later : List Seed

abbrev pub waiting : List ℕ → List Seed → Waiting
waiting seeds later = record { seeds = seeds; later = later }

-- A state is visited: what follows it at the place, and what follows it later.
pub record IsVisited (g : Scene) (B : Inner) (n : Node) (i : ℕ) (old new : Waiting) : Type 0 where
  pub more : List ℕ
  pub leaps : List Seed
  pub seeds_are : new.seeds ≡ old.seeds ++ more
  pub later_are : new.later ≡ old.later ++ leaps
  pub each_follows : (a : ℕ) → Among a more → Follows g B n i a
  pub all_follow : (a : ℕ) → Follows g B n i a → Among a more
  pub each_leaps : (a j : ℕ) → Waits a j leaps → Leaps B n i j a × (i < j)
  pub all_leap : (a j : ℕ) → Leaps B n i j a → i < j → Waits a j leaps
  pub few : length more ≤ 2

-- the branch of a lookbehind that a state stands for, if it does
abbrev pub branch_in : Node → Option Branch
branch_in (Look (Some back) entry hit miss) =
    Some (record { back = back; entry = entry; miss = miss })
branch_in _ = None

-- the way of a lookaround, by whether nested paths have an end
abbrev pub way_of : Option ℕ → ℕ → ℕ → ℕ
way_of None hit miss = miss
way_of (Some j) hit miss = hit

-- the state after an atomic group that has its furthest end here, or later
abbrev pub gone_here : ℕ → Option ℕ → ℕ → List ℕ
gone_here i None q = []
gone_here i (Some j) q = elim (j == i) [ true ↦ q ∷ [] | false ↦ [] ]

abbrev pub gone_later : ℕ → Option ℕ → ℕ → List Seed
gone_later i None q = []
gone_later i (Some j) q =
    elim (j == i) [ true ↦ [] | false ↦ record { at = j; state = q } ∷ [] ]

-- what a leaf takes at a place, if it takes something, waits after it
abbrev pub with_landing : Option ℕ → ℕ → List Seed → List Seed
with_landing None q ss = ss
with_landing (Some j) q ss = ss ++ record { at = j; state = q } ∷ []

abbrev pub node_at : List Node → ℕ → Node
node_at nodes q = slice_index_or nodes q Dead

-- all leaves, one after the other
unfoldable pub landed : Scene → List Node → ℕ → List ℕ → List Seed → List Seed
landed g nodes i [] ss = ss
landed g nodes i (q ∷ qs) ss =
    landed g nodes i qs (with_landing (lands g (node_at nodes q) i) (target (node_at nodes q)) ss)

-- how a search stands between two places: what waits past the first, the ends that were found, and
-- how many tests were made
pub record Progress : Type 0 where
  pub later : List Seed
  pub found : List ℕ
  pub tests : ℕ

abbrev pub progress : List Seed → List ℕ → ℕ → Progress
progress later found tests = record { later = later; found = found; tests = tests }

-- A place is taken: its leaves take what stands there, and it is kept where the end of a path is met.
pub record IsTakenAt (g : Scene) (nodes : List Node) (B : Inner) (i : ℕ) (start : List ℕ)
    (old new : Progress) : Type 0 where
  pub leaves : List ℕ
  pub leaps : List Seed
  pub hit : Bool
  pub closed : IsClosed g nodes B i start (closure leaves leaps hit)
  pub found_is : new.found ≡ kept hit i old.found
  pub later_is : new.later ≡ landed g nodes i leaves (old.later ++ leaps)
  pub few : IsFlat nodes → new.tests ≤ old.tests + length leaves

-- a character begins at the place, or the text ends there: in UTF no byte that continues one stands there
abbrev pub is_stop : Bool → List ℕ → ℕ → Bool
is_stop utf bytes i =
    not utf || nat_lt (slice_index bytes i) 128 || nat_lt 191 (slice_index bytes i)
    || not (nat_lt i (length bytes))

-- how many of n places from one on are so
unfoldable pub stops : Bool → List ℕ → ℕ → ℕ → ℕ
stops utf bytes p zero = 0
stops utf bytes p (suc n) = count_if (is_stop utf bytes p) (stops utf bytes (p + 1) n)

-- how many characters begin from a place on, and the text's end
abbrev pub stops_from : Bool → List ℕ → ℕ → ℕ
stops_from utf bytes p = stops utf bytes p (length bytes + 1 - p)
