-- What a search for all ends goes over.
use Rattle.std.specs.Prelude.{ℕ, ◌≤◌, List, Option, length}
use Rattle.match_items.specs.Scene.{Scene}
use Rattle.match_items.specs.Subjects.{IsText, IsTextPlace}
use Rattle.match_items.specs.Views.{text_scene}
use Rattle.dfa_paths.specs.pat_lengths.declared.backs.Back.{Back}
use Rattle.dfa_paths.specs.Graph.{Inner, Deep, IsGraph}
use Rattle.dfa_paths.specs.Meets.{Meeting, DeepMeets, Asks, Telling, SomeTells}
use Rattle.dfa_paths.specs.declared.graph.Node.{Node}
use Rattle.dfa_lists.specs.declared.lists.Search.{Search}
use Rattle.dfa_lists.specs.Lists.{Closure, Progress, IsClosed, IsTakenAt}

abbrev pub scene_of : Search → Scene
scene_of s = text_scene s.view.now s.classes.now

-- the paths of its graph, nested so deep at most
abbrev pub PathsOf : Search → ℕ → Inner
PathsOf s depth = Deep (scene_of s) s.nodes.now depth

-- those that meet the subject's end
abbrev pub MeetsOf : Search → ℕ → Meeting
MeetsOf s depth = DeepMeets (scene_of s) s.nodes.now s.counts depth

-- what a lookaround asks meets the end
abbrev pub AsksOf : Search → ℕ → Option Back → ℕ → ℕ → ℕ → Type 0
AsksOf s depth back entry miss i =
    Asks (scene_of s) s.nodes.now s.counts (PathsOf s depth) (MeetsOf s depth) back entry miss i

-- a state tells of the end at a place, itself or by nested paths
abbrev pub TellsOf : Search → ℕ → Node → ℕ → Type 0
TellsOf s depth n i =
    Telling (scene_of s) s.nodes.now s.counts (PathsOf s depth) (MeetsOf s depth) n i

-- some state that follows the start at a place does
abbrev pub SomeTellsOf : Search → ℕ → ℕ → List ℕ → Type 0
SomeTellsOf s depth i start =
    SomeTells (scene_of s) s.nodes.now s.counts (PathsOf s depth) (MeetsOf s depth) i start

-- what follows the start at a place, and the place as it is taken
abbrev pub IsClosedOf : Search → ℕ → ℕ → List ℕ → Closure → Type 0
IsClosedOf s depth i start c = IsClosed (scene_of s) s.nodes.now (PathsOf s depth) i start c

abbrev pub IsTakenOf : Search → ℕ → ℕ → List ℕ → Progress → Progress → Type 0
IsTakenOf s depth i start old new =
    IsTakenAt (scene_of s) s.nodes.now (PathsOf s depth) i start old new

-- its subject can be searched, and its states are those of a graph
pub record IsSearch (s : Search) : Type 0 where
  pub subject : IsText s.view.now.options.now s.view.now.subject.now
  pub few : length s.nodes.now ≤ 1048576
  pub graph : IsGraph (length s.classes.now) s.nodes.now

abbrev pub IsPlaceOf : Search → ℕ → Type 0
IsPlaceOf s p = IsTextPlace s.view.now.options.now s.view.now.subject.now p
