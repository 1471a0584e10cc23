-- Paths of a graph that meet the subject's end (pcre2partial, "Partial matching in PCRE2").
use Rattle.std.specs.Prelude.{◌≡◌, ℕ, zero, suc, ◌<◌, ◌⊎◌, Bool, true, false, ◌&&◌, ◌||◌, not, ◌==◌, IsTrue, List}
use Rattle.std.specs.Prelude.{length, Option, Some, None, slice_get}
use Rattle.pat_tree.specs.declared.nodes.AnchorKind.{AnchorKind}
use Rattle.pat_tree.specs.declared.nodes.AnchorKind.TheVariants.{Word, NotWord}
use Rattle.match_items.specs.Scene.{Scene}
use Rattle.match_items.specs.Items.{item_reaches, break_reaches, anchor_reaches}
use Rattle.dfa_paths.specs.declared.graph.Node.{Node}
use Rattle.dfa_paths.specs.declared.graph.Node.TheVariants.{One, Break, Anchor, Look, Atomic}
use Rattle.pat_lengths.specs.declared.backs.Back.{Back}
use Rattle.dfa_paths.specs.Graph.{Inner, Begins, Tried, Follows, Leaps, Deep, Comes, lands, target}

-- `\b` and `\B` look at the character before
abbrev pub looks_back : AnchorKind → Bool
looks_back (Word ucp) = true
looks_back (NotWord ucp) = true
looks_back _ = false

-- The state's test reaches the subject's end, and it counts: each test does where `counts` holds of
-- the search, and else those that look back, if there is a character before the end.
abbrev pub tells : Scene → Bool → Node → ℕ → Bool
tells g counts (One item next) i = item_reaches g item i && counts
tells g counts (Break next) i = break_reaches g i && counts
tells g counts (Anchor kind next) i =
    anchor_reaches g kind i && (counts || looks_back kind && not (length g.subject == 0))
tells g counts _ i = false

-- Nested paths meet the end: from a state and a place.
abbrev pub Meeting : Type 1
Meeting = ℕ → ℕ → Type 0

-- of those that begin so many characters before a place
abbrev pub MeetsBehind : Scene → Meeting → Back → ℕ → ℕ → Type 0
MeetsBehind g M back entry i = (p : ℕ) × Begins g (Some back) i p × M entry p

-- the paths that begin so have an end that counts
abbrev pub HasEndBehind : Scene → Inner → Back → ℕ → ℕ → Type 0
HasEndBehind g B back entry i =
    (p : ℕ) × (k : ℕ) × Begins g (Some back) i p × Tried B (Some back) i entry p k

module _ (g : Scene) (nodes : List Node) (counts : Bool) where
  -- A branch of a lookbehind meets the end, from the one on whose state this is. The states of the
  -- branches rise.
  pub data Probes (M : Meeting) (i : ℕ) : ℕ → Type 0 where
    probed : (q : ℕ) (back : Back) (entry hit miss : ℕ) →
        slice_get nodes q ≡ Some (Look (Some back) entry hit miss) →
        MeetsBehind g M back entry i → Probes M i q
    further : (q : ℕ) (back : Back) (entry hit miss : ℕ) →
        slice_get nodes q ≡ Some (Look (Some back) entry hit miss) → q < miss →
        Probes M i miss → Probes M i q

  -- What a lookaround asks meets the end. Each branch of a lookbehind is tried: also those after one
  -- that has an end.
  abbrev pub Asks : Inner → Meeting → Option Back → ℕ → ℕ → ℕ → Type 0
  Asks B M None entry miss i = M entry i
  Asks B M (Some back) entry miss i =
      MeetsBehind g M back entry i ⊎ (HasEndBehind g B back entry i × Probes M i miss)

  -- nested paths that a state asks for meet the end
  abbrev pub Inside : Inner → Meeting → Node → ℕ → Type 0
  Inside B M (Look back entry hit miss) i = Asks B M back entry miss i
  Inside B M (Atomic entry next) i = M entry i
  Inside B M n i = ⊥

  abbrev pub Telling : Inner → Meeting → Node → ℕ → Type 0
  Telling B M n i = IsTrue (tells g counts n i) ⊎ Inside B M n i

  -- some path from q at i meets the end, where nested paths end as B says and meet it as M says
  pub data Meets (B : Inner) (M : Meeting) : ℕ → ℕ → Type 0 where
    met : (q i : ℕ) (n : Node) → slice_get nodes q ≡ Some n → Telling B M n i → Meets B M q i
    followed : (q i a : ℕ) (n : Node) → slice_get nodes q ≡ Some n → Follows g B n i a →
        Meets B M a i → Meets B M q i
    leapt : (q i j a : ℕ) (n : Node) → slice_get nodes q ≡ Some n → Leaps B n i j a →
        Meets B M a j → Meets B M q i
    took : (q i j : ℕ) (n : Node) → slice_get nodes q ≡ Some n → lands g n i ≡ Some j →
        Meets B M (target n) j → Meets B M q i

  -- by paths that nest others so deep at most
  unfoldable pub DeepMeets : ℕ → Meeting
  DeepMeets zero q i = ⊥
  DeepMeets (suc d) q i = Meets (Deep g nodes d) (DeepMeets d) q i

  -- a state tells that follows one of those at the same place, or is one
  abbrev pub SomeTells : Inner → Meeting → ℕ → List ℕ → Type 0
  SomeTells B M i start =
      (q : ℕ) × (n : Node) × Comes g nodes B i start q × (slice_get nodes q ≡ Some n)
      × Telling B M n i

-- A flag is raised where a claim holds, and stays raised.
pub record IsTold (P : Type 0) (old new : Bool) : Type 0 where
  pub stays : old ≡ true → new ≡ true
  pub raised : P → new ≡ true
  pub causes : new ≡ true → (old ≡ true) ⊎ P
