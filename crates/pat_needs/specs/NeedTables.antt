-- Needed texts as they are kept for each node, and with a pattern's bound.
use Rattle.std.specs.Prelude.{◌≡◌, ◌<◌, ℕ, Bool, true, false, List, ◌++◌, All, length, Option, Some, None, IfSome}
use Rattle.std.specs.Prelude.{drop, map, slice_index_or}
use Rattle.pat_tree.specs.declared.nodes.Item.{Item}
use Rattle.pat_tree.specs.Nested.{Nested, Row, one, row, tree_at}
use Rattle.pat_tree.specs.Parts.{TreeParts, tree_of}
use Rattle.char_sets.specs.Sets.{class_has}
use Rattle.pat_bounds.specs.declared.bounds.Bound.{Bound}
use Rattle.pat_bounds.specs.Bounds.{bound}
use Rattle.pat_needs.specs.Needs.{may_take, TakesOf, IsTaking, IsShort, Begins, Needs, SomeNeeds, AllNeed}
use Rattle.pat_needs.specs.Distances.{NeedsFrom, NeedsAt}
use Rattle.pat_needs.specs.Lacking.{IsBoundWithout}
use Rattle.pat_needs.specs.Texts.{sets_of}
use Rattle.pat_needs.specs.declared.needs.Distant.{Distant}
use Rattle.pat_needs.specs.declared.lacking.Early.{Early}
use Rattle.pat_needs.specs.declared.lacking.Lacking.{Lacking}
use Rattle.pat_needs.specs.declared.needs.Need.{Need}
use Rattle.pat_needs.specs.declared.needs.Taken.{Taken}
use Rattle.pat_needs.specs.declared.needs.Wanted.{Wanted}

-- what an item of a tree may take
abbrev pub may_of : TreeParts → Item → ℕ → Bool
may_of tree = may_take tree.options.utf (class_has tree)

-- every match of the item takes one of the bytes, in UTF or not; where it is told so, as a character of one byte
abbrev pub IsItemNeed : (Item → ℕ → Bool) → Bool → Item → Taken → Type 0
IsItemNeed may utf item taken = TakesOf may taken.bytes item × (taken.is_short ≡ true → IsShort may utf item)

-- what holds of the text of a part, in UTF or not, and anywhere in a match of the part or where the match begins
module _ (may : Item → ℕ → Bool) (utf anywhere : Bool) where
  -- every match of the part takes the text; what is told to be an item is one, and so is what takes one byte
  pub record IsWanted (t : Nested) (w : Wanted) : Type 0 where
    pub needs : Needs may utf anywhere (sets_of w.text) t
    pub item : w.is_item ≡ true → IsTaking may w.text.first t
    pub short : w.is_short ≡ true → (item : Item) → t ≡ one item → IsShort may utf item

  -- where there is one
  abbrev pub IsNeed : Nested → Option Wanted → Type 0
  IsNeed t None = Unit {0}
  IsNeed t (Some w) = IsWanted t w

  -- and every match of each of these branches
  abbrev pub AreAllNeeds : Row → Option Wanted → Type 0
  AreAllNeeds ts None = Unit {0}
  AreAllNeeds ts (Some w) = (w.is_item ≡ false) × AllNeed may utf anywhere (sets_of w.text) ts

  -- one of these parts in turn, or items among them
  abbrev pub IsSomeNeed : Row → Option Wanted → Type 0
  IsSomeNeed ts None = Unit {0}
  IsSomeNeed ts (Some w) = (w.is_item ≡ false) × SomeNeeds may utf anywhere (sets_of w.text) ts

  abbrev pub AreNeeds : (ℕ → Nested) → List (Option Wanted) → List ℕ → Type 0
  AreNeeds of needs ks = All (λ k. IsNeed (of k) (slice_index_or needs k None)) ks

  abbrev pub KeepNeeds : List Nested → List (Option Wanted) → Type 0
  KeepNeeds trees needs = (k : ℕ) → k < length needs → IsNeed (tree_at trees k) (slice_index_or needs k None)

-- the parts begin with items that take the text
abbrev pub IsRun : (Item → ℕ → Bool) → Bool → Row → Option Wanted → Type 0
IsRun may utf ts None = Unit {0}
IsRun may utf ts (Some w) = (w.is_item ≡ false) × Begins may utf (sets_of w.text) ts

-- the parts take the text at its distance from where they begin
abbrev pub IsDistant : (Item → ℕ → Bool) → Bool → Row → Option Distant → Type 0
IsDistant may utf ts None = Unit {0}
IsDistant may utf ts (Some far) = NeedsFrom may utf (sets_of far.wanted.text) far.distance ts

-- parts that take a text at once from a place on take it at the distance
abbrev pub IsBehind : (Item → ℕ → Bool) → Bool → (ℕ → Nested) → List ℕ → ℕ → ℕ → Type 0
IsBehind may utf of parts at distance =
    (text : List (List Bool)) → NeedsFrom may utf text 0 (row (map of (drop at parts)))
    → NeedsFrom may utf text distance (row (map of parts))

-- the first of the parts take the text, up to those that stand behind it
abbrev pub IsEarly : (Item → ℕ → Bool) → Bool → List Nested → Option Early → Type 0
IsEarly may utf parts None = Unit {0}
IsEarly may utf parts (Some early) =
    (ts us : List Nested) × ((parts ≡ ts ++ us) × ((length us ≡ early.behind)
    × SomeNeeds may utf true (sets_of early.wanted.text) (row ts)))

-- what a search of a tree takes at most where the text stands nowhere
abbrev pub IsBoundLacking : TreeParts → List (List Bool) → Bound → Type 0
IsBoundLacking tree text =
    IsBoundWithout (may_of tree) tree.options.utf (class_has tree) text (tree_of tree)

-- every match of a finished tree takes the text, and a search without it takes no more than this
pub record IsLacking (tree : TreeParts) (lacking : Lacking) : Type 0 where
  pub text : Needs (may_of tree) tree.options.utf true (sets_of lacking.wanted.text) (tree_of tree)
  pub bound : IsBoundLacking tree (sets_of lacking.wanted.text) lacking.bound

-- every match of a finished tree takes the text, one at a distance from where it begins and another one, where they are
-- told; and the tree has this bound, and a search without the first text that one
pub record IsNeedOf (tree : TreeParts) (need : Need) : Type 0 where
  pub text : Needs (may_of tree) tree.options.utf true (sets_of need.text) (tree_of tree)
  pub lacking : IsBoundLacking tree (sets_of need.text) need.lacking
  pub begin : IfSome need.begin (λ begin.
      NeedsAt (may_of tree) tree.options.utf (sets_of begin.text) begin.distance (tree_of tree))
  pub other : IfSome need.other (λ other. Needs (may_of tree) tree.options.utf true (sets_of other) (tree_of tree))
  pub bound : bound (class_has tree) (tree_of tree) ≡ Some need.bound
