-- Which trees have an image: those that the reading of a pattern gives.
use Rattle.std.specs.List.Sorted.{IsStrictlySortedBy}
use Rattle.std.specs.Ordering.{nat_cmp}
use Rattle.std.specs.Prelude.{◌≡◌, ◌≤◌, ◌⊎◌, ℕ, ◌+◌, ◌-◌, ◌<◌, Bool, true, false}
use Rattle.std.specs.Prelude.{List, [], ◌∷◌, length, All, IsSome}
use Rattle.pat_tree.specs.declared.nodes.Item.{Item}
use Rattle.pat_tree.specs.declared.nodes.Item.TheVariants as item
use Rattle.pat_tree.specs.declared.nodes.Cond.{Cond}
use Rattle.pat_tree.specs.declared.nodes.Cond.TheVariants as test
use Rattle.pat_tree.specs.declared.nodes.Node.{Node}
use Rattle.pat_tree.specs.declared.nodes.Node.TheVariants as node
use Rattle.pat_tree.specs.declared.nodes.SetName.{SetName}
use Rattle.pat_tree.specs.declared.nodes.SetName.TheVariants as set
use Rattle.pat_tree.specs.declared.nodes.Part.{Part}
use Rattle.pat_tree.specs.declared.nodes.Part.TheVariants as part
use Rattle.pat_tree.specs.declared.nodes.ClassSpec.{ClassSpec}
use Rattle.pat_tree.specs.Closing.{StandInTurn}
use Rattle.pat_tree.specs.Growing.{AllUnder}
use Rattle.pat_tree.specs.Parts.{TreeParts}
use Rattle.pat_tree.specs.Sound.{TreeRules}
use Rattle.uni_text.specs.Characters.{IsPlace}
use Rattle.uni_text.specs.Characters as uni_text
use Rattle.uni_text.specs.Properties.{is_char, prop_by_number}
use Rattle.pat_save.specs.declared.saved.Saved.{Saved}

-- a byte, or in UTF a code point that is no surrogate
abbrev pub IsCharacter : Bool → ℕ → Type 0
IsCharacter false c = c ≤ 255
IsCharacter true c = is_char c ≡ true

-- each group once, the least first
abbrev pub IsRising : List ℕ → Type 0
IsRising = IsStrictlySortedBy nat_cmp

abbrev pub IsRisingTest : Cond → Type 0
IsRisingTest (test.AnySet groups) = IsRising groups
IsRisingTest (test.InCallOf groups) = IsRising groups
IsRisingTest _ = Unit {0}

-- the lists of groups that a node names
abbrev pub NamesRising : Node → Type 0
NamesRising (node.Cond test yes' no') = IsRisingTest test
NamesRising (node.Ref groups caseless) = IsRising groups
NamesRising _ = Unit {0}

abbrev pub character_in : Item → List ℕ
character_in (item.Char c caseless) = c ∷ []
character_in _ = []

abbrev pub characters_of : Node → List ℕ
characters_of (node.One item) = character_in item
characters_of (node.OneRepeat item min max lazy) = character_in item
characters_of _ = []

-- from one place to another the text has whole characters
pub record IsPiece (utf : Bool) (text : List ℕ) (from to : ℕ) : Type 0 where
  pub order : from ≤ to
  pub first : IsPlace utf text from
  pub last : IsPlace utf text to

-- a callout has no string, both places being 0, or a string in the text between its delimiters
abbrev pub IsString : Bool → List ℕ → ℕ → ℕ → Type 0
IsString utf text from to =
    ((from ≡ 0) × (to ≡ 0))
    ⊎ ((1 ≤ from) × (from ≤ to) × (to < length text) × IsPiece utf text (from - 1) (to + 1))

abbrev pub CallsIn : Bool → List ℕ → Node → Type 0
CallsIn utf text (node.Callout number from to at len) =
    IsString utf text from to × IsPiece utf text at (at + len)
CallsIn utf text _ = Unit {0}

pub record IsNode (utf : Bool) (text : List ℕ) (node : Node) : Type 0 where
  pub characters : All (IsCharacter utf) (characters_of node)
  pub rising : NamesRising node
  pub callout : CallsIn utf text node

abbrev pub IsSetName : SetName → Type 0
IsSetName (set.Property number) = IsSome (prop_by_number number)
IsSetName _ = Unit {0}

abbrev pub IsPart : Bool → Part → Type 0
IsPart utf (part.Range low high) = IsCharacter utf low × IsCharacter utf high × (low ≤ high)
IsPart utf (part.Set name not ucp) = IsSetName name

pub record IsClass (utf : Bool) (spec : ClassSpec) : Type 0 where
  pub few : length spec.parts ≤ 4294967295
  pub parts : All (IsPart utf) spec.parts

-- a name of 1 to so many bytes
abbrev pub IsName : ℕ → List ℕ → Type 0
IsName most name = (1 ≤ length name) × (length name ≤ most)

pub record IsVerbName (utf : Bool) (name : List ℕ) : Type 0 where
  pub size : IsName 255 name
  pub checked : uni_text.IsChecked utf name

-- the tree of a pattern with this text
pub record IsChecked (t : TreeParts) (text : List ℕ) : Type 0 where
  -- what each finished tree keeps
  pub rules : TreeRules t
  -- each node takes the last of those that no other has taken, and at the end the root alone is left
  pub turns : StandInTurn t.nodes
  pub whole : AllUnder t.nodes t.root
  pub nodes : All (λ p. IsNode t.options.utf text p.node) t.nodes
  pub classes : All (IsClass t.options.utf) t.classes
  pub few_names : length t.names ≤ 4294967295
  pub names : All (λ entry. IsName 128 entry.name) t.names
  pub verb_names : All (IsVerbName t.options.utf) t.verb_names
  pub checked : uni_text.IsChecked t.options.utf text

pub record IsCheckedSaved (s : Saved) : Type 0 where
  pub short : length s.text ≤ 65536
  pub tree : IsChecked s.tree s.text

-- at most 20 of them
pub record AreChecked (list : List Saved) : Type 0 where
  pub few : length list ≤ 20
  pub each : All IsCheckedSaved list
