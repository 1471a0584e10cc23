-- What a search goes over: a pattern's numbered parts and the characters of a subject.
use Rattle.std.specs.Prelude.{◌≡◌, ℕ, suc, ◌<◌, ◌≤◌, Bool, true, false, not, ◌==◌, List, [], ◌∷◌, All, IfSome, length}
use Rattle.std.specs.Prelude.{Option, Some, None}
use Rattle.pat_tree.specs.declared.nodes.Item.{Item}
use Rattle.pat_tree.specs.declared.nodes.Node.{Node}
use Rattle.pat_tree.specs.Nested.{Nested, nest, tree_at}
use Rattle.pat_tree.specs.Rules.{asserted_by, is_test, kids_of, numbers_of, classes_of, verb_names_of, IsOrdered}
use Rattle.pat_tree.specs.Refs.{named_by}
use Rattle.node_flow.specs.Branches.{branch_child}
use Rattle.node_flow.specs.Followers.{first_of}
use Rattle.node_flow.specs.LookBranches.{look_branch_child}
use Rattle.node_flow.specs.Linked.{IsLinked}
use Rattle.node_flow.specs.Order.{StandInTurn}
use Rattle.match_items.specs.Items.{after_item, after_break, after_ref, place_before}
use Rattle.ordered_search.specs.Setting.{Setting, match_limit, branch_lengths}
use Rattle.pat_lengths.specs.Lengths.{SomeLengths}
use Rattle.frame_state.specs.Behind.{IsFixed, IsMeasured, place_back}

pub record Ground : Type 0 where
  pub setting : Setting
  -- the tree of each part, by its number
  pub trees : List Nested
  pub root : ℕ
  -- the parts that still follow a part, up to the end of the innermost frame around it
  pub rest : ℕ → List ℕ
  -- the innermost branch around a part, in its frame
  pub branch : ℕ → Option ℕ
  -- the branch of a lookbehind around a part, in its frame
  pub look_branch : ℕ → Option ℕ
  -- the part is one of the pattern's, its place in the pattern's order, and the place past those under it
  pub under : ℕ → Bool
  pub rank : ℕ → ℕ
  pub past : ℕ → ℕ
  -- a character begins at the place, or the subject ends there
  pub stands : ℕ → Bool
  pub class_count : ℕ

abbrev pub tree_of : Ground → ℕ → Nested
tree_of c q = tree_at c.trees q

-- the part that follows next
abbrev pub next_of : Ground → ℕ → Option ℕ
next_of c q = first_of (c.rest q)

-- the lengths of a branch of a lookbehind differ
abbrev pub differ : SomeLengths → Bool
differ None = false
differ (Some a) = elim a.most [ None ↦ false | Some most ↦ not (a.least == most) ]

-- with the part's frame ends a try of a branch of a lookbehind, one whose lengths differ
abbrev pub settles_by : Ground → Option ℕ → Bool
settles_by c None = false
settles_by c (Some b) = differ (branch_lengths c.setting (tree_of c b))

abbrev pub settles : Ground → ℕ → Bool
settles c q = settles_by c (c.look_branch q)

-- the node of a part
pub record IsNode (c : Ground) (q : ℕ) (n : Node) : Type 0 where
  pub is : nest c.trees n ≡ tree_of c q
  pub below : All (λ k. k < q) (kids_of n)
  pub linked : IsLinked c.rest (c.rest q) n
  pub branched : All (λ k. c.branch k ≡ branch_child n (c.branch q) k) (kids_of n)
  pub looked : All (λ k. c.look_branch k ≡ look_branch_child n (c.look_branch q) k) (kids_of n)
  pub under : All (λ k. c.under k ≡ true) (kids_of n)
  pub in_turn : StandInTurn c.rank c.past (suc (c.rank q)) (kids_of n) (c.past q)
  pub spans : (k : ℕ) → c.rank k ≤ c.past k
  pub classes : All (λ k. k < c.class_count) (classes_of n)
  -- a name's number is kept as one more
  pub names : All (λ k. k < 4294967295) (verb_names_of n)
  pub ordered : IsOrdered n
  pub few : length (kids_of n) ≤ 4294967295
  -- the node of an assertion is a lookaround, or a callout and a lookaround after it
  pub tests : All (λ k. is_test (tree_of c k) ≡ true) (asserted_by n)
  -- the groups that it names, and its own, have registers
  pub named : All (λ k. (0 < k) × (k ≤ c.setting.groups)) (named_by n)
  pub numbered : All (λ k. (0 < k) × (k ≤ c.setting.groups)) (numbers_of n)

-- there is no place, or one that stands
abbrev pub StandsIf : Ground → Option ℕ → Type 0
StandsIf c None = Unit {0}
StandsIf c (Some p) = c.stands p ≡ true

-- no branch of a lookbehind in a tree is refused
abbrev pub IsMeasuredIn : Ground → Nested → Type 0
IsMeasuredIn c t = IsMeasured (branch_lengths c.setting) t

-- the branch around a part, if there is one, is a part of the pattern
abbrev pub IsAmong : Ground → ℕ → Type 0
IsAmong c q = IfSome (c.branch q) (λ b. (b ≤ c.root) × (c.under b ≡ true))

-- the branch of a lookbehind around a part, if there is one, is a part of the tree that isn't refused
abbrev pub IsLooked : Ground → ℕ → Type 0
IsLooked c q = IfSome (c.look_branch q) (λ b. (b ≤ c.root) × IsFixed (branch_lengths c.setting)
    (tree_of c b))

-- a part of the pattern
abbrev pub IsOfPattern : Ground → ℕ → Type 0
IsOfPattern c q = (q ≤ c.root) × IsMeasuredIn c (tree_of c q) × (c.under q ≡ true) × IsAmong c q

-- parts of which each stands past the one before and those under it
abbrev pub StandLater : Ground → ℕ → List ℕ → Type 0
StandLater c q [] = Unit {0}
StandLater c q (p ∷ ps) = (c.past q ≤ c.rank p) × StandLater c p ps

-- the branch around p, if there is one, begins at the part q or before it
abbrev pub BeginsBy : Ground → ℕ → ℕ → Type 0
BeginsBy c q p = IfSome (c.branch p) (λ b. c.rank b ≤ c.rank q)

-- The search may come to the part: it is one of the pattern's, and so are those that follow it. A tree may hold nodes
-- beside the pattern's, of which nothing is asked.
pub record IsPart (c : Ground) (q : ℕ) : Type 0 where
  pub within : q ≤ c.root
  pub measured : IsMeasuredIn c (tree_of c q)
  pub followed : All (IsOfPattern c) (c.rest q)
  pub under : c.under q ≡ true
  pub among : IsAmong c q
  pub later : StandLater c q (c.rest q)
  -- a lookbehind's branch around it is around those that follow it
  pub looked : IsLooked c q
  pub looked_on : All (λ p. c.look_branch p ≡ c.look_branch q) (c.rest q)
  -- the branches around it and around those that follow it began by then
  pub begun : All (BeginsBy c q) (q ∷ c.rest q)

-- What holds of all places and parts.
pub record IsGround (c : Ground) : Type 0 where
  pub measured : IsMeasuredIn c c.setting.whole
  pub whole : tree_of c c.root ≡ c.setting.whole
  pub last : c.rest c.root ≡ []
  pub chained : (q p : ℕ) (ps : List ℕ) → q ≤ c.root → c.rest q ≡ p ∷ ps → c.rest p ≡ ps
  pub whole_under : c.under c.root ≡ true
  pub whole_alone : c.branch c.root ≡ None
  pub whole_unlooked : c.look_branch c.root ≡ None
  pub spans : (q : ℕ) → c.rank q ≤ c.past q
  pub few : match_limit c.setting ≤ 4294967295
  pub registers : c.setting.groups ≤ 65535
  pub short : length c.setting.subject < 4294967295
  pub within : (p : ℕ) → c.stands p ≡ true → p ≤ length c.setting.subject
  -- an item goes forward, and the character before the place after it begins at its place
  pub forward : (item : Item) (p q : ℕ) → c.stands p ≡ true → after_item c.setting.scene item p ≡ Some q →
      (p < q) × (c.stands q ≡ true) × (place_before c.setting.scene q ≡ p)
  pub breaks : (p : ℕ) → c.stands p ≡ true → StandsIf c (after_break c.setting.scene p)
  pub refers : (from to p : ℕ) (caseless : Bool) → c.stands from ≡ true → c.stands to ≡ true → c.stands p ≡ true →
      StandsIf c (after_ref c.setting.scene from to caseless p)
  pub steps_back : (n p : ℕ) → c.stands p ≡ true → StandsIf c (place_back c.setting.scene n p)
  pub backward : (p : ℕ) → c.stands p ≡ true → 0 < p → (place_before c.setting.scene p < p)
      × (c.stands (place_before c.setting.scene p) ≡ true)
