-- Where a tree can end: the set of its ends, as a relation (pcre2matching, "The alternative
-- matching algorithm"). No order is in it, and no list of states.
use Rattle.std.specs.Prelude.{◌≡◌, ℕ, zero, suc, ◌<◌, ◌≤◌, Bool, true, false, ◌||◌, ◌⊎◌, IsTrue, List, [], ◌∷◌}
use Rattle.std.specs.Prelude.{length, drop, Option, Some, None, ◌==◌, nat_lt, min}
use Rattle.pat_tree.specs.declared.nodes.Item.{Item}
use Rattle.pat_tree.specs.declared.nodes.AnchorKind.{AnchorKind}
use Rattle.pat_tree.specs.Nested as tree
use Rattle.pat_tree.specs.Nested.{Nested, Row, Test, Other}
use Rattle.pat_lengths.specs.Lengths.{SomeLengths}
use Rattle.match_items.specs.Items.{places_back, after_item, item_reaches, after_break, break_reaches, holds}
use Rattle.match_items.specs.Items.{anchor_reaches, earliest}
use Rattle.ordered_search.specs.Setting.{Setting, has_lookbehind, can_be_empty, branch_lengths}

-- a place, and the earliest place inspected on the way to it
pub record Spot : Type 0 where
  pub place : ℕ
  pub early : ℕ

abbrev pub spot : ℕ → ℕ → Spot
spot p e = record { place = p; early = e }

abbrev pub Spots : Type 1
Spots = Spot → Type 0

-- from a spot to a spot
abbrev pub Way : Type 1
Way = Spot → Spots

abbrev pub HasOne : Spots → Type 0
HasOne Y = (y : Spot) × Y y

abbrev pub HasNone : Spots → Type 0
HasNone Y = (y : Spot) → Y y → ⊥

unfoldable pub Among : ℕ → List ℕ → Type 0
Among q [] = ⊥
Among q (p ∷ ps) = (q ≡ p) ⊎ Among q ps

-- on to a place, where there is one
abbrev pub GoesTo : Option ℕ → Way
GoesTo None x y = ⊥
GoesTo (Some p) x y = y ≡ record x { place = p }

-- n turns
unfoldable pub Times : Way → ℕ → Way
Times w zero x y = y ≡ x
Times w (suc n) x y = (z : Spot) × w x z × Times w n z y

abbrev pub Within : ℕ → Option ℕ → ℕ → Type 0
Within low None n = low ≤ n
Within low (Some high) n = (low ≤ n) × (n ≤ high)

-- a further turn may be made after n
abbrev pub Below : Option ℕ → ℕ → Type 0
Below None n = Unit {0}
Below (Some high) n = n < high

-- Lookbehinds.

-- begun at an earlier place
abbrev pub begun : ℕ → Spot → Spot
begun p x = record { place = p; early = min x.early p }

abbrev pub is_only : ℕ → Option ℕ → Bool
is_only least None = false
is_only least (Some most) = least == most

abbrev pub has_one_length : SomeLengths → Bool
has_one_length None = false
has_one_length (Some a) = is_only a.least a.most

-- where the lengths differ, what counts ends at the lookbehind's place
abbrev pub Counted : Bool → Way
Counted true x y = Unit {0}
Counted false x y = y.place ≡ x.place

module _ (g : Setting) where
  abbrev pub ItemEnds : Item → Way
  ItemEnds item x = GoesTo (after_item g.scene item x.place) x

  abbrev pub BreakEnds : Way
  BreakEnds x = GoesTo (after_break g.scene x.place) x

  -- `\b` and `\B` look at the character before
  abbrev pub seen : AnchorKind → Spot → Spot
  seen kind x = record x { early = earliest g.scene kind x.place x.early }

  abbrev pub AnchorEnds : AnchorKind → Way
  AnchorEnds kind x y = IsTrue (holds g.scene kind x.place) × (y ≡ seen kind x)

  -- the places from which a branch of a lookbehind is tried: as many characters before a place as
  -- the branch is long
  abbrev pub tries_within : ℕ → Option ℕ → ℕ → List ℕ
  tries_within least None p = []
  tries_within least (Some most) p = drop least (places_back g.scene most p)

  abbrev pub tries : SomeLengths → ℕ → List ℕ
  tries None p = []
  tries (Some a) p = tries_within a.least a.most p

  -- a branch of these lengths, begun at a try
  abbrev pub TryEnds : SomeLengths → Way → Way
  TryEnds lengths w x y =
      (p : ℕ) × Among p (tries lengths x.place) × w (begun p x) y × Counted
      (has_one_length lengths) x y

  unfoldable mutual
    -- `Ends g t x y`: from spot x, t can end at spot y
    pub Ends : Nested → Way
    Ends tree.empty x y = y ≡ x
    Ends (tree.one item) x y = ItemEnds item x y
    Ends tree.line_break x y = BreakEnds x y
    Ends (tree.seq ts) x y = AllEnd ts x y
    Ends (tree.group number ts) x y = AnyEnds ts x y
    Ends (tree.repeat body low high lazily) x y =
        (n : ℕ) × Within low high n × Times (Ends body) n x y
    Ends (tree.one_repeat item low high lazily) x y =
        (n : ℕ) × Within low high n × Times (ItemEnds item) n x y
    Ends (tree.atomic ts) x y =
        AnyEnds ts x y × ((z : Spot) → AnyEnds ts x z → z.place ≤ y.place)
    Ends (tree.look true true once ts) x y = HasOne (AnyEnds ts x) × (y ≡ x)
    Ends (tree.look true false once ts) x y = HasNone (AnyEnds ts x) × (y ≡ x)
    Ends (tree.look false true once ts) x y = HasOne (AnyEndsBehind ts x) × (y ≡ x)
    Ends (tree.look false false once ts) x y = HasNone (AnyEndsBehind ts x) × (y ≡ x)
    Ends (tree.condition test first second) x y =
        (IsSo test x × Ends first x y) ⊎ (IsNot test x × OtherEnds second x y)
    Ends (tree.anchor kind) x y = AnchorEnds kind x y
    Ends (tree.callout c) x y = y ≡ x
    -- FAIL, and what is not supported
    Ends (tree.verb v) x y = ⊥
    Ends (tree.call n) x y = ⊥
    Ends (tree.ref ns caseless) x y = ⊥
    Ends tree.keep_out x y = ⊥

    -- one after the other
    pub AllEnd : Row → Way
    AllEnd tree.none x y = y ≡ x
    AllEnd (tree.more t ts) x y = (z : Spot) × Ends t x z × AllEnd ts z y

    -- one of them
    pub AnyEnds : Row → Way
    AnyEnds tree.none x y = ⊥
    AnyEnds (tree.more t ts) x y = Ends t x y ⊎ AnyEnds ts x y

    -- one of the branches of a lookbehind
    pub AnyEndsBehind : Row → Way
    AnyEndsBehind tree.none x y = ⊥
    AnyEndsBehind (tree.more t ts) x y =
        TryEnds (branch_lengths g t) (Ends t) x y ⊎ AnyEndsBehind ts x y

    -- the test of a condition: `(R)` is false, since no call is supported, and so is DEFINE
    pub IsSo : Test → Spots
    IsSo (tree.assert true true once ts) x = HasOne (AnyEnds ts x)
    IsSo (tree.assert true false once ts) x = HasNone (AnyEnds ts x)
    IsSo (tree.assert false true once ts) x = HasOne (AnyEndsBehind ts x)
    IsSo (tree.assert false false once ts) x = HasNone (AnyEndsBehind ts x)
    IsSo (tree.called c test) x = IsSo test x
    IsSo tree.never x = ⊥
    IsSo tree.in_call x = ⊥
    -- not supported
    IsSo (tree.any_set ns) x = ⊥
    IsSo (tree.in_call_of ns) x = ⊥

    pub IsNot : Test → Spots
    IsNot (tree.assert true true once ts) x = HasNone (AnyEnds ts x)
    IsNot (tree.assert true false once ts) x = HasOne (AnyEnds ts x)
    IsNot (tree.assert false true once ts) x = HasNone (AnyEndsBehind ts x)
    IsNot (tree.assert false false once ts) x = HasOne (AnyEndsBehind ts x)
    IsNot (tree.called c test) x = IsNot test x
    IsNot tree.never x = Unit {0}
    IsNot tree.in_call x = Unit {0}
    -- not supported
    IsNot (tree.any_set ns) x = ⊥
    IsNot (tree.in_call_of ns) x = ⊥

    pub OtherEnds : Other → Way
    OtherEnds tree.no_other x y = y ≡ x
    OtherEnds (tree.other t) x y = Ends t x y

  -- Reaching the subject's end (pcre2partial, "Partial matching in PCRE2").

  abbrev pub Counts : Spots
  Counts x = IsTrue (nat_lt x.early (length g.subject) || has_lookbehind g || can_be_empty g)

  abbrev pub ItemReaches : Item → Spots
  ItemReaches item x = IsTrue (item_reaches g.scene item x.place) × Counts x

  abbrev pub BreakReaches : Spots
  BreakReaches x = IsTrue (break_reaches g.scene x.place) × Counts x

  abbrev pub AnchorReaches : AnchorKind → Spots
  AnchorReaches kind x = IsTrue (anchor_reaches g.scene kind x.place) × Counts (seen kind x)

  abbrev pub TryReaches : SomeLengths → Spots → Spots
  TryReaches lengths Y x = (p : ℕ) × Among p (tries lengths x.place) × Y (begun p x)

  unfoldable mutual
    -- some test made on the way reaches the subject's end, and it counts
    pub Reaches : Nested → Spots
    Reaches (tree.one item) x = ItemReaches item x
    Reaches tree.line_break x = BreakReaches x
    Reaches (tree.seq ts) x = AllReach ts x
    Reaches (tree.group number ts) x = AnyReaches ts x
    -- before each turn that may be made
    Reaches (tree.repeat body low high lazily) x =
        (n : ℕ) × (z : Spot) × Below high n × Times (Ends body) n x z × Reaches body z
    Reaches (tree.one_repeat item low high lazily) x =
        (n : ℕ) × (z : Spot) × Below high n × Times (ItemEnds item) n x z × ItemReaches item z
    Reaches (tree.atomic ts) x = AnyReaches ts x
    Reaches (tree.look true positive once ts) x = AnyReaches ts x
    Reaches (tree.look false positive once ts) x = AnyReachesBehind ts x
    Reaches (tree.condition test first second) x =
        TestReaches test x ⊎ (IsSo test x × Reaches first x) ⊎
        (IsNot test x × OtherReaches second x)
    Reaches (tree.anchor kind) x = AnchorReaches kind x
    Reaches tree.empty x = ⊥
    Reaches (tree.call n) x = ⊥
    Reaches (tree.ref ns caseless) x = ⊥
    Reaches tree.keep_out x = ⊥
    Reaches (tree.verb v) x = ⊥
    Reaches (tree.callout c) x = ⊥

    pub AllReach : Row → Spots
    AllReach tree.none x = ⊥
    AllReach (tree.more t ts) x = Reaches t x ⊎ HasOne (λ z. Ends t x z × AllReach ts z)

    pub AnyReaches : Row → Spots
    AnyReaches tree.none x = ⊥
    AnyReaches (tree.more t ts) x = Reaches t x ⊎ AnyReaches ts x

    pub AnyReachesBehind : Row → Spots
    AnyReachesBehind tree.none x = ⊥
    AnyReachesBehind (tree.more t ts) x =
        TryReaches (branch_lengths g t) (Reaches t) x ⊎ AnyReachesBehind ts x

    pub TestReaches : Test → Spots
    TestReaches (tree.assert true positive once ts) x = AnyReaches ts x
    TestReaches (tree.assert false positive once ts) x = AnyReachesBehind ts x
    TestReaches (tree.called c test) x = TestReaches test x
    TestReaches tree.never x = ⊥
    TestReaches tree.in_call x = ⊥
    TestReaches (tree.any_set ns) x = ⊥
    TestReaches (tree.in_call_of ns) x = ⊥

    pub OtherReaches : Other → Spots
    OtherReaches tree.no_other x = ⊥
    OtherReaches (tree.other t) x = Reaches t x
