-- What a shape of a tree is.
use Rattle.std.specs.Prelude.{◌≡◌, ◌≢◌, ℕ, ◌<◌, ◌≤◌, ◌==◌, ◌&&◌, Bool, true, false, if◌then◌else◌, IsTrue, List, []}
use Rattle.std.specs.Prelude.{◌∷◌, length, Option, Some, None, IfSome, slice_index_or}
use Rattle.pat_tree.specs.declared.nodes.Item.{Item}
use Rattle.std.specs.Char.{IsScalar}
use Rattle.pat_tree.specs.declared.nodes.Item.TheVariants.{Char, AnyAll, NotNewline, Class}
use Rattle.pat_tree.specs.declared.nodes.AnchorKind.{AnchorKind}
use Rattle.pat_tree.specs.declared.options.Newline.{Newline}
use Rattle.pat_tree.specs.declared.options.Newline.TheVariants.{Lf}
use Rattle.pat_tree.specs.Parts.{TreeParts}
use Rattle.pat_tree.specs.Nested.{Nested, Other, Test, assert, called, tree_at, trees}
use Rattle.pat_tree.specs.declared.nodes.Verb.{Verb}
use Rattle.pat_tree.specs.declared.nodes.Verb.TheVariants.{Accept, Fail}
use Rattle.uni_text.specs.Ascii.{ascii_fold}
use Rattle.uni_text.specs.Folding.{fold}
use Rattle.char_sets.specs.Sets.{class_has}
use Rattle.match_items.specs.Subjects.{IsTextPlace}
use Rattle.match_items.specs.Items.{after_item, holds}
use Rattle.ordered_search.specs.Stream.{State}
use Rattle.ordered_search.specs.Setting.{Setting}
use Rattle.ordered_search.specs.Run.{level_other, run}
use Rattle.ordered_search.proofs.ForwardStreams.{IsOnWay}
use Rattle.regex_class.specs.Ranges.{in_ranges}
use Rattle.regex_hir.specs.Re.{Re}
use Rattle.regex_hir.specs.Matches.{Matches}
use Rattle.regex_hir.specs.Meaning.{meaning, repeat}
use Rattle.regex_hir.specs.declared.hir.Hir.{Hir}
use Rattle.pat_shape.specs.Searches.{IsSearchOf}
use Rattle.pat_shape.specs.Exact.{IsExact, IsExactItem, IsSolid}
use Rattle.pat_shape.specs.Plain.{are_few, is_plain, is_plain_item, takes_some}
use Rattle.pat_shape.specs.Looks.{SeesLines, TakesNoLf}
use Rattle.pat_shape.specs.Wide.{Only}

-- the item may take the character, in UTF or not, by what the classes hold of
abbrev pub may_take : Bool → (ℕ → ℕ → Bool) → Item → ℕ → Bool
may_take utf has (Char c true) b = if utf then fold c == fold b else ascii_fold c == ascii_fold b
may_take utf has (Char c false) b = c == b
may_take utf has AnyAll b = true
may_take utf has NotNewline b = true
may_take utf has (Class n) b = has n b

-- in a line that ends by LF alone `.` takes any character
abbrev pub is_lf : Newline → Bool
is_lf Lf = true
is_lf _ = false

abbrev pub dots_of : TreeParts → Bool → Bool
dots_of tree lined = lined && is_lf tree.options.newline

abbrev pub shape_at : List (Option Hir) → ℕ → Option Hir
shape_at shapes k = slice_index_or shapes k None

module _ (tree : TreeParts) (lined : Bool) where
  -- wherever a search of t gets from a place, the expression matches up to there
  abbrev pub IsWider : Nested → Re → Type 0
  IsWider t re =
      (g : Setting) → IsSearchOf tree lined g → (d : ℕ) (s : State) → IsOnWay g None s
      → Only (Matches g.subject re s.place) (run g d t s)

  -- what more is known of the shapes of some trees: none of its matches is empty, and outside UTF a search gets
  -- wherever it matches, and in a line it takes no LF
  pub record IsKnown (t : Nested) (re : Re) : Type 0 where
    pub solid : takes_some t ≡ true → IsSolid re
    pub exact : tree.options.utf ≡ false → is_plain (dots_of tree lined) t ≡ true → IsExact tree lined t re
    pub no_lf : tree.options.utf ≡ false → IsTrue lined → is_plain (dots_of tree lined) t ≡ true → TakesNoLf re

  -- and in a text that holds the subject as a line it matches there too
  abbrev pub IsShape : Nested → Re → Type 0
  IsShape t re = SeesLines re × IsWider t re × IsKnown t re

  -- the same of a condition's second branch
  abbrev pub IsOtherShape : Other → Re → Type 0
  IsOtherShape second re = SeesLines re × ((g : Setting) → IsSearchOf tree lined g → (d : ℕ) (s : State)
      → IsOnWay g None s → Only (Matches g.subject re s.place) (level_other g (run g d) second s))

  -- the shapes of trees, one by one
  abbrev pub AreShapes : List Nested → List Re → Type 0
  AreShapes [] [] = Unit {0}
  AreShapes [] (re ∷ res) = ⊥
  AreShapes (t ∷ ts) [] = ⊥
  AreShapes (t ∷ ts) (re ∷ res) = IsShape t re × AreShapes ts res

  -- the ranges hold the characters below 256 that the item may take, and no LF in a line
  abbrev pub HoldsBytes : Item → List (ℕ × ℕ) → Type 0
  HoldsBytes item ranges = (b : ℕ) → b < 256 → (IsTrue lined → b ≢ 10)
      → may_take tree.options.utf (class_has tree) item b ≡ true → in_ranges ranges b ≡ true

  -- and in UTF those past them
  abbrev pub HoldsPast : Item → List (ℕ × ℕ) → Type 0
  HoldsPast item ranges = (c : ℕ) → 256 ≤ c → IsScalar c
      → may_take true (class_has tree) item c ≡ true → in_ranges ranges c ≡ true

  -- and those among the bytes hold no others, and in a line no LF
  abbrev pub HoldsOnly : Item → List (ℕ × ℕ) → Type 0
  HoldsOnly item ranges = (b : ℕ) → b < 256
      → in_ranges ranges b ≡ true
      → (may_take tree.options.utf (class_has tree) item b ≡ true) × (IsTrue lined → b ≢ 10)

  -- the same of one item, and of a simple assertion
  abbrev pub IsWiderItem : Item → Re → Type 0
  IsWiderItem item re = (g : Setting) → IsSearchOf tree lined g → (p q : ℕ)
      → IsTextPlace g.options g.subject p → after_item g.scene item p ≡ Some q → Matches g.subject re p q

  pub record IsItemShape (item : Item) (re : Re) : Type 0 where
    pub sees : SeesLines re
    pub wider : IsWiderItem item re
    pub solid : IsSolid re
    pub exact : tree.options.utf ≡ false → is_plain_item (dots_of tree lined) item ≡ true
        → IsExactItem tree lined item re
    pub no_lf : tree.options.utf ≡ false → IsTrue lined → TakesNoLf re

  abbrev pub IsAnchorShape : AnchorKind → Re → Type 0
  IsAnchorShape kind re = SeesLines re × ((g : Setting) → IsSearchOf tree lined g → (p : ℕ)
      → IsTextPlace g.options g.subject p → holds g.scene kind p ≡ true → Matches g.subject re p p)

  -- the expression matches up to every place from one on
  abbrev pub IsAnyText : Re → Type 0
  IsAnyText re = SeesLines re × ((g : Setting) → IsSearchOf tree lined g → (p q : ℕ)
      → p ≤ q → q ≤ length g.subject → Matches g.subject re p q)

  -- what is kept of the trees is a shape of each
  abbrev pub KeepShapes : List (Option Hir) → Type 0
  KeepShapes shapes =
      (k : ℕ) → k < length shapes
      → IfSome (shape_at shapes k) (λ hir. IsShape (tree_at (trees tree.nodes) k) (meaning hir))

-- no more than a maximum, where there is one
abbrev pub IsUpTo : Option ℕ → ℕ → Type 0
IsUpTo high n = IfSome high (λ most. n ≤ most)

-- as many as between a minimum and a maximum, or also fewer or more
abbrev pub AreRounds : ℕ → Option ℕ → Re → Re → Type 0
AreRounds low high one re =
    (least : ℕ) × ((most : Option ℕ) × ((re ≡ repeat least most true one)
    × ((least ≤ low) × ((n : ℕ) → IsUpTo high n → IsUpTo most n)
    × (are_few low high ≡ true → (least ≡ low) × (most ≡ high)) × (0 < low → 0 < least))))

-- a test of a condition that isn't a lookaround
abbrev pub IsPlainTest : Test → Type 0
IsPlainTest (assert ahead positive once ts) = ⊥
IsPlainTest (called c test) = ⊥
IsPlainTest _ = Unit {0}

-- a verb with which the search goes on
abbrev pub GoesOn : Verb → Type 0
GoesOn (Accept o) = ⊥
GoesOn (Fail o) = ⊥
GoesOn _ = Unit {0}
