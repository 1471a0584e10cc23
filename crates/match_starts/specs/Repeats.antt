-- The repeat of an item that a pattern begins with.
use Rattle.std.specs.Prelude.{◌≡◌, ◌≢◌, ◌<◌, ◌≤◌, ℕ, ℤ, Bool, true, false, All, length, Option, Some, None, ◌⊎◌}
use Rattle.pat_tree.specs.declared.nodes.Item.{Item}
use Rattle.pat_tree.specs.declared.nodes.Item.TheVariants.{Char, AnyAll, NotNewline, Class}
use Rattle.pat_tree.specs.declared.options.PartialMode.TheVariants.{Off}
use Rattle.pat_tree.specs.Nested.{Nested, Row, seq, group, one, one_repeat, none, more}
use Rattle.pat_tree.specs.Parts.{TreeParts, tree_of}
use Rattle.pat_tree.specs.Rules.{class_in}
use Rattle.match_items.specs.declared.view.View.{View}
use Rattle.frame_board.specs.Ready.{setting_for}
use Rattle.ordered_search.specs.Stream.{Block}
use Rattle.ordered_search.specs.Setting.{Setting}
use Rattle.ordered_search.specs.PlaceAnswer.{Exhausted, Failed, answers, place_answer}
use Rattle.match_starts.specs.Asked.{passed_over, replied}
use Rattle.match_starts.specs.declared.repeats.FirstRepeat.{FirstRepeat}

-- the item doesn't take the character, by what the classes hold of
abbrev pub Lacks : (ℕ → ℕ → Bool) → Item → ℕ → Type 0
Lacks has (Class n) c = has n c ≡ false
Lacks has (Char d false) c = d ≢ c
Lacks has (Char d true) c = ⊥
Lacks has AnyAll c = ⊥
Lacks has NotNewline c = ⊥

-- a greedy repeat of the item, so many times at least
abbrev pub IsRepeat : Nested → Item → ℕ → Type 0
IsRepeat t item low = (high : Option ℕ) × (t ≡ one_repeat item low high false)

-- or a group that is one, capturing or not
abbrev pub IsGrouped : Nested → Item → ℕ → Type 0
IsGrouped t item low =
    (number : Option ℕ) × ((inner : Nested) × (IsRepeat inner item low × (t ≡ group number
    (more inner none))))

abbrev pub IsLead : Nested → Item → ℕ → Type 0
IsLead t item low = IsRepeat t item low ⊎ IsGrouped t item low

-- the pattern's only alternative is one, or begins with one, and these parts follow it
abbrev pub BeginsSeq : Nested → Item → ℕ → Row → Type 0
BeginsSeq t item low after = (first : Nested) × (IsLead first item low × (t ≡ seq
    (more first after)))

abbrev pub BeginsPart : Nested → Item → ℕ → Row → Type 0
BeginsPart t item low after = (IsLead t item low × (after ≡ none)) ⊎ BeginsSeq t item low after

-- the first of these parts is the character
abbrev pub Follows : Row → Option ℕ → Type 0
Follows after None = Unit {0}
Follows after (Some c) = (rest : Row) × (after ≡ more (one (Char c false)) rest)

abbrev pub BeginsWith : Nested → FirstRepeat → Type 0
BeginsWith t first =
    (after : Row) × (BeginsPart t first.item first.min after × Follows after first.behind)

-- A pattern that has one alternative, which begins so.
pub record BeginsByRepeat (tree : TreeParts) (first : FirstRepeat) : Type 0 where
  pub start : Nested
  pub whole : tree_of tree ≡ group None (more start none)
  pub begins : BeginsWith start first
  pub class : All (λ n. n < length tree.classes) (class_in first.item)

-- A search of bytes, without partial matching, whose pattern begins so.
pub record IsFirstRepeat (tree : TreeParts) (view : View) (first : FirstRepeat) : Type 0 where
  pub pattern : BeginsByRepeat tree first
  pub open pattern use *
  pub bytes : view.options.now.utf ≡ false
  pub off : view.matching.now.«partial» ≡ Off
  -- for a group, its capture, and a shorter run
  pub room : 3 ≤ view.matching.now.frame_limit

-- all places from one up to another fail, whatever callouts answer
abbrev pub AllFail : Setting → ℕ → ℕ → Type 0
AllFail g p q = (reply : Block → ℤ) (k : ℕ) → p ≤ k → k ≤ q
    → place_answer (replied reply g) k ≡ answers (Failed Exhausted)

-- so do those of this search of bytes, up to a place of the subject
pub record FailsUpTo (tree : TreeParts) (view : View) (p q : ℕ) : Type 0 where
  pub low : p ≤ q
  pub within : q ≤ length view.subject.now
  pub bytes : tree.options.utf ≡ false
  pub fail : AllFail (setting_for tree view passed_over) p q
