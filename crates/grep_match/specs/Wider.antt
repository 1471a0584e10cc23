-- Lines of a text in which no match of an expression begins, or one does (docs/SPEED.md, "A text that every match
-- needs").
use Rattle.std.specs.Prelude.{◌≡◌, ◌≢◌, ℕ, ◌+◌, ◌<◌, ◌≤◌, Bool, List, [], ◌∷◌, ◌++◌, length, slice_index, Ok}
use Rattle.uni_text.specs.Characters.{IsChecked}
use Rattle.regex_hir.specs.Re.{Re}
use Rattle.regex_hir.specs.Matches.{Matches}
use Rattle.regex_hir.specs.Meaning.{meaning}
use Rattle.pat_tree.specs.Pattern.{Pattern}
use Rattle.pat_tree.specs.declared.options.MatchOptions.{MatchOptions}
use Rattle.ordered_search.specs.PlaceAnswer.{Outcome}
use Rattle.pcre2_api.specs.Answers.{found, none, pattern_answer}
use Rattle.pat_shape.specs.Looks.{IsLine}
use Rattle.grep_args.specs.declared.plan.GrepPlan.{GrepPlan}
use Rattle.grep_match.specs.Matches.{matches, first_answer}
use Rattle.grep_match.specs.declared.wider.Wider.{Wider}

-- a line of a text, of at most so many bytes and UTF-8 where it must be, in which no match begins
pub record LacksMatch (re : Re) (most : ℕ) (utf : Bool) (before line after : List ℕ) : Type 0 where
  pub short : length line ≤ most
  pub small : (k : ℕ) → k < length line → slice_index line k < 256
  pub whole : (k : ℕ) → k < length line → slice_index line k ≢ 10
  pub is_line : IsLine before line after
  pub checked : IsChecked utf line
  pub lacks : (i j : ℕ) → length before ≤ i → i ≤ length before + length line
      → ¬ Matches (before ++ (line ++ after)) re i j

-- such a line of at most so many bytes has no match of the pattern
abbrev pub Misses : Pattern → MatchOptions → ℕ → Re → Type 0
Misses p matching most re =
    (before line after : List ℕ)
    → length line ≤ most
    → ((k : ℕ) → k < length line → slice_index line k < 256)
    → ((k : ℕ) → k < length line → slice_index line k ≢ 10)
    → IsLine before line after
    → IsChecked p.options.utf line
    → ((i j : ℕ) → length before ≤ i → i ≤ length before + length line
    → ¬ Matches (before ++ (line ++ after)) re i j)
    → pattern_answer matching line 0 p ≡ none

-- where a match of the expression begins in it, it has one
abbrev pub Finds : Pattern → MatchOptions → ℕ → Re → Type 0
Finds p matching most re =
    (before line after : List ℕ)
    → length line ≤ most
    → ((k : ℕ) → k < length line → slice_index line k < 256)
    → ((k : ℕ) → k < length line → slice_index line k ≢ 10)
    → IsLine before line after
    → IsChecked p.options.utf line
    → (i j : ℕ) → length before ≤ i → i ≤ length before + length line
    → Matches (before ++ (line ++ after)) re i j
    → (o : Outcome) × (pattern_answer matching line 0 p ≡ found o)

-- no pattern matches such a line
abbrev pub NoneMatches : MatchOptions → List Pattern → Wider → Type 0
NoneMatches matching patterns wider =
    (before line after : List ℕ)
    → LacksMatch (meaning wider.hir) wider.most wider.utf before line after
    → first_answer matching line 0 patterns ≡ none

-- such a line has no matches, and no search on it gives an error
abbrev pub IsWiderBy : GrepPlan → List Pattern → Re → ℕ → Bool → Type 0
IsWiderBy plan patterns re most utf =
    (before line after : List ℕ) → LacksMatch re most utf before line after
    → matches plan patterns line ≡ Ok []

abbrev pub AreWider : GrepPlan → List Pattern → Wider → Type 0
AreWider plan patterns wider =
    IsWiderBy plan patterns (meaning wider.hir) wider.most wider.utf

-- such a line in which a match begins
pub record HasMatch (re : Re) (most : ℕ) (utf : Bool) (before line after : List ℕ) : Type 0 where
  pub short : length line ≤ most
  pub small : (k : ℕ) → k < length line → slice_index line k < 256
  pub whole : (k : ℕ) → k < length line → slice_index line k ≢ 10
  pub is_line : IsLine before line after
  pub checked : IsChecked utf line
  pub at : ℕ
  pub to : ℕ
  pub from : length before ≤ at
  pub within : at ≤ length before + length line
  pub matches : Matches (before ++ (line ++ after)) re at to

-- some pattern matches such a line
abbrev pub SomeMatches : MatchOptions → List Pattern → Wider → Type 0
SomeMatches matching patterns wider =
    (before line after : List ℕ)
    → HasMatch (meaning wider.hir) wider.most wider.utf before line after
    → (o : Outcome) × (first_answer matching line 0 patterns ≡ found o)

-- the line has one match that counts, and no search on it gives an error
abbrev pub HasOne : GrepPlan → List Pattern → List ℕ → Type 0
HasOne plan patterns line = (o : Outcome) × (matches plan patterns line ≡ Ok (o ∷ []))

-- such a line has one
abbrev pub IsExactBy : GrepPlan → List Pattern → Re → ℕ → Bool → Type 0
IsExactBy plan patterns re most utf =
    (before line after : List ℕ) → HasMatch re most utf before line after
    → HasOne plan patterns line

abbrev pub AreExact : GrepPlan → List Pattern → Wider → Type 0
AreExact plan patterns wider =
    IsExactBy plan patterns (meaning wider.hir) wider.most wider.utf
