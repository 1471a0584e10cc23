-- Shapes that tell of lines.
use Rattle.std.specs.Prelude.{◌≡◌, ℕ, ◌≤◌, true, length}
use Rattle.pat_tree.specs.declared.options.MatchOptions.{MatchOptions}
use Rattle.pat_tree.specs.Parts.{TreeParts, tree_of}
use Rattle.match_items.specs.Subjects.{IsTextPlace}
use Rattle.ordered_search.specs.Setting.{Setting}
use Rattle.ordered_search.specs.PlaceAnswer.{Outcome}
use Rattle.ordered_search.specs.MatchAnswer.{Match, none_found, match_answer}
use Rattle.regex_hir.specs.Re.{Re}
use Rattle.regex_hir.specs.Matches.{Matches}
use Rattle.pat_shape.specs.Looks.{SeesLines, TakesNoLf}
use Rattle.pat_shape.specs.Searches.{IsSearchOf}
use Rattle.pat_shape.specs.Plain.{IsFree, is_plain}
use Rattle.pat_shape.specs.IsShape.{dots_of}

-- a search for the pattern in a subject of at most so many bytes without LF, under these options
pub record IsLineSearch (tree : TreeParts) (matching : MatchOptions) (most : ℕ) (g : Setting)
    : Type 0 where
  pub of : IsSearchOf tree true g
  pub whole : g.whole ≡ tree_of tree
  pub matching_is : g.matching ≡ matching
  pub short : length g.subject ≤ most
  pub begun : IsTextPlace g.options g.subject g.start

-- where the expression matches nothing, such a search finds no match, and passes no limit
abbrev pub IsLineShape : TreeParts → MatchOptions → ℕ → Re → Type 0
IsLineShape tree matching most re =
    SeesLines re × ((g : Setting) → IsLineSearch tree matching most g
    → ((p q : ℕ) → p ≤ length g.subject → ¬ Matches g.subject re p q) → match_answer g ≡ none_found)

-- where the expression matches from a place on, such a search finds a match
abbrev pub IsExactLineShape : TreeParts → MatchOptions → ℕ → Re → Type 0
IsExactLineShape tree matching most re =
    TakesNoLf re × ((g : Setting) → IsLineSearch tree matching most g
    → (p q : ℕ) → g.start ≤ p → p ≤ length g.subject → Matches g.subject re p q
    → (o : Outcome) × ((match_answer g).answer ≡ Match o))

-- a plain tree, under options by which any of its matches counts
abbrev pub IsPlainUnder : TreeParts → MatchOptions → Type 0
IsPlainUnder tree matching = IsFree tree.options matching × (is_plain (dots_of tree true) (tree_of tree) ≡ true)
