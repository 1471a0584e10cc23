-- Lines in which the shape of a compiled pattern matches nothing.
use Rattle.std.specs.Prelude.{◌≡◌, ◌≢◌, ℕ, ◌+◌, ◌<◌, ◌≤◌, ℤ, List, ◌++◌, length, slice_index}
use Rattle.uni_text.specs.Characters.{IsChecked}
use Rattle.pat_tree.specs.declared.options.MatchOptions.{MatchOptions}
use Rattle.pcre_io.specs.declared.callouts.Block.{Block}
use Rattle.regex_hir.specs.Re.{Re}
use Rattle.regex_hir.specs.Matches.{Matches}
use Rattle.pat_shape.specs.Looks.{IsLine}
use Rattle.ordered_search.specs.PlaceAnswer.{Outcome}
use Rattle.pcre2_api.specs.Answers.{found, none, search_answer}
use Rattle.pcre2_api.specs.Compiled.{CodeParts}
use Rattle.pcre2_api.specs.Matched.{search_of}

-- Where no match of the expression begins in a line of a text, of at most so many bytes and without LF, a search of the
-- line, which in UTF is UTF-8, finds no match, and no error.
abbrev pub MissesLines : CodeParts → MatchOptions → ℕ → Re → Type 0
MissesLines code matching most re =
    (before line after : List ℕ) (answers : Block → ℤ)
    → length line ≤ most
    → ((k : ℕ) → k < length line → slice_index line k < 256)
    → ((k : ℕ) → k < length line → slice_index line k ≢ 10)
    → IsLine before line after
    → IsChecked code.tree.options.utf line
    → ((i j : ℕ) → length before ≤ i → i ≤ length before + length line
    → ¬ Matches (before ++ (line ++ after)) re i j)
    → search_answer (search_of code matching line 0 answers) ≡ none

-- Where a match of it begins in such a line, a search of the line finds one.
abbrev pub FindsLines : CodeParts → MatchOptions → ℕ → Re → Type 0
FindsLines code matching most re =
    (before line after : List ℕ) (answers : Block → ℤ)
    → length line ≤ most
    → ((k : ℕ) → k < length line → slice_index line k < 256)
    → ((k : ℕ) → k < length line → slice_index line k ≢ 10)
    → IsLine before line after
    → IsChecked code.tree.options.utf line
    → (i j : ℕ) → length before ≤ i → i ≤ length before + length line
    → Matches (before ++ (line ++ after)) re i j
    → (o : Outcome) × (search_answer (search_of code matching line 0 answers) ≡ found o)
