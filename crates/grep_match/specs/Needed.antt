-- Lines without a text that every match needs (docs/SPEED.md, "A text that every match needs").
use Rattle.std.specs.Prelude.{◌≡◌, ℕ, ◌≤◌, List, [], length, Ok}
use Rattle.uni_text.specs.Characters.{IsChecked}
use Rattle.pat_tree.specs.Pattern.{Pattern}
use Rattle.pat_tree.specs.declared.options.MatchOptions.{MatchOptions}
use Rattle.grep_args.specs.declared.plan.GrepPlan.{GrepPlan}
use Rattle.pcre2_api.specs.Answers.{none}
use Rattle.pat_needs.specs.Texts.{sets_of}
use Rattle.pcre2_api.specs.Needed.{Lacks}
use Rattle.grep_match.specs.Matches.{matches, first_answer}
use Rattle.grep_match.specs.declared.unsearched.Needed.{Needed}

-- a line of at most so many bytes that lacks the needed text, and is UTF-8 where it must be
pub record IsWithout (needed : Needed) (line : List ℕ) : Type 0 where
  pub short : length line ≤ needed.most
  pub lacks : Lacks (sets_of needed.text) line
  pub checked : IsChecked needed.utf line

-- no pattern matches such a line
abbrev pub NoneAnswers : MatchOptions → List Pattern → Needed → Type 0
NoneAnswers matching patterns needed =
    (line : List ℕ) → IsWithout needed line → first_answer matching line 0 patterns ≡ none

-- such a line has no matches, and no search on it gives an error
abbrev pub AreNeeded : GrepPlan → List Pattern → Needed → Type 0
AreNeeded plan patterns needed =
    (line : List ℕ) → IsWithout needed line → matches plan patterns line ≡ Ok []
