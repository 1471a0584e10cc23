-- Subjects without a text that every match needs (docs/SPEED.md, "A text that every match needs").
use Rattle.std.specs.Prelude.{◌≡◌, ℕ, ◌<◌, ◌≤◌, ℤ, Bool, List, length, slice_index}
use Rattle.pat_needs.specs.Texts.{Stands}
use Rattle.uni_text.specs.Characters.{IsChecked}
use Rattle.pat_tree.specs.declared.options.MatchOptions.{MatchOptions}
use Rattle.pcre_io.specs.declared.callouts.Block.{Block}
use Rattle.pcre2_api.specs.Answers.{none, search_answer}
use Rattle.pcre2_api.specs.Compiled.{CodeParts}
use Rattle.pcre2_api.specs.Matched.{search_of}

-- bytes in which a text, by its sets, stands nowhere
pub record Lacks (text : List (List Bool)) (bytes : List ℕ) : Type 0 where
  pub small : (k : ℕ) → k < length bytes → slice_index bytes k < 256
  pub missing : (k : ℕ) → ¬ Stands text bytes k

-- a search of a subject of at most so many bytes that lacks it, and in UTF is UTF-8, finds no match, and no error
abbrev pub FindsNone : CodeParts → MatchOptions → ℕ → List (List Bool) → Type 0
FindsNone code matching most text = (subject : List ℕ) (answers : Block → ℤ)
    → length subject ≤ most → Lacks text subject → IsChecked code.tree.options.utf subject
    → search_answer (search_of code matching subject 0 answers) ≡ none
