-- What the text of a run says in a plain case.
use Rattle.std.specs.Prelude.{◌≡◌, ℕ, List, ◌∷◌, Some}
use Rattle.byte_lanes.specs.declared.line_end.EndKind.TheVariants.{Lf}
use Rattle.line_feed.specs.Rows.{Input, At, End, rows}
use Rattle.tool_io.specs.Asked.{Asked}
use Rattle.test_run.specs.TestText.{greatest_line}
use Rattle.test_main.specs.declared.words.TestWords.{TestWords}
use Rattle.test_main.specs.Words.{words_of}
use Rattle.test_main.specs.ToolText.{text_of}

-- The words are accepted, the script is there, it has no fault, and its lines are within the
-- maximum.
pub record IsSound (words : List (List ℕ)) (a : Asked) : Type 0 where
  pub asked : TestWords
  pub accepted : words_of words ≡ Some asked
  pub input : Input
  pub there : a.input ≡ Some input
  pub whole : (rows Lf greatest_line input).finish ≡ At End

-- such a run of pcre2test has status 0
abbrev pub SoundEndWell : Type 0
SoundEndWell =
    (words : List (List ℕ)) (a : Asked) (more : List Asked) → IsSound words a
    → (text_of words (a ∷ more)).status ≡ 0
