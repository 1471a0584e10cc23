-- What stands fixed while a subject is searched.
use Rattle.std.specs.Prelude.{ℕ, Bool, true, false, List}
use Rattle.pat_tree.specs.declared.options.Options.{Options}
use Rattle.pat_tree.specs.declared.options.MatchOptions.{MatchOptions}
use Rattle.pat_tree.specs.declared.options.Newline.{Newline}
use Rattle.pat_tree.specs.declared.options.Newline.TheVariants as newline

pub record Scene : Type 0 where
  -- the pattern's options, and the match's
  pub options : Options
  pub matching : MatchOptions
  pub subject : List ℕ
  -- the start that was given to the call
  pub start : ℕ
  -- the class of this number holds of a character
  pub class_has : ℕ → ℕ → Bool
  -- a character's simple folding in UTF, and whether it is a word character under UCP
  pub fold : ℕ → ℕ
  pub is_word : ℕ → Bool

abbrev pub is_crlf : Newline → Bool
is_crlf newline.CrLf = true
is_crlf _ = false
