-- Fixed strings whose bytes stand for themselves (pcre2grep, "OPTIONS", -F; pcre2pattern, "Backslash").
use Rattle.std.specs.Prelude.{◌≡◌, ℕ, ◌≤◌, Bool, List, [], ◌∷◌, length, map, None}
use Rattle.memchr.specs.Find.{OccursAt}
use Rattle.pat_tree.specs.declared.options.Newline.{Newline}
use Rattle.pat_tree.specs.declared.options.Options.{Options}
use Rattle.pat_tree.specs.declared.options.TheConstants.Options as plain
use Rattle.pat_tree.specs.Nested.{group, row}
use Rattle.pat_tree.specs.Pattern.{Pattern}
use Rattle.pat_grammar.specs.Reading.{spelt}
use Rattle.pat_grammar.specs.Parts.{alternative}
use Rattle.grep_args.specs.declared.plan.GrepPlan.{GrepPlan}
use Rattle.grep_match.specs.PatternTexts.{wrapped, options_of}

-- the options by which a byte is a character, and in one case
abbrev pub bytewise : Bool → Newline → Options
bytewise lines newline = record plain.PLAIN { newline = newline; multiline = lines; firstline = lines }

-- the bytes of a text one after the other
abbrev pub spelling : Options → List ℕ → Pattern
spelling options text = record {
  options = options;
  tree = group None (row (alternative (map (spelt options) text) ∷ []));
  groups = 0;
  classes = [];
  verb_names = [];
}

-- By such options a text of at most so many bytes, each with its backslash, is read so.
pub record IsSpelling (options : Options) (text : List ℕ) : Type 0 where
  pub lines : Bool
  pub newline : Newline
  pub bytes : options ≡ bytewise lines newline
  pub short : length text ≤ 32768

-- the plan takes it so, alone
pub record IsSpelt (plan : GrepPlan) (text : List ℕ) : Type 0 where
  pub spelling : IsSpelling (options_of plan) text
  pub alone : (whole : List ℕ) → wrapped plan whole ≡ whole

-- it stands nowhere in a line from a start on
abbrev pub StandsNowhere : List ℕ → List ℕ → ℕ → Type 0
StandsNowhere text line start = (k : ℕ) → start ≤ k → ¬ OccursAt line text k
