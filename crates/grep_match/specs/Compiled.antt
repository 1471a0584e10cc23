-- Patterns as they are searched for, and the first one that is refused.
use Rattle.std.specs.Prelude.{◌≡◌, ℕ, ◌+◌, List, [], ◌∷◌, ◌++◌, length, map, Result, Ok, Err}
use Rattle.std.specs.List.{All}
use Rattle.pat_tree.specs.declared.options.Options.{Options}
use Rattle.token_parts.specs.declared.fault.Fault.{Fault}
use Rattle.grep_args.specs.declared.plan.GrepPlan.{GrepPlan}
use Rattle.grep_match.specs.declared.patterns.Kept.{Kept}
use Rattle.grep_match.specs.declared.patterns.Kept.TheVariants.{Code, Text}
use Rattle.grep_match.specs.declared.patterns.PatternError.{PatternError}
use Rattle.grep_match.specs.declared.patterns.PatternError.TheVariants as refused
use Rattle.grep_match.specs.PatternTexts.{pattern_texts, options_of}
use Rattle.grep_match.specs.Spelt.{spelling, IsSpelling}
use Rattle.pat_tree.specs.Pattern.{Pattern, pattern_of}
use Rattle.pcre2_api.specs.Patterns.{compiled}

-- what a pattern is, as it is kept
abbrev pub pattern_in : Options → Kept → Pattern
pattern_in options (Code code) = pattern_of code.value.tree
pattern_in options (Text text) = spelling options text.items

abbrev pub meant : Options → List Kept → List Pattern
meant options kept = map (pattern_in options) kept

-- what is kept as a text may be
abbrev pub IsKept : Options → Kept → Type 0
IsKept options (Code code) = Unit {0}
IsKept options (Text text) = IsSpelling options text.items

abbrev pub AreKept : Options → List Kept → Type 0
AreKept options kept = All (IsKept options) kept

-- patterns as they are kept, under these options
pub record Keeping : Type 0 where
  pub options : Options
  pub kept : List Kept

abbrev pub patterns_in : Keeping → List Pattern
patterns_in keeping = meant keeping.options keeping.kept

-- a pattern that is refused: its number, counted from 1, and its fault
pub record BadPattern : Type 0 where
  pub number : ℕ
  pub fault : Fault

abbrev pub Compiled : Type 0
Compiled = Result (List Pattern) BadPattern

abbrev pub with_pattern : Pattern → Compiled → Compiled
with_pattern p (Ok ps) = Ok (p ∷ ps)
with_pattern p (Err bad) = Err bad

-- the patterns from the n-th on, or the first one that is refused
abbrev pub compiled_from : Options → ℕ → List (List ℕ) → Compiled
compiled_from options n [] = Ok []
compiled_from options n (text ∷ texts) = elim (compiled options text) [
  | Ok p ↦ with_pattern p (compiled_from options (n + 1) texts)
  | Err fault ↦ Err (record { number = n; fault = fault })
]

-- The patterns of a plan, where the texts are the patterns that it has and then those of its pattern files.
abbrev pub patterns_of : GrepPlan → List (List ℕ) → Compiled
patterns_of plan texts = compiled_from (options_of plan) 1 (pattern_texts plan texts)

-- what a refusal tells; want of memory may come at any time
abbrev pub IsPatternError : Compiled → PatternError → Type 0
IsPatternError found (refused.Bad pattern number at) =
    found ≡ Err (record { number = pattern; fault = record { number = number; at = at } })
IsPatternError found refused.Memory = Unit {0}

-- What compiling these texts adds to the patterns that there are: the patterns of all, or the first that is refused is
-- told.
abbrev pub Adds : {A : Type 0} → Options → List (List ℕ) → List Pattern → List Pattern
    → Result A PatternError → Type 0
Adds options texts old new (Ok _) =
    (more : List Pattern) × (new ≡ old ++ more) ×
    (compiled_from options (length old + 1) texts ≡ Ok more)
Adds options texts old new (Err e) = IsPatternError (compiled_from options (length old + 1) texts) e
