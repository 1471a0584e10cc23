-- Which names are allowed (pcre2grep, "OPTIONS": --include, --exclude, --include-dir and --exclude-dir).
use Rattle.std.specs.Prelude.{◌≡◌, ⊤, ℕ, ◌+◌, nat_lt, Bool, true, false, ◌&&◌, ◌||◌, not, List, [], ◌∷◌, ◌++◌}
use Rattle.std.specs.Prelude.{length, map, Result, Ok, Err}
use Rattle.std.specs.List.{list_any}
use Rattle.pat_tree.specs.declared.options.TheConstants.Options as plain
use Rattle.pat_tree.specs.declared.options.TheConstants.MatchOptions as plain_match
use Rattle.pat_tree.specs.Pattern.{Pattern, pattern_of}
use Rattle.token_parts.specs.declared.fault.Fault.{Fault}
use Rattle.pcre2_api.specs.Compiled.{CodeParts}
use Rattle.pcre2_api.specs.Patterns.{compiled}
use Rattle.pcre2_api.specs.Answers.{Answer, found, pattern_answer}
use Rattle.grep_args.specs.Effects.{◌>>=◌}
use Rattle.grep_args.specs.declared.plan.GrepPlan.{GrepPlan}
use Rattle.grep_args.specs.declared.options.FilterOption.{FilterOption}
use Rattle.grep_args.specs.declared.options.FilterOption.TheVariants.{Include, Exclude, IncludeDir, ExcludeDir}
use Rattle.grep_targets.specs.declared.filters.FilterError.{FilterError}
use Rattle.grep_targets.specs.declared.filters.FilterError.TheVariants as refused

-- the patterns of which one must match, where there are any, and those of which none may match
pub record Choice : Type 0 where
  pub include : List Pattern
  pub exclude : List Pattern

-- the patterns for the names of files, and those for the names of directories
pub record Filter : Type 0 where
  pub files : Choice
  pub directories : Choice

abbrev pub is_found : Answer → Bool
is_found (found o) = true
is_found _ = false

-- A search that gives an error finds nothing, and neither is anything found in a name that is too long to be searched.
abbrev pub is_match : List ℕ → Pattern → Bool
is_match name p = nat_lt (length name) 4294967295 && is_found (pattern_answer plain_match.PLAIN name 0 p)

abbrev pub matches_one : List ℕ → List Pattern → Bool
matches_one name patterns = list_any (is_match name) patterns

abbrev pub no_patterns : List Pattern → Bool
no_patterns [] = true
no_patterns (p ∷ ps) = false

abbrev pub allows : Choice → List ℕ → Bool
allows choice name =
    not (matches_one name choice.exclude)
    && (no_patterns choice.include || matches_one name choice.include)

-- the patterns of compiled ones
abbrev pub patterns_in : List CodeParts → List Pattern
patterns_in codes = map (λ c. pattern_of c.tree) codes

-- a pattern that is refused: its option, its number there, counted from 1, and its fault
pub record BadFilter : Type 0 where
  pub option : FilterOption
  pub index : ℕ
  pub fault : Fault

abbrev pub Compiled : Type 0
Compiled = Result (List Pattern) BadFilter

abbrev pub with_patterns : List Pattern → Compiled → Compiled
with_patterns ps (Ok qs) = Ok (ps ++ qs)
with_patterns ps (Err bad) = Err bad

-- a pattern, or its fault, before others
abbrev pub with_compiled : FilterOption → ℕ → Result Pattern Fault → Compiled → Compiled
with_compiled option n (Ok p) later = with_patterns (p ∷ []) later
with_compiled option n (Err fault) later = Err (record { option = option; index = n; fault = fault })

-- the patterns of an option from the n-th on, with default options, or the first one that is refused
abbrev pub compiled_from : FilterOption → ℕ → List (List ℕ) → Compiled
compiled_from option n [] = Ok []
compiled_from option n (text ∷ texts) =
    with_compiled option n (compiled plain.PLAIN text) (compiled_from option (n + 1) texts)

-- the patterns of the four options, compiled
pub record FilterCodes : Type 0 where
  pub include : List CodeParts
  pub exclude : List CodeParts
  pub include_dir : List CodeParts
  pub exclude_dir : List CodeParts

abbrev pub choice_of : List Pattern → List Pattern → Choice
choice_of include exclude = record { include = include; exclude = exclude }

abbrev pub filter_in : FilterCodes → Filter
filter_in codes = record {
  files = choice_of (patterns_in codes.include) (patterns_in codes.exclude);
  directories = choice_of (patterns_in codes.include_dir) (patterns_in codes.exclude_dir);
}

-- the filter of a plan, or the first pattern that is refused
abbrev pub filter_of : GrepPlan → Result Filter BadFilter
filter_of plan =
    compiled_from Include 1 plan.include
    >>= λ include. compiled_from Exclude 1 plan.exclude
    >>= λ exclude. compiled_from IncludeDir 1 plan.include_dir
    >>= λ include_dir. compiled_from ExcludeDir 1 plan.exclude_dir
    >>= λ exclude_dir. Ok (record {
      files = choice_of include exclude;
      directories = choice_of include_dir exclude_dir;
    })

-- what a refusal tells; want of memory may come at any time
abbrev pub IsFilterError : {A : Type 0} → Result A BadFilter → FilterError → Type 0
IsFilterError made (refused.Bad option index number at) =
    made ≡ Err (record { option = option; index = index; fault = record { number = number; at = at } })
IsFilterError made refused.Memory = ⊤
