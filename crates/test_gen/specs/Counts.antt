-- What patterns come to over all lines: pattern → each line's answer → numbers.
use Rattle.std.specs.Prelude.{◌≡◌, ⊤, ℕ, ◌-◌, is_some, unwrap_or, List, [], length, Option, Some, None, Result, Ok}
use Rattle.std.specs.Prelude.{Err, true, false}
use Rattle.std.specs.List.{sum_by, count_by}
use Rattle.std.specs.Option.{option_map}
use Rattle.token_parts.specs.declared.fault.Fault.{Fault}
use Rattle.pat_tree.specs.Pattern.{Pattern, pattern_of}
use Rattle.pat_tree.specs.declared.names.NameEntry.{NameEntry}
use Rattle.pat_tree.specs.declared.options.TheConstants.Options as plain
use Rattle.pat_tree.specs.declared.options.TheConstants.MatchOptions as plain_match
use Rattle.pat_build.specs.Reading.{Parsed, read}
use Rattle.ordered_search.specs.Setting.{Setting}
use Rattle.dfa_ends.specs.DfaAnswer.{DfaAnswer, EndsFrom, dfa_answer}
use Rattle.dfa_graph.specs.Served.{refusal}
use Rattle.pcre2_api.specs.Compiled.{CodeParts}
use Rattle.pcre2_api.specs.Matched.{fault_in}
use Rattle.pcre2_api.specs.Patterns.{setting, compiled}
use Rattle.pcre2_api.specs.Walks.{Answer, found, answer_at}
use Rattle.pcre2_api.specs.Substituted.{substituted}
use Rattle.pcre2_api.specs.declared.substitute.SubstOptions.{SubstOptions}
use Rattle.pcre2_api.specs.declared.substitute.Substituted.{Substituted}
use Rattle.pcre2_errors.specs.declared.subst_error.SubstError.{SubstError}
use Rattle.test_gen.specs.Generated.{lines}

-- Patterns, without options. One that is refused finds nothing.

abbrev pub accepted : {A : Type 0} → Result A Fault → Option A
accepted (Ok a) = Some a
accepted (Err fault) = None

unfoldable pub pattern : List ℕ → Option Pattern
pattern text = accepted (compiled plain.PLAIN text)

abbrev pub names_in : Result Parsed Fault → List NameEntry
names_in (Ok parsed) = parsed.names
names_in (Err fault) = []

-- the names of its groups
unfoldable pub names : List ℕ → List NameEntry
names text = names_in (read plain.PLAIN text)

abbrev pub pattern_in : Option CodeParts → Option Pattern
pattern_in code = option_map (λ (c : CodeParts). pattern_of c.tree) code

-- what is compiled has these names
abbrev pub IsNamed : Option CodeParts → List NameEntry → Type 0
IsNamed None names = ⊤
IsNamed (Some code) names = code.tree.names ≡ names

-- The first match of a line.

abbrev pub length_of : Answer → Option ℕ
length_of (found o) = Some (o.to - o.keep)
length_of _ = None

-- how many characters it has, if there is one
abbrev pub first_length : Option Pattern → List ℕ → Option ℕ
first_length None line = None
first_length (Some p) line = length_of (answer_at p plain_match.PLAIN line 0)

abbrev pub lines_matched : Option Pattern → ℕ → ℕ
lines_matched p n = count_by (λ line. is_some (first_length p line)) (lines n)

abbrev pub characters : Option Pattern → ℕ → ℕ
characters p n = sum_by (λ line. unwrap_or (first_length p line) 0) (lines n)

-- All ends at the first place of a line that has any.

abbrev pub count_of : DfaAnswer → ℕ
count_of (EndsFrom start ends) = length ends
count_of _ = 0

-- where the search can begin and isn't refused
unfoldable pub count_in : Setting → ℕ
count_in g = elim (fault_in g) [
  | Some e ↦ 0
  | None ↦ elim (refusal g.whole) [
    | Some e ↦ 0
    | None ↦ count_of (dfa_answer g g.matching.dfa_shortest)
  ]
]

abbrev pub ends_in : Option Pattern → List ℕ → ℕ
ends_in None line = 0
ends_in (Some p) line = count_in (setting p plain_match.PLAIN line 0)

abbrev pub all_ends : Option Pattern → ℕ → ℕ
all_ends p n = sum_by (ends_in p) (lines n)

-- The replacements of a line.

abbrev pub replaced_in : Result Substituted SubstError → ℕ
replaced_in (Ok s) = s.count
replaced_in (Err e) = 0

abbrev pub everywhere : SubstOptions
everywhere = record {
  global = true;
  extended = false;
  literal = false;
  unset_empty = false;
  unknown_unset = false;
  replacement_only = false;
}

abbrev pub replacements_in : Option Pattern → List NameEntry → List ℕ → List ℕ → ℕ
replacements_in None names replacement line = 0
replacements_in (Some p) names replacement line =
    replaced_in (substituted p names plain_match.PLAIN everywhere line 0 replacement)

abbrev pub replacements : Option Pattern → List NameEntry → List ℕ → ℕ → ℕ
replacements p names replacement n = sum_by (replacements_in p names replacement) (lines n)
