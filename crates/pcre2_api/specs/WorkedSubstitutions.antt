-- Worked rows of substitutions: subjects, and what they become.
use Rattle.std.specs.Prelude.{◌≡◌, ℕ, true, false, [], codes, Some, None, Result, Ok, Err}
use Prim.Native.String.{String}
use Rattle.pat_tree.specs.declared.options.TheConstants.Options as plain
use Rattle.pat_tree.specs.declared.options.TheConstants.MatchOptions as plain_match
use Rattle.pat_tree.specs.declared.nodes.Item.TheVariants.{Char}
use Rattle.pat_tree.specs.Nested.{Row, seq, group, repeat, one_repeat, none}
use Rattle.pat_tree.specs.Pattern.{Pattern}
use Rattle.ordered_search.specs.Written.{◌&◌, text}
use Rattle.pcre2_api.specs.declared.substitute.SubstOptions.{SubstOptions}
use Rattle.pcre2_api.specs.declared.substitute.TheConstants.SubstOptions as plain_subst
use Rattle.pcre2_api.specs.declared.substitute.Substituted.{Substituted}
use Rattle.pcre2_errors.specs.declared.subst_error.SubstError.{SubstError}
use Rattle.pcre2_errors.specs.declared.subst_error.SubstError.TheVariants.{BadReplacement, MissingBrace, NoGroup, Unset}
use Rattle.pcre2_api.specs.Substituted.{substituted}

-- these top alternatives with so many groups
abbrev pub pattern : ℕ → Row → Pattern
pattern groups ts = record {
  options = plain.PLAIN;
  tree = group None ts;
  groups = groups;
  classes = [];
  verb_names = [];
}

abbrev pub replacing : Pattern → SubstOptions → String → String → Result Substituted SubstError
replacing p how replacement subject =
    substituted p [] plain_match.PLAIN how (codes subject) 0 (codes replacement)

abbrev pub gives : ℕ → String → Result Substituted SubstError
gives count text = Ok (record { text = codes text; count = count })

abbrev pub all : SubstOptions
all = record plain_subst.PLAIN { global = true }

-- `b`, `x*`, `(a)|(b)`, `(a)(x)?`
abbrev pub letter : Pattern
letter = pattern 0 (text "b" & none)

abbrev pub maybe_letters : Pattern
maybe_letters = pattern 0 (one_repeat (Char 120 false) 0 None false & none)

abbrev pub either : Pattern
either = pattern 2 (group (Some 1) (text "a" & none) & group (Some 2) (text "b" & none) & none)

abbrev pub maybe_second : Pattern
maybe_second =
    pattern 2 (seq (group (Some 1) (text "a" & none) & repeat (group (Some 2) (text "x" & none)) 0 (Some 1) false &
    none) & none)

pub record WorkedRows : Type 0 where
  pub first : replacing letter plain_subst.PLAIN "<$0>" "abcb" ≡ gives 1 "a<b>cb"
  pub all_matches : replacing letter all "<$0>" "abcb" ≡ gives 2 "a<b>c<b>"
  pub replacements_alone : replacing letter (record all { replacement_only = true }) "x" "abcb" ≡ gives 2 "xx"
  pub empty_matches : replacing maybe_letters all "-" "abc" ≡ gives 4 "-a-b-c-"
  pub between_matches : replacing maybe_letters all "-" "abxd" ≡ gives 5 "-a-b--d-"
  pub no_match : replacing letter all "-" "ac" ≡ gives 0 "ac"
  pub unset : replacing either plain_subst.PLAIN "$2" "a" ≡ Err Unset
  pub later_unset : replacing either all "$1" "ab" ≡ Err Unset
  pub default : replacing maybe_second (record plain_subst.PLAIN { extended = true }) "\\u$1${2:-none}" "abc" ≡ gives
      1 "Anonebc"
  pub dollar : replacing letter all "$" "abc" ≡ Err BadReplacement
  pub brace : replacing letter plain_subst.PLAIN "${1" "abc" ≡ Err MissingBrace
  pub no_group : replacing letter plain_subst.PLAIN "$1" "abc" ≡ Err NoGroup
