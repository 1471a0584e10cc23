-- The matches of a line (pcre2grep, "DESCRIPTION" and "OPTIONS", -e, -o and -v).
use Rattle.std.specs.Prelude.{ℕ, zero, suc, ◌+◌, Bool, true, false, ◌&&◌, not, List, [], ◌∷◌, length, ℤ, Result, Ok}
use Rattle.std.specs.Prelude.{Err}
use Rattle.pat_tree.specs.declared.options.MatchOptions.{MatchOptions}
use Rattle.pat_tree.specs.declared.options.TheConstants.MatchOptions as plain_match
use Rattle.ordered_search.specs.PlaceAnswer.{Outcome}
use Rattle.grep_args.specs.declared.plan.GrepPlan.{GrepPlan}
use Rattle.line_feed.specs.Rows.{Row}
use Rattle.pat_tree.specs.Pattern.{Pattern}
use Rattle.grep_match.specs.Modes.{mode, is_parts}
use Rattle.pcre2_api.specs.Answers.{Answer, found, none, error, pattern_answer}

-- the patterns are tried in order, and the first that doesn't answer that there is no match ends the trying
abbrev pub first_answer : MatchOptions → List ℕ → ℕ → List Pattern → Answer
first_answer matching line start [] = none
first_answer matching line start (p ∷ ps) = elim (pattern_answer matching line start p) [
  | none ↦ first_answer matching line start ps
  | other ↦ other
]

-- the matches of a line in order, none where it doesn't match; or the first match error, which ends the search on it
abbrev pub Matches : Type 0
Matches = Result (List Outcome) ℤ

abbrev pub with_match : Outcome → Matches → Matches
with_match o (Ok os) = Ok (o ∷ os)
with_match o (Err e) = Err e

-- the limits of the plan
abbrev pub limits : GrepPlan → MatchOptions
limits plan =
    record plain_match.PLAIN { match_limit = plan.match_limit; frame_limit = plan.frame_limit }

abbrev pub not_empty : MatchOptions → MatchOptions
not_empty matching = record matching { notempty = true }

-- `-o` and offsets show every match of a line, unless `-v` is given
abbrev pub shows_each : GrepPlan → Bool
shows_each plan = is_parts (mode plan) && not plan.invert_match

module _ (plan : GrepPlan) (patterns : List Pattern) (line : List ℕ) where
  -- The later matches: each is tried from the end of the one before and isn't empty, so there are no more of them than
  -- bytes. The number bounds how often it is tried.
  unfoldable pub later : ℕ → ℕ → Matches
  later zero start = Ok []
  later (suc n) start = elim (first_answer (not_empty (limits plan)) line start patterns) [
    | none ↦ Ok []
    | error e ↦ Err e
    | found o ↦ with_match o (later n o.to)
  ]

  unfoldable pub matches : Matches
  matches = elim (first_answer (limits plan) line 0 patterns) [
    | none ↦ Ok []
    | error e ↦ Err e
    | found o ↦ elim (shows_each plan) [
      | true ↦ with_match o (later (length line + 1) o.to)
      | false ↦ Ok (o ∷ [])
    ]
  ]

-- a line with its matches
pub record Tried : Type 0 where
  pub row : Row
  pub matches : Matches

abbrev pub tried_row : GrepPlan → List Pattern → Row → Tried
tried_row plan patterns row = record { row = row; matches = matches plan patterns row.bytes }

-- A line is selected where it matches, reversed by `-v`, and no search on it gave an error.
abbrev pub selects : Bool → Matches → Bool
selects invert (Ok []) = invert
selects invert (Ok (o ∷ os)) = not invert
selects invert (Err e) = false

abbrev pub is_selected : GrepPlan → Tried → Bool
is_selected plan t = selects plan.invert_match t.matches

abbrev pub has_error : Tried → Bool
has_error t = elim t.matches [ Ok os ↦ false | Err e ↦ true ]
