-- Blocks of lines (pcre2grep, "OPTIONS", -M): text → lines → the lines that a match takes, with its matches; a line
-- with a match error; or a line in which no match begins.
use Rattle.std.specs.Prelude.{ℕ, zero, suc, ◌+◌, max, Bool, true, false, ◌&&◌, not, nat_lt, nat_le, List, [], ◌∷◌}
use Rattle.std.specs.Prelude.{length, map, if◌then◌else◌, Option, Some, None, Ok, Err}
use Rattle.std.specs.Str.{is_utf8}
use Rattle.std.specs.Str.Lossy.{utf8_valid_len}
use Rattle.ordered_search.specs.PlaceAnswer.{Outcome}
use Rattle.line_feed.specs.Rows.{Row, End}
use Rattle.grep_args.specs.declared.plan.GrepPlan.{GrepPlan}
use Rattle.grep_args.specs.Effects.{is_empty}
use Rattle.pat_tree.specs.Pattern.{Pattern}
use Rattle.pcre2_errors.specs.MatchErrors.{minus}
use Rattle.grep_match.specs.pcre2_api.Answers.{found, none, error}
use Rattle.grep_match.specs.PatternTexts.{line_end}
use Rattle.grep_match.specs.Matches.{Matches, first_answer, limits, not_empty, shows_each, with_match}
use Rattle.grep_multi.specs.Held.{lines_of}

-- lines that were tried together, with the matches that begin in the first of them or follow those
pub record TriedBlock : Type 0 where
  pub lines : List Row
  pub matches : Matches

abbrev pub tried_block : List Row → Matches → TriedBlock
tried_block lines matches = record { lines = lines; matches = matches }

-- the place just behind a line and its newline
abbrev pub end_of : Row → ℕ
end_of line = line.offset + (length line.bytes + length line.newline)

-- the lines that begin before a place, of lines in order
abbrev pub lines_before : ℕ → List Row → List Row
lines_before place [] = []
lines_before place (line ∷ lines) =
    if nat_lt line.offset place then line ∷ lines_before place lines else []

abbrev pub last_line : Row → List Row → Row
last_line line [] = line
last_line line (next ∷ lines) = last_line next lines

-- whether a place is past the newline of a line
abbrev pub is_past : ℕ → Row → Bool
is_past place line = not (is_empty line.newline) && nat_le (end_of line) place

-- where the last match ends
abbrev pub last_end : Outcome → List Outcome → ℕ
last_end o [] = o.to
last_end o (next ∷ os) = max o.to (last_end next os)

-- where the matches end, 0 where there is none
abbrev pub matches_end : Matches → ℕ
matches_end (Ok []) = 0
matches_end (Ok (o ∷ os)) = last_end o os
matches_end (Err e) = 0

-- a line, with the lines behind it that its matches take
abbrev pub taken_with : Row → List Row → Matches → TriedBlock
taken_with line lines matches =
    tried_block (line ∷ lines_before (matches_end matches) lines) matches

module _ (plan : GrepPlan) (patterns : List Pattern) (text : List ℕ) where
  -- The later matches of a block of this line and of those behind it up to where it ends: each is tried from the end of
  -- the one before and isn't empty, unless that is past the newline of the block's last line. The block grows by what
  -- they take. The number bounds how often it is tried.
  unfoldable pub later_in : Row → List Row → ℕ → ℕ → ℕ → Matches
  later_in line lines zero end start = Ok []
  later_in line lines (suc n) end start =
      elim (is_past start (last_line line (lines_before end lines))) [
        | true ↦ Ok []
        | false ↦ elim (first_answer (not_empty (limits plan)) text start patterns) [
          | none ↦ Ok []
          | error e ↦ Err e
          | found o ↦ with_match o (later_in line lines n (max end o.to) o.to)
        ]
      ]

  -- the matches of a block that begins with this one
  abbrev pub matches_with : Row → List Row → Outcome → Matches
  matches_with line lines o = elim (shows_each plan) [
    | true ↦ with_match o (later_in line lines (length text + 1) o.to o.to)
    | false ↦ Ok (o ∷ [])
  ]

  -- the matches that a line begins, behind which these follow
  unfoldable pub matches_at : Row → List Row → Matches
  matches_at line lines = elim (first_answer (limits plan) text line.offset patterns) [
    | none ↦ Ok []
    | error e ↦ Err e
    | found o ↦ matches_with line lines o
  ]

  -- Lines are tried in order, but for those that begin before a place: the block before has taken them.
  unfoldable pub blocks_from : ℕ → List Row → List TriedBlock
  blocks_from place [] = []
  blocks_from place (line ∷ lines) =
      if nat_lt line.offset place then blocks_from place lines
      else taken_with line lines (matches_at line lines)
      ∷ blocks_from (matches_end (matches_at line lines)) lines

-- whether a line holds the byte at a place
abbrev pub holds : ℕ → Row → Bool
holds place line = nat_le line.offset place && nat_lt place (end_of line)

-- A text that isn't UTF-8, where it must be, isn't searched: its error is that of the line with its first bad byte.
abbrev pub unsearched : ℕ → Row → TriedBlock
unsearched place line =
    tried_block (line ∷ []) (if holds place line then Err (minus 3) else Ok [])

-- where the first byte is that isn't UTF-8, in a text that must be
abbrev pub first_bad : GrepPlan → List ℕ → Option ℕ
first_bad plan text =
    if plan.utf && not (is_utf8 text) then Some (utf8_valid_len text) else None

-- The blocks of these lines of a text, and the lines between them.
abbrev pub blocks_in : GrepPlan → List Pattern → List ℕ → List Row → List TriedBlock
blocks_in plan patterns text lines = elim (first_bad plan text) [
  | None ↦ blocks_from plan patterns text 0 lines
  | Some place ↦ map (unsearched place) lines
]

abbrev pub blocks : GrepPlan → List Pattern → List ℕ → List TriedBlock
blocks plan patterns text =
    blocks_in plan patterns text (lines_of (line_end plan) text End)
