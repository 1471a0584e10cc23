-- How far a text is scanned that is searched by blocks (pcre2grep, "OPTIONS", -M and -m): blocks → those up to where the
-- scan ends.
use Rattle.std.specs.Prelude.{ℕ, ◌+◌, Bool, true, false, nat_le, if◌then◌else◌, List, [], ◌∷◌, length, take, filter}
use Rattle.std.specs.Prelude.{flat_map, Option}
use Rattle.line_feed.specs.Rows.{Row, Finish, row_with}
use Rattle.grep_args.specs.declared.plan.GrepPlan.{GrepPlan}
use Rattle.grep_multi.specs.grep_match.Matches.{Tried, is_selected, has_error}
use Rattle.grep_multi.specs.Blocks.{TriedBlock}
use Rattle.grep_output.specs.Scans.{Ended, at_finish, early, too_many_errors}
use Rattle.grep_core.specs.Turns.{is_full}

abbrev pub first_of : List Row → Row
first_of [] = row_with [] [] 0 0
first_of (row ∷ rows) = row

-- a block counts as one line: its first, with its matches
abbrev pub tried_of : TriedBlock → Tried
tried_of b = record { row = first_of b.lines; matches = b.matches }

abbrev pub lines_in : List TriedBlock → List Row
lines_in bs = flat_map (λ (b : TriedBlock). b.lines) bs

-- the blocks that were tried; those of them that may be shown, and the lines behind these that follow as context; and
-- how the scan ends
pub record BlockScan : Type 0 where
  pub tried : List TriedBlock
  pub within : List TriedBlock
  pub following : List Row
  pub ended : Ended

-- no block is left
abbrev pub scan_done : Ended → BlockScan
scan_done ended = record { tried = []; within = []; following = []; ended = ended }

-- a block, and then these
abbrev pub scan_ahead : TriedBlock → BlockScan → BlockScan
scan_ahead b s = record s { tried = b ∷ s.tried; within = b ∷ s.within }

-- its match error is the last one that there may be: its line and later ones aren't shown
abbrev pub scan_broken : TriedBlock → BlockScan
scan_broken b = record (scan_done too_many_errors) { tried = b ∷ [] }

-- A text is scanned for so many selected blocks at most, of which so many lines follow the last as context, and its lines
-- end so.
module _ (plan : GrepPlan) (most : Option ℕ) (after : ℕ) (finish : Finish) where
  -- it is the last block that may be selected: those of the lines behind it that follow aren't tried
  abbrev pub scan_last : TriedBlock → List Row → BlockScan
  scan_last b rest = record {
    tried = b ∷ [];
    within = b ∷ [];
    following = take after rest;
    ended = if nat_le after (length rest) then early else at_finish finish;
  }

  -- The scan of blocks behind so many match errors of the run and so many selected blocks of the text. The 21st match
  -- error ends it.
  unfoldable pub scan_from : ℕ → ℕ → List TriedBlock → BlockScan
  scan_from errors selected [] = scan_done (at_finish finish)
  scan_from errors selected (b ∷ bs) = elim (has_error (tried_of b)) [
    | true ↦
        elim (nat_le 20 errors) [
          | true ↦ scan_broken b
          | false ↦ scan_ahead b (scan_from (errors + 1) selected bs)
        ]
    | false ↦
        elim (is_selected plan (tried_of b)) [
          | true ↦
              elim (is_full most (selected + 1)) [
                | true ↦ scan_last b (lines_in bs)
                | false ↦ scan_ahead b (scan_from errors (selected + 1) bs)
              ]
          | false ↦ scan_ahead b (scan_from errors selected bs)
        ]
  ]

abbrev pub selected_in : GrepPlan → BlockScan → List TriedBlock
selected_in plan s = filter (λ b. is_selected plan (tried_of b)) s.tried

abbrev pub errors_in : BlockScan → List TriedBlock
errors_in s = filter (λ b. has_error (tried_of b)) s.tried
