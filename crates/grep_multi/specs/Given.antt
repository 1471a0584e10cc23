-- What is known of a text at the begin of a line, behind lines, and behind a block.
use Rattle.std.specs.Prelude.{◌≡◌, ℕ, ◌+◌, ◌≤◌, ◌<◌, not, List, ◌∷◌, ◌++◌, length, drop}
use Rattle.byte_lanes.specs.declared.line_end.EndKind.{EndKind}
use Rattle.line_feed.specs.Rows.{Row, End, rows_from}
use Rattle.line_feed.specs.Lines.{row_of}
use Rattle.line_feed.specs.declared.feed.Line.{Line}
use Rattle.grep_args.specs.declared.plan.GrepPlan.{GrepPlan}
use Rattle.grep_args.specs.Effects.{is_empty}
use Rattle.pat_tree.specs.Pattern.{Pattern}
use Rattle.grep_match.specs.Found.{Listed, IsVerdict}
use Rattle.grep_match.specs.Matches.{Matches}
use Rattle.grep_match.specs.PatternTexts.{line_end}
use Rattle.grep_multi.specs.declared.cut.LineStart.{LineStart}
use Rattle.grep_multi.specs.declared.cut.Reach.{Reach}
use Rattle.grep_multi.specs.declared.blocks.Block.{Block}
use Rattle.grep_multi.specs.declared.blocks.Search.{Search}
use Rattle.grep_multi.specs.Blocks.{TriedBlock, blocks_in, end_of, first_bad, lines_before, last_line}
use Rattle.grep_multi.specs.Blocks.{matches_end}

-- the lines of a text from the begin of one on
abbrev pub lines_at : EndKind → List ℕ → LineStart → List Row
lines_at kind text place =
    (rows_from kind (length text) (place.lines + 1) place.at (drop place.at text) End).rows

-- lines reach so far: the last one ends there
pub record EndsAt (line : Row) (reach : Reach) : Type 0 where
  pub at : end_of line ≡ reach.behind.at
  pub newline : reach.has_newline ≡ not (is_empty line.newline)

-- the line at a place was cut
pub record Cuts (kind : EndKind) (text : List ℕ) (from : LineStart) (reach : Reach) : Type 0 where
  pub line : Row
  pub lines : lines_at kind text from ≡ line ∷ lines_at kind text reach.behind
  pub offset : line.offset ≡ from.at
  pub number : line.number ≡ from.lines + 1
  pub ends : EndsAt line reach
  pub many : reach.behind.lines ≡ from.lines + 1
  pub some : from.at < reach.behind.at
  pub within : reach.behind.at ≤ length text

-- where the line behind one begins that begins at a place
abbrev pub past : LineStart → Line → LineStart
past from line =
    record { at = from.at + (length line.bytes.now + length line.end.now); lines = from.lines + 1 }

-- this is the line at a place
pub record IsLine (kind : EndKind) (text : List ℕ) (from : LineStart) (line : Line) : Type 0 where
  pub lines : lines_at kind text from ≡ row_of line ∷ lines_at kind text (past from line)
  pub offset : line.offset ≡ from.at
  pub number : line.number ≡ from.lines + 1
  pub some : 0 < length line.bytes.now + length line.end.now
  pub within : from.at + (length line.bytes.now + length line.end.now) ≤ length text

-- lines reach at least as far as others, and no further than the text
pub record IsBehind (text : List ℕ) (old new : Reach) : Type 0 where
  pub later : old.behind.at ≤ new.behind.at
  pub within : new.behind.at ≤ length text
  pub few : new.behind.lines ≤ new.behind.at

-- the lines behind others that begin before a place were cut
pub record Extends (kind : EndKind) (text : List ℕ) (to : ℕ) (old new : Reach) : Type 0 where
  pub lines : lines_at kind text old.behind
      ≡ lines_before to (lines_at kind text old.behind) ++ lines_at kind text new.behind
  pub ends : (line : Row) → EndsAt line old
      → EndsAt (last_line line (lines_before to (lines_at kind text old.behind))) new
  pub many : new.behind.lines
      ≡ old.behind.lines + length (lines_before to (lines_at kind text old.behind))
  pub far : to ≤ new.behind.at
  pub behind : IsBehind text old new

-- a line and those of the lines behind it that begin before a place reach so far
pub record Reaches (kind : EndKind) (text : List ℕ) (line : Row) (lines : List Row) (end : ℕ)
    (reach : Reach) : Type 0 where
  pub all : lines ≡ lines_before end lines ++ lines_at kind text reach.behind
  pub ends : EndsAt (last_line line (lines_before end lines)) reach
  pub many : reach.behind.lines ≡ line.number + length (lines_before end lines)
  pub far : end ≤ reach.behind.at

-- the lines that these matches take reach so far, and the list has the matches
pub record IsTaken (kind : EndKind) (wanted text : List ℕ) (line : Row) (lines : List Row)
    (m : Matches) (list : Listed) (block : Block) : Type 0 where
  pub found : IsVerdict wanted (length text) list block.verdict m
  pub reaches : Reaches kind text line lines (matches_end m) block.reach

-- what a search is made for
pub record IsSearch (search : Search) : Type 0 where
  pub kind : search.kind ≡ line_end search.plan.now
  pub bad : search.bad ≡ first_bad search.plan.now search.text.now
  pub short : length search.text.now < 4294967295

-- The next block was found, or the next line, in which no match begins; the list has its matches.
pub record Gives (kind : EndKind) (plan : GrepPlan) (patterns : List Pattern) (text : List ℕ)
    (from : LineStart) (list : Listed) (block : Block) : Type 0 where
  pub tried : TriedBlock
  pub blocks : blocks_in plan patterns text (lines_at kind text from)
      ≡ tried ∷ blocks_in plan patterns text (lines_at kind text block.reach.behind)
  pub lines : lines_at kind text from ≡ tried.lines ++ lines_at kind text block.reach.behind
  pub many : block.reach.behind.lines ≡ from.lines + length tried.lines
  pub found : IsVerdict plan.only_matching (length text) list block.verdict tried.matches
  pub some : from.at < block.reach.behind.at
  pub within : block.reach.behind.at ≤ length text
  pub few : block.reach.behind.lines ≤ block.reach.behind.at
