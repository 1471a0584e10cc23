-- What callouts show, and what is made of their answers.
use Rattle.std.specs.Prelude.{◌≡◌, ℕ, ℤ, Bool, true, false, List, ◌++◌, map, Option, Some, None}
use Rattle.pcre_io.specs.declared.callouts.Block.{Block}
use Rattle.pcre_io.specs.Called.{SeenGrows}
use Rattle.ordered_search.specs.Stream as search
use Rattle.ordered_search.specs.Stream.{by_halt, abort}
use Rattle.ordered_search.specs.Setting.{Setting}
use Rattle.ordered_search.specs.Moves.{Moves, stops}
use Rattle.ordered_search.specs.Paths.{answered}
use Rattle.pat_tree.specs.Nested.{Callout}
use Rattle.frame_state.specs.declared.machine.Spot.{Spot}
use Rattle.frame_state.specs.declared.machine.Stop.{Stop}
use Rattle.frame_state.specs.declared.machine.Stop.TheVariants as stop
use Rattle.frame_state.specs.Machine.{mark_of}

-- a callout's block as it is shown
abbrev pub shown_as : search.Block → Block
shown_as b = record {
  number = b.number;
  text_from = b.text_from;
  text_to = b.text_to;
  pattern_at = b.pattern_at;
  item_len = b.item_len;
  start = b.start;
  current = b.current;
  mark = b.mark;
}

-- a callout of a pattern
abbrev pub callout_at : ℕ → ℕ → ℕ → ℕ → ℕ → Callout
callout_at number from to at len = record {
  number = number;
  text_from = from;
  text_to = to;
  item_at = at;
  item_len = len;
}

-- what it shows where the path stands
abbrev pub block_at : Callout → Spot → search.Block
block_at c spot = record {
  number = c.number;
  text_from = c.text_from;
  text_to = c.text_to;
  pattern_at = c.item_at;
  item_len = c.item_len;
  start = spot.keep;
  current = spot.place;
  mark = mark_of spot.mark;
}

-- what was shown after these blocks too, where it is told
abbrev pub seen_after : Option (List Block) → List search.Block → Option (List Block)
seen_after None blocks = None
seen_after (Some seen) blocks = Some (seen ++ map shown_as blocks)

-- the callouts of a search are answered so
abbrev pub IsReplied : Setting → (Block → ℤ) → Type 0
IsReplied g answers = (b : search.Block) → g.reply b ≡ answers (shown_as b)

-- an answer lets the path go on, or fail here
abbrev pub IsFollowed : ℤ → Bool → Type 0
IsFollowed n true = (x f : Moves) → answered n x f ≡ x
IsFollowed n false = (x f : Moves) → answered n x f ≡ f

-- why a callout stops the machine: by its answer, or for want of memory before it was shown
abbrev pub IsCallStop : Stop → ℤ → Option (List Block) → Option (List Block) → Block → Type 0
IsCallStop (stop.Abort n) answer old new block =
    ((x f : Moves) → answered answer x f ≡ stops (by_halt (abort n))) × SeenGrows old new block
IsCallStop stop.Memory answer old new block = new ≡ old
IsCallStop _ answer old new block = ⊥
