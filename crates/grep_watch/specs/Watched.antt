-- Lines that are passed over without a search.
use Rattle.std.specs.Prelude.{◌≡◌, ◌≢◌, ℕ, ◌+◌, ◌-◌, ◌<◌, ◌≤◌, Bool, List, [], ◌∷◌, ◌++◌, length, take, drop}
use Rattle.std.specs.Prelude.{slice_index, None, Some, Ok, ⊤}
use Rattle.std.specs.List.{All}
use Rattle.byte_lanes.specs.declared.line_end.EndKind.{EndKind}
use Rattle.byte_lanes.specs.declared.line_end.EndKind.TheVariants.{Cr, Lf, CrLf, AnyCrLf, Any, AnyUtf, Nul}
use Rattle.uni_text.specs.Characters.{IsChecked}
use Rattle.pat_needs.specs.Texts.{sets_of, Stands}
use Rattle.pat_tree.specs.Pattern.{Pattern}
use Rattle.pcre_io.specs.Told.{Told}
use Rattle.line_feed.specs.Rows.{Row}
use Rattle.line_feed.specs.View.{Feed}
use Rattle.line_feed.specs.Passes.{GivesAll, HasRun}
use Rattle.line_feed.specs.declared.look.Run.{Run}
use Rattle.grep_args.specs.declared.plan.GrepPlan.{GrepPlan}
use Rattle.grep_match.specs.declared.unsearched.Needed.{Needed}
use Rattle.grep_match.specs.Needed.{AreNeeded}
use Rattle.grep_match.specs.Matches.{matches}
use Rattle.grep_watch.specs.declared.watch.Watch.{Watch}

-- the text, by its sets, stands nowhere in the first n bytes
pub record IsQuiet (text : List (List Bool)) (bytes : List ℕ) (n : ℕ) : Type 0 where
  pub within : n ≤ length bytes
  pub lacks : (k : ℕ) → k + length text ≤ n → ¬ Stands text bytes k

-- kinds whose newlines are of ASCII: at either end of one a character begins
abbrev pub HasAsciiNewlines : EndKind → Type 0
HasAsciiNewlines Any = ⊥
HasAsciiNewlines AnyUtf = ⊥
HasAsciiNewlines Cr = ⊤
HasAsciiNewlines Lf = ⊤
HasAsciiNewlines CrLf = ⊤
HasAsciiNewlines AnyCrLf = ⊤
HasAsciiNewlines Nul = ⊤

-- a text whose last byte is ASCII: a character begins behind it
abbrev pub EndsInAscii : List ℕ → Type 0
EndsInAscii text = (0 < length text) × (slice_index text (length text - 1) < 128)

-- a text whose last byte, where it has one, is an LF
abbrev pub EndsInLf : List ℕ → Type 0
EndsInLf text = (k : ℕ) → k + 1 ≡ length text → slice_index text k ≡ 10

-- of the lines whose LF is among the first n bytes, those of at most so many bytes have no match
pub record AreClear (plan : GrepPlan) (patterns : List Pattern) (longest : ℕ) (held : List ℕ) (n : ℕ)
    : Type 0 where
  pub within : n ≤ length held - 1
  pub none : (before line behind : List ℕ) → held ≡ before ++ (line ++ (10 ∷ behind)) → EndsInLf before
      → ((k : ℕ) → k < length line → slice_index line k ≢ 10)
      → length before + length line < n → length line ≤ longest → matches plan patterns line ≡ Ok []

-- so many bytes are known to be quiet
abbrev pub with_quiet : Watch → ℕ → Watch
with_quiet w n = record w { quiet = n }

-- The needed text is that of the patterns, and what is known holds of the bytes that a feed holds: where a text is
-- needed, that it doesn't stand in the quiet bytes; else that lines in them have no match.
pub record Watches (plan : GrepPlan) (patterns : List Pattern) (w : Watch) (held : List ℕ)
    : Type 0 where
  pub needed : (some : Needed) → w.needed ≡ Some some → AreNeeded plan patterns some
  pub quiet : (some : Needed) → w.needed ≡ Some some → IsQuiet (sets_of some.text) held w.quiet
  pub valid : (some : Needed) → w.needed ≡ Some some → IsChecked some.utf (take w.quiet held)
  pub clear : w.needed ≡ None → AreClear plan patterns w.longest held w.quiet

-- rows without a match were given one after the other, and nothing was read
pub record PassesOver (plan : GrepPlan) (patterns : List Pattern) (w : Watch) (f g : Feed)
    : Type 0 where
  pub within : ℕ
  pub longest : ℕ
  pub rows : List Row
  pub gives : (now : Told) → GivesAll now within longest f g rows
  pub none : All (λ (row : Row). matches plan patterns row.bytes ≡ Ok []) rows
  pub watches : Watches plan patterns w g.held

-- the bytes held begin with whole rows without a match, and what is known is known behind them
pub record HasQuietRun (plan : GrepPlan) (patterns : List Pattern) (w : Watch) (f : Feed) (run : Run)
    : Type 0 where
  pub within : ℕ
  pub longest : ℕ
  pub has : HasRun f within longest run
  pub held : run.bytes ≤ length f.held
  pub none : All (λ (row : Row). matches plan patterns row.bytes ≡ Ok []) has.passes.rows
  pub watches : Watches plan patterns (with_quiet w (w.quiet - run.bytes)) (drop run.bytes f.held)

-- rows that are given of so many first bytes held have no match, and behind them what is known is known
pub record ReachesQuiet (plan : GrepPlan) (patterns : List Pattern) (w : Watch) (f : Feed) (within : ℕ)
    : Type 0 where
  pub held : within ≤ length f.held
  pub over : (g : Feed) (rows : List Row) (bytes : ℕ)
      → ((now : Told) → GivesAll now within within f g rows) → g.offset ≡ f.offset + bytes
      → All (λ (row : Row). matches plan patterns row.bytes ≡ Ok []) rows
      × Watches plan patterns (with_quiet w (w.quiet - bytes)) g.held
