-- Where a write to the output is refused: lines → what is written of the first of them → the line at which it was
-- refused → how much past it was taken.
use Rattle.std.specs.Prelude.{◌≡◌, ℕ, ◌≤◌, ◌<◌, Bool, true, false, List, ◌++◌, length, take, Some, Result, Ok, Err, ⊤}
use Rattle.std.specs.Io.KnownBytes.{Appends}
use Rattle.pcre_io.specs.Told.{Told, Kept}
use Rattle.line_feed.specs.Rows.{Row, At, End, rows_with}
use Rattle.grep_args.specs.declared.plan.GrepPlan.{GrepPlan}
use Rattle.pat_tree.specs.Pattern.{Pattern}
use Rattle.grep_output.specs.declared.ended.Stop.{Stop}
use Rattle.grep_output.specs.declared.ended.Stop.TheVariants.{SinkFault, TooManyErrors, Memory}
use Rattle.grep_output.specs.declared.shows.Treatment.{Treatment}
use Rattle.grep_output.specs.declared.state.State.{State}
use Rattle.grep_match.specs.declared.modes.Mode.{Mode}
use Rattle.grep_match.specs.declared.modes.Mode.TheVariants.{NamesWithout, Counts}
use Rattle.grep_match.specs.Modes.{mode}
use Rattle.grep_output.specs.InputText.{text_of_rows}
use Rattle.grep_output.specs.LittlePast.{TakesLittlePast}

-- where a write was refused
abbrev pub WhereRefused : {T : Type 0} → Result T Stop → Type 0 → Type 0
WhereRefused (Ok _) fact = ⊤
WhereRefused (Err SinkFault) fact = fact
WhereRefused (Err TooManyErrors) fact = ⊤
WhereRefused (Err Memory) fact = ⊤

-- a sink grew by a text that begins so
abbrev pub GrewBy : List ℕ → Kept → Kept → Type 0
GrewBy text old new = (more : List ℕ) × Appends old.held new.held (text ++ more)

-- a sink that tells what it holds grew by this text
pub record GrewTo (old new : Kept) (written : List ℕ) : Type 0 where
  pub held : List ℕ
  pub had : old.held ≡ Some held
  pub has : new.held ≡ Some (held ++ written)

-- what these modes tell is known after the last line alone
abbrev pub needs_all : Mode → Bool
needs_all NamesWithout = true
needs_all Counts = true
needs_all _ = false

module _ (plan : GrepPlan) (patterns : List Pattern) (name : List ℕ) (s : State)
    (treated : Treatment) (rows : List Row) where
  -- what is written of the first n lines: lines or parts of them, a name, or that a binary file matches
  abbrev pub text_to : ℕ → List ℕ
  text_to n =
      (text_of_rows plan patterns name s treated (rows_with (take n rows) (At End))).out

  -- line n is the first for which what is written of the lines up to it is longer than what was written
  pub record IsCut (written : List ℕ) (n : ℕ) : Type 0 where
    pub longer : length written < length (text_to n)
    pub first : (m : ℕ) → m < n → length (text_to m) ≤ length written

  -- at most 65,536 bytes past that line were taken
  abbrev pub RefusesSoon : Told → Told → Kept → Kept → Type 0
  RefusesSoon before after old new =
      needs_all (mode plan) ≡ false → (written : List ℕ) (n : ℕ) → GrewTo old new written
      → IsCut written n → TakesLittlePast (take n rows) before after
