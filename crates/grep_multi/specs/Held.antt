-- An input that is held whole (pcre2grep, "OPTIONS", -M): what the source told → the input → the bytes that are held.
use Rattle.std.specs.Prelude.{◌≡◌, ◌≢◌, ℕ, ◌≤◌, ◌<◌, Bool, true, false, List, ◌++◌, length, flat_map, ⊤, Result, Ok, Err}
use Rattle.std.specs.Io.KnownBytes.{Consumes}
use Rattle.pcre_io.specs.Told.{Told}
use Rattle.pcre_io.specs.Causes.{Rose}
use Rattle.byte_lanes.specs.declared.line_end.EndKind.{EndKind}
use Rattle.line_feed.specs.Rows.{Row, Input, Ending, End, Fault, Limit, input_with, rows}
use Rattle.line_feed.specs.Hears.{Hears}
use Rattle.grep_multi.specs.declared.held.Held.{Held}
use Rattle.grep_multi.specs.declared.held.HoldError.{HoldError}
use Rattle.grep_multi.specs.declared.held.HoldError.TheVariants.{TooLarge, Memory}

-- the most bytes of an input that is held
abbrev pub greatest : ℕ
greatest = 16777216

-- the bytes of lines, with their newlines
abbrev pub bytes_of : List Row → List ℕ
bytes_of lines = flat_map (λ (line : Row). line.bytes ++ line.newline) lines

-- the lines of bytes that end so, however long
abbrev pub lines_of : EndKind → List ℕ → Ending → List Row
lines_of kind bytes ending = (rows kind (length bytes) (input_with bytes ending)).rows

-- What is held of an input: its bytes, and before a read that fails its whole lines.
abbrev pub held_by : EndKind → List ℕ → Ending → List ℕ
held_by kind bytes End = bytes
held_by kind bytes Fault = bytes_of (lines_of kind bytes Fault)
held_by kind bytes Limit = bytes

abbrev pub is_fault : Ending → Bool
is_fault End = false
is_fault Fault = true
is_fault Limit = false

-- the input isn't too large, and is held
pub record Holds (kind : EndKind) (input : Input) (held : Held) : Type 0 where
  pub few : length input.bytes ≤ greatest
  pub short : length held.text ≤ greatest
  pub text : held.text ≡ held_by kind input.bytes input.ending
  pub faulted : held.faulted ≡ is_fault input.ending
  pub whole : input.ending ≢ Limit

-- Only want of memory may come in place of the answer that the input has.
abbrev pub HoldsTo : EndKind → Input → Result Held HoldError → Type 0
HoldsTo kind input (Ok held) = Holds kind input held
HoldsTo kind input (Err TooLarge) = greatest < length input.bytes
HoldsTo kind input (Err Memory) = ⊤

-- the faults that were counted meanwhile: one where a read failed, and none else
abbrev pub CountsFault : Bool → ℕ → ℕ → Type 0
CountsFault true before after = Rose before after
CountsFault false before after = after ≡ before

abbrev pub Counts : Told → Told → Result Held HoldError → Type 0
Counts before after (Ok held) = CountsFault held.faulted before.faults after.faults
Counts before after (Err e) = after.faults ≡ before.faults

-- no more than the input was taken, where it is held
abbrev pub IsGone : ℕ → ℕ → Result Held HoldError → Type 0
IsGone taken size (Ok held) = taken ≤ size
IsGone taken size (Err e) = ⊤

-- The input that a source stood for is held, or is refused; at most 16,842,752 bytes were taken.
pub record HoldsInput (kind : EndKind) (before after : Told) (result : Result Held HoldError)
    : Type 0 where
  pub input : Input
  pub hears : Hears before after input
  pub holds : HoldsTo kind input result
  pub counts : Counts before after result
  pub taken : (bytes : List ℕ) × Consumes before.left after.left bytes × (length bytes ≤ 16842752)
      × IsGone (length bytes) (length input.bytes) result
