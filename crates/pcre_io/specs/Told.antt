-- What a source tells of its fault place, and what a sink tells of what it holds and takes.
use Rattle.std.specs.Prelude.{◌≡◌, ℕ, ◌-◌, ◌≤◌, ◌<◌, List, ◌++◌, take, ⊤, None, Some, Ok, Err, IfOk, MatchResult}
use Rattle.std.specs.Prelude.{Option, Result}
use Rattle.pcre_io.specs.declared.traits.IoError.{IoError}
use Rattle.pcre_io.specs.declared.traits.IoError.TheVariants.{Failed, Memory}

-- what a source tells: the bytes that it has left, after how many further ones every read fails, and its faults
pub record Told : Type 0 where
  pub left : Option (List ℕ)
  pub stop : Option (Option ℕ)
  pub faults : ℕ

-- what a sink tells: the bytes that it holds, after how many further ones every write fails, the most that one write
-- takes, and its faults
pub record Kept : Type 0 where
  pub held : Option (List ℕ)
  pub room : Option (Option ℕ)
  pub piece : Option ℕ
  pub faults : ℕ

-- A told fault place is the number of bytes after which every read fails, or that none does.
-- It falls by the n bytes that a read into this room took, and isn't reached, unless there was no room.
abbrev pub StopFalls : Option (Option ℕ) → Option (Option ℕ) → ℕ → ℕ → Type 0
StopFalls None new n room = ⊤
StopFalls (Some None) new n room = new ≡ Some None
StopFalls (Some (Some k)) new n room = (n ≤ k) × (new ≡ Some (Some (k - n))) × (k ≡ 0 → room ≡ 0)

-- It is reached, where a read into this room failed.
abbrev pub StopReached : Option (Option ℕ) → Option (Option ℕ) → ℕ → Type 0
StopReached None new room = ⊤
StopReached (Some None) new room = ⊥
StopReached (Some (Some k)) new room = (new ≡ Some (Some k)) × (0 < room → k ≡ 0)

abbrev pub StopsAt : {E : Type 0} → Option (Option ℕ) → Option (Option ℕ) → Result ℕ E → ℕ → Type 0
StopsAt old new result room = MatchResult result (λ n. StopFalls old new n room) (λ _. StopReached old new room)

-- The room of a sink is the same for a write of so many bytes. Want of memory leaves it.
abbrev pub LeavesRoom : Option (Option ℕ) → Option (Option ℕ) → Result ℕ IoError → ℕ → Type 0
LeavesRoom old new (Ok n) length = StopFalls old new n length
LeavesRoom old new (Err Failed) length = StopReached old new length
LeavesRoom old new (Err Memory) length = new ≡ old

-- so many bytes are at most a told piece
abbrev pub IsInPiece : Option ℕ → ℕ → Type 0
IsInPiece None n = ⊤
IsInPiece (Some most) n = n ≤ most

-- a write took at most a piece, and the piece stays
abbrev pub TakesPiece : Option ℕ → Option ℕ → Result ℕ IoError → Type 0
TakesPiece old new result = (new ≡ old) × IfOk result (IsInPiece old)

-- known bytes grow by a prefix of these
abbrev pub AppendsPrefix : Option (List ℕ) → Option (List ℕ) → List ℕ → Type 0
AppendsPrefix None new bytes = ⊤
AppendsPrefix (Some xs) None bytes = ⊥
AppendsPrefix (Some xs) (Some ys) bytes = (n : ℕ) × (ys ≡ xs ++ take n bytes)
