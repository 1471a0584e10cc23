-- What a contract sees of the registers: the capture groups and what they have captured (pcre2pattern, "Groups").
use Rattle.std.specs.Prelude.{ℕ, ◌-◌, ◌<◌, ◌≤◌, ◌==◌, if◌then◌else◌, List, Option, None, length, slice_index_or}
use Rattle.std.specs.Prelude.{slice_set}
use Rattle.frame_store.specs.declared.registers.Span.{Span}

-- the text that each group has captured, if any; groups are numbered from 1, and group n stands at n - 1
abbrev pub Captures : Type 0
Captures = List (Option Span)

-- there is a group n
abbrev pub HasGroup : Captures → ℕ → Type 0
HasGroup caps n = (0 < n) × (n ≤ length caps)

-- the text that group n has captured
abbrev pub capture : Captures → ℕ → Option Span
capture caps n = slice_index_or caps (n - 1) None

-- the same for any number: 0 and those past the groups name none
abbrev pub capture_if_any : Captures → ℕ → Option Span
capture_if_any caps n = if n == 0 then None else capture caps n

-- the captures where group n has captured this, and all others what they had
abbrev pub with_capture : Captures → ℕ → Option Span → Captures
with_capture caps n value = slice_set caps (n - 1) value
