-- What the slots of a table keep.
use Rattle.std.specs.Prelude.{◌≡◌, ℕ, ◌+◌, ◌*◌, ◌/◌, ◌%◌, ◌^◌, true, false, cond, List, Option, Some, None, length}
use Rattle.std.specs.Prelude.{get_or}
use Rattle.std.specs.List.{filter_map}
use Rattle.frame_memo.specs.declared.failure.Key.{Key}
use Rattle.frame_memo.specs.declared.failure.Failure.{Failure}
use Rattle.frame_memo.specs.declared.slots.Slot.{Slot}

abbrev pub blank : Slot
blank = record { place = 0; bits = 0; site = 0; steps = 0; most = 0; is_used = false }

abbrev pub key_of : Slot → Key
key_of s = record { place = s.place; bits = s.bits; site = s.site }

abbrev pub failure_of : Slot → Failure
failure_of s = record { key = key_of s; cost = record { steps = s.steps; most = s.most } }

abbrev pub failure_in : Slot → Option Failure
failure_in s = cond s.is_used (Some (failure_of s)) None

abbrev pub kept : List Slot → List Failure
kept slots = filter_map failure_in slots

-- the set of a key, among so many
unfoldable pub home : Key → ℕ → ℕ
home k sets =
    let site : ℕ = k.site * 0x9e3779b97f4a7c15 % 2 ^ 64 in
    let bits : ℕ = k.bits * 0xc2b2ae3d27d4eb4f % 2 ^ 64 in
    let mixed : ℕ = ((k.place + site) % 2 ^ 64 + bits) % 2 ^ 64 in
    mixed * 0xd6e8feb86659fd93 % 2 ^ 64 / 2 ^ 32 * sets / 2 ^ 32

-- A failure in slot i stands in the set of its key, each of four slots.
abbrev pub IsAtHome : List Slot → ℕ → Type 0
IsAtHome slots i =
    (get_or slots i blank).is_used ≡ true → home (key_of (get_or slots i blank)) (length slots / 4) ≡ i / 4

abbrev pub AreAtHome : List Slot → Type 0
AreAtHome slots = (i : ℕ) → IsAtHome slots i
