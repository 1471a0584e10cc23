use Rattle.std.proofs.Common.{◌≡◌, ℕ, ◌<◌, ◌≤◌, ◌≢◌, true, get_or}
use Rattle.frame_memo.specs.Slots.{blank, key_of}
use Rattle.frame_memo.proofs.slots.find.Given as goal

abbrev pub invariant-ways : goal.invariant-ways
invariant-ways l =
    (k : ℕ) → l.base ≤ k → k < l.i → (get_or l.slots k blank).is_used ≡ true → key_of (get_or l.slots k blank) ≢ l.key
