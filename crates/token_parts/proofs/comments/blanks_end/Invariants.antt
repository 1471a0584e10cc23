use Rattle.std.proofs.Common.{◌≡◌, ◌≤◌, ◌-◌, length}
use Rattle.token_parts.specs.Comments.{skip, blank_end, blanks_end}
use Rattle.token_parts.proofs.comments.blanks_end.Given as goal

abbrev pub invariant-loop-turn : goal.invariant-loop-turn
invariant-loop-turn l =
    (l.from ≤ l.i) × (l.i ≤ length l.text) × (skip (blank_end l.text l.flags) (length l.text - l._turn)
    l.i ≡ blanks_end l.text l.flags l.from)
