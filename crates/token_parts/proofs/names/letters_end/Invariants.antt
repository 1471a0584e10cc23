use Rattle.std.proofs.Common.{◌≡◌, ◌≤◌, ◌-◌, length, true}
use Rattle.token_parts.specs.Comments.{skip}
use Rattle.token_parts.specs.Names.{letter_end, word_end}
use Rattle.token_parts.proofs.names.letters_end.Given as goal

abbrev pub invariant-loop-turn : goal.invariant-loop-turn
invariant-loop-turn l =
    (l.from ≤ l.i) × (l.i ≤ length l.text) × (skip (letter_end l.text) (length l.text - l._turn) l.i ≡ word_end l.text
    true l.from)
