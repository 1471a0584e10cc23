use Rattle.std.proofs.Common.{◌≡◌, ◌≤◌, ◌-◌, length}
use Rattle.token_parts.specs.Comments.{skip}
use Rattle.pat_lex.specs.Classes.{ignored_end, all_ignored_end}
use Rattle.pat_lex.proofs.classes.all_ignored_end.Given as goal

abbrev pub invariant-loop-turn : goal.invariant-loop-turn
invariant-loop-turn l =
    (l.from ≤ l.i) × (l.i ≤ length l.text) × (skip (ignored_end l.text l.flags) (length l.text - l._turn)
    l.i ≡ all_ignored_end l.text l.flags l.from)
