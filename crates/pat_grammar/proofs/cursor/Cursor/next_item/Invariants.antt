use Rattle.std.proofs.Common.{◌-◌, length}
use Rattle.pat_grammar.proofs.Items.{Comes}
use Rattle.pat_grammar.proofs.cursor.Cursor.next_item.Given as goal

abbrev pub invariant-items : goal.invariant-items
invariant-items l = Comes l.self l.cursor

abbrev pub decreases-items : goal.decreases-items
decreases-items l = length l.cursor.text.now - l.cursor.place.at
