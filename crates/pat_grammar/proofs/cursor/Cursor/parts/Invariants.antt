use Rattle.std.proofs.Common.{◌-◌, length}
use Rattle.pat_grammar.proofs.ClassParts.{Reaches}
use Rattle.pat_grammar.proofs.cursor.Cursor.parts.Given as goal

abbrev pub invariant-items : goal.invariant-items
invariant-items l = Reaches l.self l.self.place l.place l.first l.parts

abbrev pub decreases-items : goal.decreases-items
decreases-items l = length l.self.text.now - l.place.at
