use Rattle.std.proofs.Common.{◌-◌, length}
use Rattle.pat_grammar.proofs.Spots.{Passes}
use Rattle.pat_grammar.proofs.cursor.Cursor.item.Given as goal

abbrev pub invariant-passing : goal.invariant-passing
invariant-passing l = Passes l.self l.fn.in_class l.fn.place l.here

abbrev pub decreases-passing : goal.decreases-passing
decreases-passing l = length l.self.text.now - l.here.at
