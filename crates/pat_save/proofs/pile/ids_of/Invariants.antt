use Rattle.std.proofs.Common.{◌≡◌, take}
use Rattle.pat_save.specs.Pile.{ids_of}
use Rattle.pat_save.proofs.pile.ids_of.Given as goal

abbrev pub invariant-loop-loose : goal.invariant-loop-loose
invariant-loop-loose l = l.kids.items ≡ ids_of (take l.loose-index l.parts)
