use Rattle.std.proofs.Common.{◌≡◌, ℕ, ◌<◌, get_or}
use Rattle.pat_tree.specs.declared.nodes.Part.TheVariants.{Range}
use Rattle.char_sets.proofs.table.have_same_parts.Given as goal

abbrev pub invariant-loop-i : goal.invariant-loop-i
invariant-loop-i l = (k : ℕ) → k < l.i → get_or l.one k (Range 0 0) ≡ get_or l.other k (Range 0 0)
