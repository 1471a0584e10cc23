use Rattle.std.proofs.Common.{arith, below_more}
use Rattle.std.proofs.lemmas.List.{ext_get_or}
use Rattle.pat_tree.specs.declared.nodes.Part.TheVariants.{Range}
use Rattle.char_sets.proofs.table.have_same_parts.Goals as goal

pub loop-i-preserved : goal.loop-i-preserved
loop-i-preserved c = below_more _ _ c.loop-i.invariant (c.is_same_part.ensures c.if-not-is_same_part.false)

pub returns : goal.returns
returns c told =
    ext_get_or (Range 0 0) c.args.one.now c.args.other.now (omega (arith, c.if-one-other.false))
    (λ k l. c.loop-i.invariant k (omega (arith, l, c.loop-i-test.false, c.if-one-other.false)))
