use Rattle.std.proofs.Common.{◌<◌, length, get_or, ◌∙◌, arith}
use Rattle.std.proofs.Math.ListN.{length-set}
use Rattle.node_flow.proofs.Places.{few, place_step}
use Rattle.node_flow.proofs.ranks.places.Goals as goal

pub overflow_cast-rank : goal.overflow_cast-rank
overflow_cast-rank c = omega (
  arith,
  few c.args.order.now c.args.count c.requires.once c.requires.below,
  c.requires.few,
  c.loop-rank-test.true,
)

pub loop-rank-preserved : goal.loop-rank-preserved
loop-rank-preserved c =
    let part = get_or c.args.order.now c.loop-rank.rank 0 in
    let small : part < c.args.count = c.requires.below c.loop-rank.rank 0 c.loop-rank-test.true in
    let room : part < length c.loop-rank.ranks.items = omega (arith, small, c.loop-rank.invariant.size) in
    record {
      size = length-set c.loop-rank.ranks.items part c.loop-rank.rank ∙ c.loop-rank.invariant.size;
      each = place_step c.loop-rank.ranks.items c.args.order.now c.loop-rank.rank c.requires.once
          c.loop-rank-test.true room c.loop-rank.invariant.each;
    }
