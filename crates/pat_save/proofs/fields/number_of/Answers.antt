use Rattle.std.proofs.Common.{arith}
use Rattle.pat_save.proofs.Numbers.{fits_twice, bit_at_most}
use Rattle.pat_save.proofs.fields.number_of.Goals as goal

pub overflow_mul-number : goal.overflow_mul-number
overflow_mul-number c =
    omega (
      arith,
      fits_twice c.args.flags.now c.loop-i.i c.loop-i.number c.requires c.loop-i-test.true c.loop-i.invariant.1,
    )

pub overflow_add-number : goal.overflow_add-number
overflow_add-number c =
    omega (
      arith,
      fits_twice c.args.flags.now c.loop-i.i c.loop-i.number c.requires c.loop-i-test.true c.loop-i.invariant.1,
      bit_at_most _ _ c.bit.ensures,
    )
