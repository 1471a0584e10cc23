use Rattle.std.proofs.Common.{◌<◌, length, arith}
use Rattle.pat_lengths.proofs.LeadingLemmas.{grows_push}
use Rattle.pat_lengths.proofs.leading.Reached.add_all.Goals as goal

pub add-requires : goal.add-requires
add-requires c =
    let i = c.loop-id.id-index in
    let within : i < length c.args.ids.now = omega arith in
    omega (arith, c.requires i 0 within, c.loop-id.invariant.size)

pub loop-id-preserved : goal.loop-id-preserved
loop-id-preserved c =
    let i = c.loop-id.id-index in
    let within : i < length c.args.ids.now = omega arith in
    grows_push _ _ _ c.args.ids.now i 0 within c.loop-id.invariant c.in_ok-add.ensures
