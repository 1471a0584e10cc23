use Rattle.std.proofs.Common.{◌<◌, length}
use Rattle.pat_lengths.proofs.KeepLemmas.{branches_all}
use Rattle.pat_check.proofs.size.sum_of_condition.Goals as goal

pub sum_of_two-branches-requires : goal.sum_of_two-branches-requires
sum_of_two-branches-requires c = branches_all (λ k. k < length c.args.sizes.now) c.args.test.now c.args.yes c.args.no
    c.requires
