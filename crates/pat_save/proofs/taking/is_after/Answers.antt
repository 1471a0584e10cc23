use Rattle.std.proofs.Common.{sym, ◌∙◌}
use Rattle.std.proofs.lemmas.Cmp.{nat_cmp_total}
use Rattle.std.specs.Ordering.{nat_cmp}
use Rattle.pat_save.proofs.Sorting.{last_after, lt_is}
use Rattle.pat_save.proofs.taking.is_after.Goals as goal

pub returns-in-Some : goal.returns-in-Some
returns-in-Some c =
    sym (last_after nat_cmp nat_cmp_total c.args.groups.now c.args.group c.in-Some.last.now c.requires
    (sym c.in-Some.ensures.value) ∙ lt_is c.in-Some.last.now c.args.group)
