use Rattle.std.proofs.Common.{◌<◌, ◌^◌, arith}
use Rattle.std.proofs.lemmas.List.Elements.{All-from_get_or}
use Rattle.std.proofs.lemmas.Map.Views.{length-le_from_below}
use Rattle.pat_save.proofs.fields.put_groups.Goals as goal

pub overflow_cast-groups : goal.overflow_cast-groups
overflow_cast-groups c =
    let groups = c.args.groups.now in
    let below = All-from_get_or (λ n. n < 65536) groups 0 (λ i _. omega (arith, c.type_inv.groups i)) in
    omega (arith, length-le_from_below 65536 groups c.requires below)

pub returns-clause-short : goal.returns-clause-short
returns-clause-short c = All-from_get_or (λ n. n < 2 ^ 16) c.args.groups.now 0 (λ i _. omega (arith, c.type_inv.groups i))
