use Rattle.std.proofs.Common.{rules}
use Rattle.std.proofs.lemmas.Fn.{always_returns_same}
use Rattle.pat_tree.specs.declared.names.NameEntry.{NameEntry}
use Rattle.pat_tree.specs.Names.{name_cmp}
use Rattle.pat_tree.proofs.Naming.{found}
use Rattle.pat_tree.proofs.names.find.Goals as goal

pub returns-clause-is : goal.returns-clause-is
returns-clause-is c =
    let e : NameEntry = record { name = c.args.name.now; group = c.args.group } in
    found e c.args.entries.now c.binary_search_by.result c.requires c.binary_search_by.ensures.bound
    (c.binary_search_by.ensures.position (λ x. name_cmp x e)
    (always_returns_same _ _ _ (λ a r f called. (search rules, search rules))))
