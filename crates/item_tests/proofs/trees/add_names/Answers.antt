use Rattle.std.proofs.Common.{◌≡◌, ◌≤◌, ◌∙◌, ◌+◌, true, ap, arith, length, All, List}
use Rattle.pat_tree.specs.declared.nodes.Placed.{Placed}
use Rattle.pat_tree.specs.declared.names.NameEntry.{NameEntry}
use Rattle.pat_tree.specs.Names.{with_name}
use Rattle.pat_tree.specs.Refs.{has_group}
use Rattle.pat_tree.proofs.Naming.{all_named, length_named}
use Rattle.item_tests.proofs.trees.add_names.Goals as goal

record Kept (ps : List Placed) (xs ys : List NameEntry) : Type 0 where
  count : length ys ≤ length xs + 1
  stand : All (λ entry. has_group ps entry.group ≡ true) ys

one_more : (ps : List Placed) (xs ys : List NameEntry) (e : NameEntry) → ys ≡ with_name e xs
    → has_group ps e.group ≡ true → All (λ entry. has_group ps entry.group ≡ true) xs → Kept ps xs ys
one_more ps xs ys e is stands all = rw is (record {
  count = length_named e xs;
  stand = all_named (λ entry. has_group ps entry.group ≡ true) e xs stands all;
})

pub loop-name-preserved : goal.loop-name-preserved
loop-name-preserved c =
    let named = c.in_ok-add_name.ensures.named in
    let nodes = ap (λ d. d.nodes) named in
    let inv = c.loop-name.invariant in
    let more = one_more c.loop-name.draft.nodes c.loop-name.draft.names c.add_name.new.self.names _
    (ap (λ d. d.names) named) (rw inv.kept c.requires.stands) inv.stand in record {
      count = omega (arith, more.count, inv.count);
      stand = rw nodes more.stand;
      kept = nodes ∙ inv.kept;
    }
