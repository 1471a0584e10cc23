use Rattle.std.proofs.Common.{◌++◌, map, flat_map, append-nil, ap, sym, subst, ◌∙◌, arith}
use Rattle.std.specs.List.Sorted.{IsPermutation}
use Rattle.std.proofs.lemmas.List.Sorted.{IsPermutation-refl}
use Rattle.grep_targets.specs.Paths.{item_of, item_parts}
use Rattle.grep_targets.proofs.InOrder.{found-more}
use Rattle.grep_targets.proofs.Standing.{none-left}
use Rattle.grep_targets.proofs.items.parts_of.Goals as goal

pub entry-init : goal.entry-init
entry-init c =
    let found = flat_map (item_of c.args.path.now) c.args.entries in
    let rest = flat_map (item_of c.args.path.now) c.into_vec-rest.result.items in
    subst (λ l. IsPermutation found (map item_parts l ++ rest)) (sym c.new-items.ensures.items)
    (subst (λ l. IsPermutation found (flat_map (item_of c.args.path.now) l)) (sym c.into_vec-rest.ensures)
    (IsPermutation-refl found))

pub entry-preserved : goal.entry-preserved
entry-preserved c = found-more (item_of c.args.path.now) (flat_map (item_of c.args.path.now) c.args.entries)
    (map item_parts c.entry.items.items) (map item_parts c.add_entry.new.items.items) c.entry.rest.items
    c.pop.new.self.items c.in-Some.entry c.in-Some.ensures.items c.in_ok-add_entry.ensures c.entry.invariant

pub returns-in_default : goal.returns-in_default
returns-in_default c =
    let found = flat_map (item_of c.args.path.now) c.args.entries in
    let some = map item_parts c.entry.items.items in
    let none = none-left c.entry.rest.items (let empty = c.in_default.ensures.cases.0 in omega (arith, empty)) in
    subst (IsPermutation found) (ap (λ l. some ++ flat_map (item_of c.args.path.now) l) none ∙ append-nil some)
    c.entry.invariant
