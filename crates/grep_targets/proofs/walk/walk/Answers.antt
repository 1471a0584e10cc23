use Rattle.std.proofs.Common.{◌++◌, ◌∷◌, [], true, map, string_bytes, refl, ap, ◌∙◌, arith}
use Rattle.std.proofs.lemmas.List.{map-append}
use Rattle.grep_targets.specs.Filters.{filter_in}
use Rattle.grep_targets.specs.Targets.{as_item, directory_targets, item_targets}
use Rattle.grep_targets.specs.Walks.{at_levels, pending_parts, weight}
use Rattle.grep_targets.specs.Stands.{AreOfDirectory, AreOfItem}
use Rattle.grep_targets.proofs.Standing.{gone-end, gone-first, gone-on, none-left}
use Rattle.grep_targets.proofs.Walking.{going_first, going_on, causes_then, unfailed_causes}
use Rattle.grep_targets.proofs.walk.walk.Goals as goal

pub item-init : goal.item-init
item-init g c =
    let first = at_levels c.args.levels (as_item (string_bytes c.args.path) true) in
    record {
      going = going_first (filter_in c.args.filter.now) (g.F.FileSet.tells c.args.files.now).contents c.args.told.now
          (map pending_parts c.push.new.stack.items) first
          (c.in_ok-push.ensures ∙ ap (λ l. map pending_parts l ++ first ∷ []) c.new-stack.ensures.items);
      gone = gone-first (filter_in c.args.filter.now) c.args.told.now (map pending_parts c.push.new.stack.items) first
          (c.in_ok-push.ensures ∙ ap (λ l. map pending_parts l ++ first ∷ []) c.new-stack.ensures.items);
      causes = unfailed_causes c.args.told.now c.args.told.now _ _ refl;
      same = refl;
      later = omega arith;
    }

pub item-preserved : goal.item-preserved
item-preserved g c =
    let filter = filter_in c.args.filter.now in
    let taken = c.in_ok-take.ensures in
    let so_far = c.item.invariant in
    record {
      going = going_on filter (g.F.FileSet.tells c.args.files.now).contents (g.F.FileSet.tells c.item.files).contents
          (λ set. item_targets filter (directory_targets filter set c.args.levels)
          (as_item (string_bytes c.args.path) true)) c.args.told.now c.item.told c.take.new.told
          (map pending_parts c.item.stack.items) (map pending_parts c.pop.new.self.items)
          (map pending_parts c.take.new.stack.items) (pending_parts c.in-Some.pending)
          (weight c.in-Some.pending.levels)
          so_far.same (ap (map pending_parts) c.in-Some.ensures.items
          ∙ map-append pending_parts c.pop.new.self.items (c.in-Some.pending ∷ [])) so_far.going taken.steps;
      gone = gone-on filter (AreOfItem filter (AreOfDirectory filter c.args.levels)
          (as_item (string_bytes c.args.path) true)) c.args.told.now c.item.told c.take.new.told
          (map pending_parts c.item.stack.items) (map pending_parts c.pop.new.self.items)
          (map pending_parts c.take.new.stack.items) (pending_parts c.in-Some.pending)
          (ap (map pending_parts) c.in-Some.ensures.items
          ∙ map-append pending_parts c.pop.new.self.items (c.in-Some.pending ∷ [])) so_far.gone taken.goes;
      causes = causes_then c.args.told.now c.item.told c.take.new.told _ _ _ so_far.later taken.later so_far.causes
          taken.causes;
      same = taken.same ∙ so_far.same;
      later = (let a = so_far.later in let b = taken.later in omega (arith, a, b));
    }

pub returns-in_default-clause-stands : goal.returns-in_default-clause-stands
returns-in_default-clause-stands g c =
    let filter = filter_in c.args.filter.now in
    let none = none-left c.item.stack.items (let empty = c.in_default.ensures.cases.0 in omega (arith, empty)) in
    gone-end filter (AreOfItem filter (AreOfDirectory filter c.args.levels) (as_item (string_bytes c.args.path) true))
    c.args.told.now c.item.told (map pending_parts c.item.stack.items) (ap (map pending_parts) none)
    c.item.invariant.gone
