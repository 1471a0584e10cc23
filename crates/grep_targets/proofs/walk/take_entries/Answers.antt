use Rattle.std.proofs.Common.{◌<◌, map, sym, subst}
use Rattle.std.proofs.lemmas.List.{length-map}
use Rattle.std.proofs.lemmas.Result.{on_ok_weaker}
use Rattle.grep_targets.specs.Paths.{item_parts}
use Rattle.grep_targets.specs.Walks.{pending_parts}
use Rattle.grep_targets.proofs.Standing.{goes-entries}
use Rattle.grep_targets.proofs.Walking.{entries_step}
use Rattle.grep_targets.proofs.walk.take_entries.Goals as goal

pub returns-clause-steps : goal.returns-clause-steps
returns-clause-steps c =
    let items = c.in_ok-items.ensures.items in
    let few = subst (λ n. n < 18446744073709551616) (sym (length-map c.in_ok-items.items.items item_parts))
    c.in_ok-items.ensures.few in
    on_ok_weaker c.push_all.result (λ put filter contents. entries_step filter contents c.args.path.now c.args.levels
    c.args.entries (map pending_parts c.args.stack.now.items) (map pending_parts c.push_all.new.stack.items)
    c.args.told.now c.tell_unnamed.new.told (rw items at few)
    (rw c.as_slice.ensures at c.in_ok-tell_unnamed.ensures.grows) (rw items at put)) c.push_all.ensures

pub returns-clause-goes : goal.returns-clause-goes
returns-clause-goes c =
    let items = c.in_ok-items.ensures.items in
    on_ok_weaker c.push_all.result (λ put filter. goes-entries filter c.args.path.now c.args.levels c.args.entries
    (map pending_parts c.args.stack.now.items) (map pending_parts c.push_all.new.stack.items) c.args.told.now
    c.tell_unnamed.new.told (rw c.as_slice.ensures at c.in_ok-tell_unnamed.ensures.grows) (rw items at put))
    c.push_all.ensures
