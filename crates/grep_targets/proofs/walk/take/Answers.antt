use Rattle.std.proofs.Common.{◌≡◌, ◌++◌, [], false, true, map, append-nil, refl, sym, subst, ap, ◌∙◌}
use Rattle.std.proofs.lemmas.Result.{on_ok_weaker}
use Rattle.grep_targets.specs.Filters.{filter_in}
use Rattle.grep_targets.specs.Targets.{allows_directory, directory_targets, file_targets}
use Rattle.grep_targets.specs.Stands.{AreIf, AreOfDirectory, AreOfPath}
use Rattle.grep_targets.specs.Walks.{pending_parts, pending_targets, walking, weight, AreOfPending}
use Rattle.grep_targets.proofs.Standing.{goes-as, goes-told}
use Rattle.grep_targets.proofs.Walking.{step_as, told_step, file_item, directory_item, barred_item}
use Rattle.grep_targets.proofs.walk.take.Goals as goal

pub returns-then-not-is_directory-clause-steps : goal.returns-then-not-is_directory-clause-steps
returns-then-not-is_directory-clause-steps g c =
    let filter = filter_in c.args.filter.now in
    let p = pending_parts c.args.pending in
    on_ok_weaker c.take_file.result (λ grown. told_step filter (g.F.FileSet.tells c.args.files.now).contents
    (λ set. pending_targets filter set p) c.args.pending.levels (map pending_parts c.args.stack.now.items)
    c.args.told.now c.take_file.new.told
    (λ set is. grown ∙ ap (λ l. c.args.told.now ++ l)
    (file_item filter (directory_targets filter set p.levels) p.item c.if-not-is_directory.true)))
    c.take_file.ensures.grows

pub returns-then-branch-clause-steps : goal.returns-then-branch-clause-steps
returns-then-branch-clause-steps g c =
    let filter = filter_in c.args.filter.now in
    let p = pending_parts c.args.pending in
    let allowed = subst (λ path. allows_directory filter path ≡ true) c.as_str.ensures.value
    (sym c.in_ok-allows_directory.ensures ∙ c.if-branch.true) in
    on_ok_weaker c.take_directory.result (λ steps. step_as filter (g.F.FileSet.tells c.args.files.now).contents
    (λ set. directory_targets filter set p.levels p.item.path) (λ set. pending_targets filter set p)
    (weight p.levels)
    (λ set is. directory_item filter (directory_targets filter set p.levels) p.item c.if-not-is_directory.false
    allowed) (steps filter)) c.take_directory.ensures.steps

pub returns-else-branch-clause-steps : goal.returns-else-branch-clause-steps
returns-else-branch-clause-steps g c =
    let filter = filter_in c.args.filter.now in
    let p = pending_parts c.args.pending in
    let barred = subst (λ path. allows_directory filter path ≡ false) c.as_str.ensures.value
    (sym c.in_ok-allows_directory.ensures ∙ c.if-branch.false) in
    told_step filter (g.F.FileSet.tells c.args.files.now).contents (λ set. pending_targets filter set p)
    c.args.pending.levels (map pending_parts c.args.stack.now.items) c.args.told.now c.args.told.now
    (λ set is. sym (append-nil c.args.told.now) ∙ ap (λ l. c.args.told.now ++ l)
    (barred_item filter (directory_targets filter set p.levels) p.item c.if-not-is_directory.false barred))

pub returns-then-not-is_directory-clause-goes : goal.returns-then-not-is_directory-clause-goes
returns-then-not-is_directory-clause-goes g c =
    let filter = filter_in c.args.filter.now in
    let p = pending_parts c.args.pending in
    let below = AreOfDirectory filter p.levels in
    on_ok_weaker c.take_file.result (λ grown. goes-told filter (AreOfPending filter p)
    (map pending_parts c.args.stack.now.items) c.args.told.now c.take_file.new.told
    (file_targets filter p.item.path)
    grown (subst (λ b. AreOfPath b filter below p.item.path (file_targets filter p.item.path))
    (sym c.if-not-is_directory.true) refl)) c.take_file.ensures.grows

pub returns-then-branch-clause-goes : goal.returns-then-branch-clause-goes
returns-then-branch-clause-goes g c =
    let filter = filter_in c.args.filter.now in
    let p = pending_parts c.args.pending in
    let below = AreOfDirectory filter p.levels in
    let path = p.item.path in
    let allowed = subst (λ path. allows_directory filter path ≡ true) c.as_str.ensures.value
    (sym c.in_ok-allows_directory.ensures ∙ c.if-branch.true) in
    on_ok_weaker c.take_directory.result (goes-as filter (below path) (AreOfPending filter p)
    (walking (map pending_parts c.args.stack.now.items) c.args.told.now)
    (walking (map pending_parts c.take_directory.new.stack.items) c.take_directory.new.told)
    (λ list are. subst (λ b. AreOfPath b filter below path list) (sym c.if-not-is_directory.false)
    (subst (λ b. AreIf b (below path list) list) (sym allowed) are)))
    (on_ok_weaker c.take_directory.result (λ goes. goes filter) c.take_directory.ensures.goes)

pub returns-else-branch-clause-goes : goal.returns-else-branch-clause-goes
returns-else-branch-clause-goes g c =
    let filter = filter_in c.args.filter.now in
    let p = pending_parts c.args.pending in
    let below = AreOfDirectory filter p.levels in
    let path = p.item.path in
    let barred = subst (λ path. allows_directory filter path ≡ false) c.as_str.ensures.value
    (sym c.in_ok-allows_directory.ensures ∙ c.if-branch.false) in
    goes-told filter (AreOfPending filter p) (map pending_parts c.args.stack.now.items) c.args.told.now
    c.args.told.now [] (sym (append-nil c.args.told.now))
    (subst (λ b. AreOfPath b filter below path []) (sym c.if-not-is_directory.false)
    (subst (λ b. AreIf b (below path []) []) (sym barred) refl))
