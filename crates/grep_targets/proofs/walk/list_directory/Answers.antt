use Rattle.std.proofs.Common.{◌++◌, ◌∷◌, [], suc, map, string_bytes, Some, None, refl, ap, ◌∙◌}
use Rattle.std.proofs.lemmas.Result.{on_ok_weaker}
use Rattle.tool_io.specs.declared.target.Target.TheVariants.{NoList}
use Rattle.grep_targets.specs.Targets.{directory_targets, listed_targets}
use Rattle.grep_targets.specs.Walks.{pending_parts, weight}
use Rattle.grep_targets.specs.Stands.{AreOfDirectory, AreOfListed}
use Rattle.grep_targets.specs.Walks.{walking}
use Rattle.grep_targets.proofs.Standing.{goes-as, goes-told}
use Rattle.grep_targets.proofs.Walking.{step_as, told_step, listed_as}
use Rattle.grep_targets.proofs.walk.list_directory.Goals as goal

pub returns-in-Ok-clause-steps : goal.returns-in-Ok-clause-steps
returns-in-Ok-clause-steps g c =
    let path = string_bytes c.args.path in
    let contents = (g.F.FileSet.tells c.args.files.now).contents in
    on_ok_weaker c.take_entries.result (λ steps filter. step_as filter contents
    (λ set. listed_targets filter (directory_targets filter set c.args.levels) path (Some c.in-Ok.entries))
    (λ set. directory_targets filter set (suc c.args.levels) path) (weight (suc c.args.levels))
    (λ set is. listed_as filter contents path c.as_str.result.now c.args.levels (Some c.in-Ok.entries) set is
    c.as_str.ensures.value c.in-Ok.ensures.found) (rw c.as_str-in-Ok.ensures.value at (steps filter contents)))
    c.take_entries.ensures.steps

pub returns-in-Err-Failed-clause-steps : goal.returns-in-Err-Failed-clause-steps
returns-in-Err-Failed-clause-steps g c =
    let path = string_bytes c.args.path in
    let contents = (g.F.FileSet.tells c.args.files.now).contents in
    on_ok_weaker c.push.result (λ grown filter. told_step filter contents
    (λ set. directory_targets filter set (suc c.args.levels) path) (suc c.args.levels)
    (map pending_parts c.args.stack.now.items) c.args.told.now c.push.new.self
    (λ set is. grown ∙ ap (λ p. c.args.told.now ++ NoList p ∷ []) c.of.ensures
    ∙ ap (λ l. c.args.told.now ++ l) (listed_as filter contents path c.as_str.result.now c.args.levels None set
    is c.as_str.ensures.value (c.list.ensures.missing (let is = c.in-Err-Failed.is in
    let failed = c.in-Err-Failed.field-0-is in cc))))) c.push.ensures.ok

pub returns-in-Ok-clause-goes : goal.returns-in-Ok-clause-goes
returns-in-Ok-clause-goes g c =
    let path = string_bytes c.args.path in
    let old = walking (map pending_parts c.args.stack.now.items) c.args.told.now in
    let new = walking (map pending_parts c.take_entries.new.stack.items) c.take_entries.new.told in
    on_ok_weaker c.take_entries.result (λ goes filter. goes-as filter
    (AreOfListed filter (AreOfDirectory filter c.args.levels) path (Some c.in-Ok.entries))
    (AreOfDirectory filter (suc c.args.levels) path) old new (λ list are. (Some c.in-Ok.entries, are))
    (rw c.as_str-in-Ok.ensures.value at (goes filter))) c.take_entries.ensures.goes

pub returns-in-Err-Failed-clause-goes : goal.returns-in-Err-Failed-clause-goes
returns-in-Err-Failed-clause-goes g c =
    let path = string_bytes c.args.path in
    on_ok_weaker c.push.result (λ grown filter. goes-told filter (AreOfDirectory filter (suc c.args.levels) path)
    (map pending_parts c.args.stack.now.items) c.args.told.now c.push.new.self (NoList path ∷ [])
    (grown ∙ ap (λ p. c.args.told.now ++ NoList p ∷ []) c.of.ensures) (None, refl)) c.push.ensures.ok
