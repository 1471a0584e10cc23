use Rattle.std.proofs.Common.{◌≡◌, ◌-◌, ◌++◌, ◌∷◌, [], suc, map, string_bytes, refl, sym, subst, ap, ◌∙◌, arith}
use Rattle.std.proofs.lemmas.Result.{on_ok_weaker}
use Rattle.tool_io.specs.declared.target.Target.TheVariants.{TooDeep}
use Rattle.grep_targets.specs.Targets.{directory_targets}
use Rattle.grep_targets.specs.Stands.{AreOfDirectory}
use Rattle.grep_targets.specs.Walks.{pending_parts, walking, weight, Goes, Steps}
use Rattle.grep_targets.proofs.Standing.{goes-told}
use Rattle.grep_targets.proofs.Walking.{told_step, too_deep}
use Rattle.grep_targets.proofs.walk.take_directory.Goals as goal

pub returns-then-levels-eq0-clause-steps : goal.returns-then-levels-eq0-clause-steps
returns-then-levels-eq0-clause-steps g c =
    let path = string_bytes c.args.path in
    on_ok_weaker c.push.result (λ grown filter. told_step filter (g.F.FileSet.tells c.args.files.now).contents
    (λ set. directory_targets filter set c.args.levels path) c.args.levels
    (map pending_parts c.args.stack.now.items) c.args.told.now c.push.new.self
    (λ set is. grown ∙ ap (λ p. c.args.told.now ++ TooDeep p ∷ []) c.of.ensures
    ∙ ap (λ l. c.args.told.now ++ l) (too_deep filter set c.args.levels path c.if-levels-eq0.true)))
    c.push.ensures.ok

pub returns-else-levels-eq0-clause-steps : goal.returns-else-levels-eq0-clause-steps
returns-else-levels-eq0-clause-steps g c =
    let path = string_bytes c.args.path in
    let some = c.if-levels-eq0.false in
    let whole : suc (c.args.levels - 1) ≡ c.args.levels = omega (arith, some) in
    on_ok_weaker c.list_directory.result
    (λ steps filter. subst (λ n. Steps filter (g.F.FileSet.tells c.args.files.now).contents
    (λ set. directory_targets filter set n path) (weight n)
    (walking (map pending_parts c.args.stack.now.items) c.args.told.now)
    (walking (map pending_parts c.list_directory.new.stack.items) c.list_directory.new.told)) whole
    (steps filter)) c.list_directory.ensures.steps

pub returns-then-levels-eq0-clause-goes : goal.returns-then-levels-eq0-clause-goes
returns-then-levels-eq0-clause-goes g c =
    let path = string_bytes c.args.path in
    on_ok_weaker c.push.result (λ grown filter. goes-told filter (AreOfDirectory filter c.args.levels path)
    (map pending_parts c.args.stack.now.items) c.args.told.now c.push.new.self (TooDeep path ∷ [])
    (grown ∙ ap (λ p. c.args.told.now ++ TooDeep p ∷ []) c.of.ensures)
    (subst (λ n. AreOfDirectory filter n path (TooDeep path ∷ [])) (sym c.if-levels-eq0.true) refl))
    c.push.ensures.ok

pub returns-else-levels-eq0-clause-goes : goal.returns-else-levels-eq0-clause-goes
returns-else-levels-eq0-clause-goes g c =
    let path = string_bytes c.args.path in
    let some = c.if-levels-eq0.false in
    let whole : suc (c.args.levels - 1) ≡ c.args.levels = omega (arith, some) in
    on_ok_weaker c.list_directory.result
    (λ goes filter. subst (λ n. Goes filter (AreOfDirectory filter n path)
    (walking (map pending_parts c.args.stack.now.items) c.args.told.now)
    (walking (map pending_parts c.list_directory.new.stack.items) c.list_directory.new.told)) whole
    (goes filter)) c.list_directory.ensures.goes
