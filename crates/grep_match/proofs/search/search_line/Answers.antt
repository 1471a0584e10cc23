use Rattle.std.proofs.Common.{length, sym, subst, ◌∙◌, rules}
use Rattle.std.proofs.lemmas.Int.{to_z-of_z}
use Rattle.std.proofs.lemmas.Result.{IfOk-weaker}
use mir.Syntax.{w32}
use mir.Val.{SFits}
use Rattle.grep_match.specs.declared.search.Verdict.TheVariants as verdict
use Rattle.grep_match.specs.Compiled.{patterns_in}
use Rattle.grep_match.specs.Matches.{matches}
use Rattle.grep_match.specs.Found.{IsVerdict}
use Rattle.grep_match.proofs.Searching.{restated, says_none, says_error, says_one, says_each}
use Rattle.grep_match.proofs.search.search_line.Goals as goal

pub returns-in-Nothing : goal.returns-in-Nothing
returns-in-Nothing c =
    says_none c.args.plan.now (patterns_in c.args.patterns.now) c.args.line.now _ c.first_answer.new.work.found
    c.clear.ensures
    (restated _ _ _ _ _ _ _ _ _ c.args.line.now 0 (patterns_in c.args.patterns.now) c.as_slice-wanted.ensures
    c.limits.ensures c.in-Nothing.is c.in_ok-first_answer.ensures.answer)

pub returns-in-Error : goal.returns-in-Error
returns-in-Error c =
    let fits : SFits w32 c.in-Error.n = search rules in
    subst (λ n. IsVerdict c.args.plan.now.only_matching (length c.args.line.now) c.first_answer.new.work.found
    (verdict.Error n) (matches c.args.plan.now (patterns_in c.args.patterns.now) c.args.line.now))
    (sym (to_z-of_z w32 c.in-Error.n fits))
    (says_error c.args.plan.now (patterns_in c.args.patterns.now) c.args.line.now c.clear.new.self
    c.first_answer.new.work.found c.in-Error.n
    (restated _ _ _ _ _ _ _ _ _ c.args.line.now 0 (patterns_in c.args.patterns.now) c.as_slice-wanted.ensures
    c.limits.ensures c.in-Error.is c.in_ok-first_answer.ensures.answer))

pub returns-then-shows_each : goal.returns-then-shows_each
returns-then-shows_each c =
    IfOk-weaker c.later.result _ _
    (λ v more.
    says_each c.args.plan.now (patterns_in c.args.patterns.now) c.args.line.now _ c.first_answer.new.work.found
    c.later.new.work.found c.in-Found.place v c.clear.ensures (sym c.shows_each.ensures ∙ c.if-shows_each.true)
    (restated _ _ _ _ _ _ _ _ _ c.args.line.now 0 (patterns_in c.args.patterns.now) c.as_slice-wanted.ensures
    c.limits.ensures c.in-Found.is c.in_ok-first_answer.ensures.answer) more)
    c.later.ensures

pub returns-else-shows_each : goal.returns-else-shows_each
returns-else-shows_each c =
    says_one c.args.plan.now (patterns_in c.args.patterns.now) c.args.line.now _ c.first_answer.new.work.found
    c.in-Found.place c.clear.ensures (sym c.shows_each.ensures ∙ c.if-shows_each.false)
    (restated _ _ _ _ _ _ _ _ _ c.args.line.now 0 (patterns_in c.args.patterns.now) c.as_slice-wanted.ensures
    c.limits.ensures c.in-Found.is c.in_ok-first_answer.ensures.answer)
