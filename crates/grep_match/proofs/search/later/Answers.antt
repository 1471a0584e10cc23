use Rattle.std.proofs.Common.{sym, ap, ◌∙◌, arith, rules}
use Rattle.std.proofs.lemmas.Int.{to_z-of_z}
use mir.Syntax.{w32}
use mir.Val.{SFits}
use Rattle.grep_match.specs.declared.search.Answer.TheVariants as told
use Rattle.grep_match.specs.Compiled.{patterns_in}
use Rattle.grep_match.specs.Matches.{not_empty}
use Rattle.grep_match.proofs.Searching.{restated, on_first, on_more, on_none, on_error, on_end}
use Rattle.grep_match.proofs.search.later.Goals as goal

pub loop-turn-init : goal.loop-turn-init
loop-turn-init c = (
  on_first c.args.plan.now (patterns_in c.args.patterns.now) c.args.line.now c.args.start
      c.args.work.now.found c.requires.begun,
  c.requires.known,
)

pub returns-in-Nothing : goal.returns-in-Nothing
returns-in-Nothing c =
    on_none c.args.plan.now (patterns_in c.args.patterns.now) c.args.line.now c.args.start c.args.work.now.found
    c.loop-turn.work.found c.loop-turn._turn c.loop-turn.start c.loop-turn.invariant.0
    c.first_answer.new.work.found (omega arith)
    (restated _ _ _ _ _ _ _ _ _ c.args.line.now c.loop-turn.start (patterns_in c.args.patterns.now)
    c.as_slice-wanted.ensures (ap not_empty c.limits.ensures) c.in-Nothing.is c.in_ok-place.ensures.answer)

pub returns-in-Error : goal.returns-in-Error
returns-in-Error c =
    let fits : SFits w32 c.in-Error.n = search rules in
    on_error c.args.plan.now (patterns_in c.args.patterns.now) c.args.line.now c.args.start c.args.work.now.found
    c.loop-turn.work.found c.loop-turn._turn c.loop-turn.start c.loop-turn.invariant.0
    c.first_answer.new.work.found _ (omega arith)
    (restated _ _ _ _ _ _ _ _ _ c.args.line.now c.loop-turn.start (patterns_in c.args.patterns.now)
    c.as_slice-wanted.ensures (ap not_empty c.limits.ensures)
    (c.in-Error.is ∙ ap told.Error (sym (to_z-of_z w32 c.in-Error.n fits))) c.in_ok-place.ensures.answer)

pub loop-turn-preserved : goal.loop-turn-preserved
loop-turn-preserved c = (
  on_more c.args.plan.now (patterns_in c.args.patterns.now) c.args.line.now c.args.start c.args.work.now.found
      c.loop-turn.work.found c.loop-turn._turn c.loop-turn.start c.loop-turn.invariant.0 c.first_answer.new.work.found
      c.in-Found.place (omega arith)
      (restated _ _ _ _ _ _ _ _ _ c.args.line.now c.loop-turn.start (patterns_in c.args.patterns.now)
      c.as_slice-wanted.ensures (ap not_empty c.limits.ensures) c.in-Found.is c.in_ok-place.ensures.answer),
  c.first_answer.ensures.known,
)

pub returns : goal.returns
returns c =
    on_end c.args.plan.now (patterns_in c.args.patterns.now) c.args.line.now c.args.start c.args.work.now.found
    c.loop-turn.work.found c.loop-turn._turn c.loop-turn.start c.loop-turn.invariant.0 (omega arith)
