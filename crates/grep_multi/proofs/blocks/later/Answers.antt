use Rattle.std.proofs.Common.{◌∙◌, sym, ap, refl, arith, rules}
use Rattle.std.proofs.lemmas.Int.{to_z-of_z}
use mir.Syntax.{w32}
use mir.Val.{SFits}
use Rattle.grep_match.specs.declared.search.Answer.TheVariants as told
use Rattle.grep_match.specs.Compiled.{patterns_in}
use Rattle.grep_match.specs.Matches.{not_empty}
use Rattle.grep_match.proofs.Searching.{found_within}
use Rattle.grep_multi.specs.Given.{lines_at}
use Rattle.grep_multi.proofs.Growing.{on-begin, on-more, on-past, on-none, on-error, on-end, retold, behind-then}
use Rattle.grep_multi.proofs.Growing.{answered, reaches-first}
use Rattle.grep_multi.proofs.blocks.later.Goals as goal

pub loop-turn-init : goal.loop-turn-init
loop-turn-init c =
    let s = c.args.search.now in
    record {
      begun = c.requires.begun;
      behind = c.extend-reach.ensures.behind;
      known = c.requires.known;
      on = λ row o ends number is lists.
          on-begin s.kind s.plan.now (patterns_in s.patterns.now) s.text.now row c.args.line c.extend-reach.result
          c.args.to o c.args.work.now.found ends number is lists c.extend-reach.ensures;
    }

pub loop-turn-preserved : goal.loop-turn-preserved
loop-turn-preserved c =
    let s = c.args.search.now in
    let i = c.loop-turn.invariant in
    let lines = lines_at s.kind s.text.now c.args.line.behind in
    let answer =
    answered _ _ _ _ _ _ _ _ _ s.text.now c.loop-turn.start _ _ c.as_slice-wanted.ensures
    (ap not_empty c.limits.ensures) c.in-Found.is refl c.in_ok-place.ensures.answer in
    record {
      begun = found_within _ _ _ _ c.in-Found.place _ answer;
      behind = behind-then s.text.now c.args.line c.loop-turn.reach c.extend-reach-in-Found.result i.behind
          c.extend-reach-in-Found.ensures.behind;
      known = c.first_answer.ensures.known;
      on = λ row o ends number is lists.
          on-more s.kind s.plan.now (patterns_in s.patterns.now) s.text.now row lines o c.loop-turn.work.found
          c.loop-turn._turn c.loop-turn.start c.loop-turn.reach (i.on row o ends number is lists)
          c.first_answer.new.work.found c.in-Found.place c.extend-reach-in-Found.result (omega arith)
          (λ l stands. sym c.if-is_past.false ∙ c.is_past.ensures l stands) answer c.extend-reach-in-Found.ensures;
    }

pub returns-then-is_past-clause-taken : goal.returns-then-is_past-clause-taken
returns-then-is_past-clause-taken c = λ row o ends number is lists.
    let s = c.args.search.now in
    let line = c.args.line in
    let patterns = patterns_in s.patterns.now in
    retold s.kind s.plan.now patterns s.text.now row line line c.args.to o c.args.work.now.found ends number is lists
    c.loop-turn.work.found _
    (on-past s.kind s.plan.now patterns s.text.now row (lines_at s.kind s.text.now line.behind) o c.loop-turn.work.found
    c.loop-turn._turn c.loop-turn.start c.loop-turn.reach (c.loop-turn.invariant.on row o ends number is lists)
    (omega arith) (λ l stands. sym c.if-is_past.true ∙ c.is_past.ensures l stands))

pub returns-in-Nothing-clause-taken : goal.returns-in-Nothing-clause-taken
returns-in-Nothing-clause-taken c = λ row o ends number is lists.
    let s = c.args.search.now in
    let line = c.args.line in
    let patterns = patterns_in s.patterns.now in
    retold s.kind s.plan.now patterns s.text.now row line line c.args.to o c.args.work.now.found ends number is lists
    c.first_answer.new.work.found _
    (on-none s.kind s.plan.now patterns s.text.now row (lines_at s.kind s.text.now line.behind) o c.loop-turn.work.found
    c.loop-turn._turn c.loop-turn.start c.loop-turn.reach (c.loop-turn.invariant.on row o ends number is lists)
    c.first_answer.new.work.found (omega arith)
    (λ l stands. sym c.if-is_past.false ∙ c.is_past.ensures l stands)
    (answered _ _ _ _ _ _ _ _ _ s.text.now c.loop-turn.start _ _ c.as_slice-wanted.ensures
    (ap not_empty c.limits.ensures) c.in-Nothing.is refl c.in_ok-place.ensures.answer))

pub returns-in-Error-clause-taken : goal.returns-in-Error-clause-taken
returns-in-Error-clause-taken c = λ row o ends number is lists.
    let s = c.args.search.now in
    let line = c.args.line in
    let patterns = patterns_in s.patterns.now in
    let fits : SFits w32 c.in-Error.n = search rules in
    retold s.kind s.plan.now patterns s.text.now row line line c.args.to o c.args.work.now.found ends number is lists
    c.first_answer.new.work.found _
    (on-error s.kind s.plan.now patterns s.text.now row (lines_at s.kind s.text.now line.behind) o
    c.loop-turn.work.found c.loop-turn._turn c.loop-turn.start c.loop-turn.reach
    (c.loop-turn.invariant.on row o ends number is lists) c.first_answer.new.work.found _ line (omega arith)
    (λ l stands. sym c.if-is_past.false ∙ c.is_past.ensures l stands)
    (reaches-first s.kind s.text.now row line ends number)
    (answered _ _ _ _ _ _ _ _ _ s.text.now c.loop-turn.start _ _ c.as_slice-wanted.ensures
    (ap not_empty c.limits.ensures) (c.in-Error.is ∙ ap told.Error (sym (to_z-of_z w32 c.in-Error.n fits)))
    refl c.in_ok-place.ensures.answer))

pub returns-clause-taken : goal.returns-clause-taken
returns-clause-taken c = λ row o ends number is lists.
    let s = c.args.search.now in
    let line = c.args.line in
    let patterns = patterns_in s.patterns.now in
    retold s.kind s.plan.now patterns s.text.now row line line c.args.to o c.args.work.now.found ends number is lists
    c.loop-turn.work.found _
    (on-end s.kind s.plan.now patterns s.text.now row (lines_at s.kind s.text.now line.behind) o c.loop-turn.work.found
    c.loop-turn._turn c.loop-turn.start c.loop-turn.reach (c.loop-turn.invariant.on row o ends number is lists)
    (omega arith))
