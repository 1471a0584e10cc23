use Rattle.std.proofs.Common.{length, refl, sym, subst, IfOk}
use Rattle.pcre2_api.specs.Answers.{pattern_answer}
use Rattle.grep_match.specs.declared.search.Answer.TheVariants as told
use Rattle.grep_match.specs.Found.{IsAnswer}
use Rattle.grep_match.proofs.Spelling.{lacking}
use Rattle.grep_match.proofs.search.try_text.Goals as goal

pub returns-then-lacks-clause-answer : goal.returns-then-lacks-clause-answer
returns-then-lacks-clause-answer c =
    let line = c.args.line.now in
    subst (IsAnswer c.args.wanted.now (length line) c.args.work.now.found c.args.work.now.found told.Nothing)
    (sym (lacking c.args.patterns.now.options c.args.text.now c.args.options.now line c.args.start
    c.requires.spelt c.requires.off c.requires.begun (c.lacks.ensures c.if-lacks.true)))
    refl

pub returns-clause-answer : goal.returns-clause-answer
returns-clause-answer c =
    subst (λ p. IfOk c.try_pattern.result (λ a. IsAnswer c.args.wanted.now (length c.args.line.now)
    c.args.work.now.found c.try_pattern.new.work.found a
    (pattern_answer c.args.options.now c.args.line.now c.args.start p)))
    c.in_ok-code.ensures c.try_pattern.ensures.answer
