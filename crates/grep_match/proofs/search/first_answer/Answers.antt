use Rattle.std.proofs.Common.{length, sym, subst}
use Rattle.std.proofs.lemmas.List.Elements.{All-get_or}
use Rattle.grep_match.specs.Compiled.{IsKept}
use Rattle.grep_match.proofs.Searching.{last_tried, next_tried}
use Rattle.grep_match.proofs.search.first_answer.Goals as goal

pub try_kept-requires-clause-kept : goal.try_kept-requires-clause-kept
try_kept-requires-clause-kept c =
    let patterns = c.args.patterns.now in
    subst (IsKept patterns.options) (sym (rw c.kept-kept-items.ensures.value at c.kept-item.is))
    (All-get_or (IsKept patterns.options) patterns.kept c.loop-kept.kept-index c.kept-item.result
    (rw c.kept-kept-items.ensures.value at c.loop-kept-test.true) c.kept-kept-items.ensures.kept)

pub returns-in_default : goal.returns-in_default
returns-in_default c =
    let i = c.loop-kept.invariant in
    let patterns = c.args.patterns.now in
    record {
      known = c.in_ok-answer.ensures.known;
      answer =
          last_tried patterns.options c.args.options.now c.args.line.now c.args.start patterns.kept
          c.loop-kept.kept-index c.kept-item.result (rw c.kept-kept-items.ensures.value at c.loop-kept-test.true)
          (rw c.kept-kept-items.ensures.value at c.kept-item.is) i.rest c.args.wanted.now (length c.args.line.now)
          c.args.work.now.found c.loop-kept.work.found c.try_kept.new.work.found i.list c.in_ok-answer.answer
          c.in_default.not-Nothing c.in_ok-answer.ensures.answer;
    }

pub loop-kept-preserved : goal.loop-kept-preserved
loop-kept-preserved c =
    let i = c.loop-kept.invariant in
    let patterns = c.args.patterns.now in
    let next =
    next_tried patterns.options c.args.options.now c.args.line.now c.args.start patterns.kept
    c.loop-kept.kept-index c.kept-item.result (rw c.kept-kept-items.ensures.value at c.loop-kept-test.true)
    (rw c.kept-kept-items.ensures.value at c.kept-item.is) i.rest c.args.wanted.now (length c.args.line.now)
    c.args.work.now.found c.loop-kept.work.found c.try_kept.new.work.found i.list c.in_ok-answer.answer
    c.in-Nothing.is c.in_ok-answer.ensures.answer in
    record { rest = next.0; list = next.1; known = c.in_ok-answer.ensures.known }
