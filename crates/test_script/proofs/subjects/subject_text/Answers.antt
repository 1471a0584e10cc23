use Rattle.std.proofs.Common.{◌+◌, Some, None, sym, ◌∙◌, ap, length}
use Rattle.test_script.specs.Subjects.{before, written, unless_too_long, subject_text}
use Rattle.test_script.proofs.Writing.{next_turn, no_turn}
use Rattle.test_script.proofs.subjects.subject_text.Goals as goal

pub returns-in-Ends-clause-value : goal.returns-in-Ends-clause-value
unfolding subject_text
returns-in-Ends-clause-value c =
    let text = c.args.text.now in
    let old = c.loop-turn.bytes.items in
    let ends = rw c.in-Ends.is at c.in_ok-to.ensures.value in
    let whole = sym (next_turn (λ k. before old (written c.args.utf text k c.loop-turn.at))
    (λ k. Some (c.push_piece.new.bytes.items, c.in-Ends.list)) (length text + 1) c.loop-turn.turn
    c.loop-turn-test.true ends) ∙ c.loop-turn.invariant.so_far in
    c.not_too_long.ensures.value ∙ ap unless_too_long whole

pub returns-in-Stops-clause-value : goal.returns-in-Stops-clause-value
unfolding subject_text
returns-in-Stops-clause-value c =
    let text = c.args.text.now in
    let old = c.loop-turn.bytes.items in
    let stops = rw c.in-Stops.is at c.in_ok-to.ensures.value in
    sym (next_turn (λ k. unless_too_long (before old (written c.args.utf text k c.loop-turn.at))) (λ k. None)
    (length text + 1) c.loop-turn.turn c.loop-turn-test.true stops)
    ∙ ap unless_too_long c.loop-turn.invariant.so_far

pub loop-turn-preserved : goal.loop-turn-preserved
loop-turn-preserved c =
    let text = c.args.text.now in
    let old = c.loop-turn.bytes.items in
    let goes = rw c.in-Goes.is at c.in_ok-to.ensures.value in
    record {
      within = rw c.in-Goes.is at c.in_ok-to.ensures.place;
      so_far = sym (next_turn (λ k. before old (written c.args.utf text k c.loop-turn.at))
          (λ k. before c.push_piece.new.bytes.items (written c.args.utf text k c.in-Goes.to)) (length text + 1)
          c.loop-turn.turn c.loop-turn-test.true goes) ∙ c.loop-turn.invariant.so_far;
    }

pub returns-clause-value : goal.returns-clause-value
unfolding subject_text
returns-clause-value c =
    let text = c.args.text.now in
    let old = c.loop-turn.bytes.items in
    ap unless_too_long
    (sym (no_turn (λ k. before old (written c.args.utf text k c.loop-turn.at)) (length text + 1) c.loop-turn.turn
    c.loop-turn-test.false) ∙ c.loop-turn.invariant.so_far)
