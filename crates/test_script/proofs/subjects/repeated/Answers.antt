use Rattle.std.proofs.Common.{◌+◌, Some, None, sym, ◌∙◌, ap, length}
use Rattle.test_script.specs.Subjects.{before, repeated}
use Rattle.test_script.proofs.Writing.{repeated_closed, next_turn, no_turn}
use Rattle.test_script.proofs.subjects.repeated.Goals as goal

pub returns-then-stands-clause-value : goal.returns-then-stands-clause-value
returns-then-stands-clause-value c =
    let text = c.args.text.now in
    let old = c.loop-turn.bytes.items in
    let at = c.loop-turn.at in
    sym (next_turn (λ k. before old (repeated c.args.utf text k at)) (λ k. Some (old, at + 1)) (length text)
    c.loop-turn.turn c.loop-turn-test.true
    (λ k. repeated_closed c.args.utf text old at k (sym c.if-stands.ensures.value)))
    ∙ c.loop-turn.invariant.so_far

pub returns-in-None-clause-value : goal.returns-in-None-clause-value
returns-in-None-clause-value c =
    let text = c.args.text.now in
    let old = c.loop-turn.bytes.items in
    let at = c.loop-turn.at in
    let stops = rw c.in-None.is at c.in_ok-to.ensures.value in
    sym (next_turn (λ k. before old (repeated c.args.utf text k at)) (λ k. None) (length text) c.loop-turn.turn
    c.loop-turn-test.true (λ k. ap (before old) (stops k (sym c.if-stands.ensures.value))))
    ∙ c.loop-turn.invariant.so_far

pub loop-turn-preserved : goal.loop-turn-preserved
loop-turn-preserved c =
    let text = c.args.text.now in
    let old = c.loop-turn.bytes.items in
    let at = c.loop-turn.at in
    let goes = rw c.in-Some.is at c.in_ok-to.ensures.value in
    record {
      within = rw c.in-Some.is at c.in_ok-to.ensures.place;
      so_far = sym (next_turn (λ k. before old (repeated c.args.utf text k at))
          (λ k. before c.push_plain.new.bytes.items (repeated c.args.utf text k c.in-Some.to)) (length text)
          c.loop-turn.turn c.loop-turn-test.true (λ k. goes k (sym c.if-stands.ensures.value)))
          ∙ c.loop-turn.invariant.so_far;
    }

pub returns-clause-value : goal.returns-clause-value
returns-clause-value c =
    let text = c.args.text.now in
    let old = c.loop-turn.bytes.items in
    let at = c.loop-turn.at in
    sym (no_turn (λ k. before old (repeated c.args.utf text k at)) (length text) c.loop-turn.turn
    c.loop-turn-test.false) ∙ c.loop-turn.invariant.so_far
