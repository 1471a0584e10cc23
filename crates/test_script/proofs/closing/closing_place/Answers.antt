use Rattle.std.proofs.Common.{sym, ◌∙◌, eq-eqb, ne_eqb, get_or}
use Rattle.test_script.specs.Script.{closing_place}
use Rattle.test_script.proofs.Closings.{plus_nothing, closed_at, closed_after_pair, closed_after_one}
use Rattle.test_script.proofs.closing.closing_place.Goals as goal
use Rattle.test_script.proofs.closing.closing_place.Goals.{then-line-at-eq92, else-line-at-eq92}

pub loop-at-init : goal.loop-at-init
loop-at-init c = plus_nothing (closing_place c.args.delimiter c.args.line.now)

pub returns-then-line-at-clause-value : goal.returns-then-line-at-clause-value
returns-then-line-at-clause-value c =
    let line = c.args.line.now in
    let at = c.loop-at.at in
    sym (closed_at c.args.delimiter line at c.loop-at-test.true
    (eq-eqb (get_or line at 0) c.args.delimiter c.if-line-at.true)) ∙ c.loop-at.invariant

pub loop-at-preserved : goal.loop-at-preserved
loop-at-preserved c =
    let line = c.args.line.now in
    let at = c.loop-at.at in
    let d = c.args.delimiter in
    let other = ne_eqb (get_or line at 0) d c.if-line-at.false in
    elim c.if-line-at-eq92.branch [
      | then-line-at-eq92 w ↦
          rw w.at-is (closed_after_pair d line at (closing_place d line) c.loop-at-test.true other
          (eq-eqb (get_or line at 0) 92 w.if-line-at-eq92.true) c.loop-at.invariant)
      | else-line-at-eq92 w ↦
          rw w.at-is (closed_after_one d line at (closing_place d line) c.loop-at-test.true other
          (ne_eqb (get_or line at 0) 92 w.if-line-at-eq92.false) c.loop-at.invariant)
    ]
