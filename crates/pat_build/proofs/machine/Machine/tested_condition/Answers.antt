use Rattle.std.proofs.Common.{◌+◌, ◌≤◌, ◌<◌, length, arith}
use Rattle.std.proofs.lemmas.Result.{err_from_is_err_and}
use Rattle.token_parts.specs.declared.token.Token.TheVariants.{CondStart}
use Rattle.token_parts.specs.declared.token.CondText.TheVariants.{Lookaround}
use Rattle.pat_build.specs.Machine.{state_of}
use Rattle.pat_build.proofs.Beginning.{before_test, assertions_deep}
use Rattle.pat_build.proofs.Waiting.{bad_means, assertion_refuses, assertion_deep, assertion_begins}
use Rattle.pat_build.proofs.machine.Machine.tested_condition.Goals as goal

pub returns-then-len-ge-DEEPEST-clause-bad : goal.returns-then-len-ge-DEEPEST-clause-bad
returns-then-len-ge-DEEPEST-clause-bad c =
    let m = c.args.self.now in
    let deep : 250 ≤ length m.stack.items = omega (arith, c.len.ensures, c.if-len-ge-DEEPEST.true, m.stack.ok.0) in
    rw c.fault.ensures
    (bad_means m c.requires.means (CondStart Lookaround c.args.from c.args.to) c.args.after _ c.requires
    (λ n h. assertions_deep m.calling m.text.now n (state_of m) (record (state_of m) { at = c.args.after }) deep))

pub returns-in_err-test-clause-bad : goal.returns-in_err-test-clause-bad
returns-in_err-test-clause-bad c =
    let m = c.args.self.now in
    let p = err_from_is_err_and c.from_residual.result c.from_residual.ensures.1 in
    let v = c.cursor-cursor.result in
    let is = c.cursor-cursor.ensures in
    let fits : length m.stack.items < 250 = omega (arith, c.len.ensures, c.if-len-ge-DEEPEST.false, m.stack.ok.0) in
    rw (p.1, p.2)
    (assertion_refuses m c.requires.means c.args.from c.args.to c.args.after v.text.now v.place v.options v.groups
    is.text is.place is.options is.groups c.requires fits c.in_err-test.field-0.0
    (λ n h. c.in_err-test.ensures.bad (before_test (state_of m) (state_of m)) n h))

pub returns-then-len-ge-DEEPEST-2-clause-bad : goal.returns-then-len-ge-DEEPEST-2-clause-bad
returns-then-len-ge-DEEPEST-2-clause-bad c =
    let m = c.args.self.now in
    let v = c.cursor-cursor.result in
    let is = c.cursor-cursor.ensures in
    let fits : length m.stack.items < 250 = omega (arith, c.len.ensures, c.if-len-ge-DEEPEST.false, m.stack.ok.0) in
    let deep : 250 ≤ length m.stack.items + 1 =
    omega (arith, c.len-2.ensures, c.if-len-ge-DEEPEST-2.true, m.stack.ok.0) in
    assertion_deep m c.requires.means c.args.from c.args.to c.args.after v.text.now v.place v.options v.groups is.text
    is.place is.options is.groups c.requires fits c.in_ok-test.test
    (λ n h. c.in_ok-test.ensures.found (before_test (state_of m) (state_of m)) n h) deep

pub enter_assertion-requires-clause-ready : goal.enter_assertion-requires-clause-ready
enter_assertion-requires-clause-ready c =
    let m = c.args.self.now in
    let v = c.cursor-cursor.result in
    let is = c.cursor-cursor.ensures in
    let fits : length m.stack.items < 250 = omega (arith, c.len.ensures, c.if-len-ge-DEEPEST.false, m.stack.ok.0) in
    let fit : length m.stack.items + 1 < 250 =
    omega (arith, c.len-2.ensures, c.if-len-ge-DEEPEST-2.false, m.stack.ok.0) in
    let past : c.args.after ≤ c.in_ok-test.test.here.at = rw (is.place) at c.in_ok-test.ensures.past in (
      CondStart Lookaround c.args.from c.args.to,
      c.args.after,
      c.requires,
      omega (arith, past, c.in_ok-test.ensures.onward),
      assertion_begins m c.requires.means c.args.from c.args.to c.args.after v.text.now v.place v.options v.groups
          is.text is.place is.options is.groups c.requires fits c.in_ok-test.test
          (λ n h. c.in_ok-test.ensures.found (before_test (state_of m) (state_of m)) n h) fit,
    )
