use Rattle.std.proofs.Common.{◌∙◌, ◌≤◌, ◌<◌, length, slice_range, arith, refl}
use Rattle.std.proofs.lemmas.Result.{err_from_is_err_and}
use Rattle.token_parts.specs.declared.token.Token.TheVariants.{CondStart}
use Rattle.pat_nodes.specs.Nodes.{form_of}
use Rattle.pat_build.specs.Machine.{state_of, known_of}
use Rattle.pat_build.proofs.Beginning.{worded_is, conditions_deep, conditions_refuse, conditions_fit}
use Rattle.pat_build.proofs.Waiting.{bad_means, condition_refuses}
use Rattle.pat_build.proofs.machine.Machine.worded_condition.Goals as goal

pub returns-then-len-ge-DEEPEST-clause-bad : goal.returns-then-len-ge-DEEPEST-clause-bad
returns-then-len-ge-DEEPEST-clause-bad c =
    let m = c.args.self.now in
    let word = slice_range m.text.now c.args.from c.args.to in
    let deep : 250 ≤ length m.stack.items = omega (arith, c.len.ensures, c.if-len-ge-DEEPEST.true, m.stack.ok.0) in
    rw c.fault.ensures
    (bad_means m c.requires.ready.means (CondStart c.args.cond c.args.from c.args.to) c.args.after _ c.requires.ready
    (λ n h. worded_is (known_of m) m.text.now n (state_of m) c.args.cond c.args.from c.args.to
    (record (state_of m) { at = c.args.after }) c.requires.worded
    ∙ conditions_deep (known_of m).names m.text.now (state_of m) c.args.cond word
    (record (state_of m) { at = c.args.after }) deep))

pub returns-in_err-form-clause-bad : goal.returns-in_err-form-clause-bad
returns-in_err-form-clause-bad c =
    let m = c.args.self.now in
    let p = err_from_is_err_and c.from_residual.result c.from_residual.ensures.1 in
    let word = slice_range m.text.now c.args.from c.args.to in
    let fits : length m.stack.items < 250 = omega (arith, c.len.ensures, c.if-len-ge-DEEPEST.false, m.stack.ok.0) in
    rw (p.1, p.2)
    (condition_refuses m c.requires.ready.means c.args.cond c.args.from c.args.to c.args.after c.in_err-form.field-0.0
    c.requires.worded c.requires.ready
    (conditions_refuse (known_of m).names m.text.now (state_of m) c.args.cond word
    (record (state_of m) { at = c.args.after }) fits c.in_err-form.field-0.0 c.in_err-form.ensures.bad))

pub enter-requires-clause-ready : goal.enter-requires-clause-ready
enter-requires-clause-ready c =
    let m = c.args.self.now in
    let word = slice_range m.text.now c.args.from c.args.to in
    let fits : length m.stack.items < 250 = omega (arith, c.len.ensures, c.if-len-ge-DEEPEST.false, m.stack.ok.0) in
    rw c.inside.ensures (
      CondStart c.args.cond c.args.from c.args.to,
      c.requires.ready,
      λ n h. worded_is (known_of m) m.text.now n (state_of m) c.args.cond c.args.from c.args.to
          (record (state_of m) { at = c.args.after }) c.requires.worded
          ∙ rw c.beyond_after-beyond.ensures (conditions_fit (known_of m).names m.text.now (state_of m) c.args.cond
          word (record (state_of m) { at = c.args.after }) fits (form_of c.in_ok-form.form)
          c.in_ok-form.ensures.ok),
    )

pub enter-requires-clause-numbered : goal.enter-requires-clause-numbered
enter-requires-clause-numbered c = rw (c.in_ok-form.ensures.numberless, c.inside.ensures) refl
