use Rattle.std.proofs.Common.{◌∙◌, ◌≤◌, ◌<◌, length, arith, refl}
use Rattle.pat_nodes.specs.Nodes.{form_of}
use Rattle.pat_build.specs.Machine.{state_of}
use Rattle.pat_build.proofs.Beginning.{opened_deep, opened_fits}
use Rattle.pat_build.proofs.Waiting.{bad_means}
use Rattle.pat_build.proofs.machine.Machine.plain_group.Goals as goal

pub returns-then-len-ge-DEEPEST-clause-bad : goal.returns-then-len-ge-DEEPEST-clause-bad
returns-then-len-ge-DEEPEST-clause-bad c =
    let m = c.args.self.now in
    let deep : 250 ≤ length m.stack.items = omega (arith, c.len.ensures, c.if-len-ge-DEEPEST.true, m.stack.ok.0) in
    rw c.fault.ensures
    (bad_means m c.requires.ready.1.means c.requires.ready.0 c.args.after _ c.requires.ready.1
    (λ n h. c.requires.ready.2 n h
    ∙ rw (opened_deep (state_of m) (form_of c.args.form) (record (state_of m) {
      at = c.args.after;
      options = c.args.options;
    }) deep) refl))

pub enter-requires-clause-ready : goal.enter-requires-clause-ready
enter-requires-clause-ready c =
    let m = c.args.self.now in
    let fits : length m.stack.items < 250 = omega (arith, c.len.ensures, c.if-len-ge-DEEPEST.false, m.stack.ok.0) in
    rw c.inside.ensures (
      c.requires.ready.0,
      c.requires.ready.1,
      λ n h. c.requires.ready.2 n h
          ∙ rw (opened_fits (state_of m) (form_of c.args.form) (record (state_of m) {
            at = c.args.after;
            options = c.args.options;
          }) fits) refl,
    )
