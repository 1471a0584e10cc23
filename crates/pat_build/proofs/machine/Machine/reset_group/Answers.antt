use Rattle.std.proofs.Common.{◌≤◌, ◌<◌, length, arith, refl}
use Rattle.token_parts.specs.declared.token.Token.TheVariants.{Open}
use Rattle.token_parts.specs.declared.token.OpenKind.TheVariants.{BranchReset}
use Rattle.pat_build.specs.Machine.{state_of}
use Rattle.pat_build.proofs.Beginning.{reset_deep, reset_fits}
use Rattle.pat_build.proofs.Waiting.{bad_means}
use Rattle.pat_build.proofs.machine.Machine.reset_group.Goals as goal

pub returns-then-len-ge-DEEPEST-clause-bad : goal.returns-then-len-ge-DEEPEST-clause-bad
returns-then-len-ge-DEEPEST-clause-bad c =
    let m = c.args.self.now in
    let deep : 250 ≤ length m.stack.items = omega (arith, c.len.ensures, c.if-len-ge-DEEPEST.true, m.stack.ok.0) in
    rw c.fault.ensures
    (bad_means m c.requires.means (Open BranchReset) c.args.after _ c.requires
    (λ n h. rw (reset_deep (state_of m) (record (state_of m) { at = c.args.after }) deep) refl))

pub enter-requires-clause-ready : goal.enter-requires-clause-ready
enter-requires-clause-ready c =
    let m = c.args.self.now in
    let fits : length m.stack.items < 250 = omega (arith, c.len.ensures, c.if-len-ge-DEEPEST.false, m.stack.ok.0) in
    rw (c.inside.ensures, c.plain.ensures) (
      Open BranchReset,
      c.requires,
      λ n h. rw (reset_fits (state_of m) (record (state_of m) { at = c.args.after }) fits) refl,
    )
