use Rattle.std.proofs.Common.{◌≤◌, ◌<◌, length, arith}
use Rattle.token_parts.specs.declared.token.Token.TheVariants.{Open}
use Rattle.token_parts.specs.declared.token.OpenKind.TheVariants.{Capture}
use Rattle.pat_build.specs.Machine.{known_of, state_of}
use Rattle.pat_build.proofs.Beginning.{captured_deep, captured_many, captured_fits, capture_is}
use Rattle.pat_build.proofs.Waiting.{bad_means}
use Rattle.pat_build.proofs.machine.Machine.capturing_group.Goals as goal

pub returns-then-len-ge-DEEPEST-clause-bad : goal.returns-then-len-ge-DEEPEST-clause-bad
returns-then-len-ge-DEEPEST-clause-bad c =
    let m = c.args.self.now in
    let ready = c.requires.ready in
    let deep : 250 ≤ length m.stack.items = omega (arith, c.len.ensures, c.if-len-ge-DEEPEST.true, m.stack.ok.0) in
    rw c.fault.ensures
    (bad_means m ready.means (Open Capture) c.args.after _ ready
    (λ n h. capture_is (known_of m) m.text.now n (state_of m) (record (state_of m) { at = c.args.after })
    c.requires.captures _ (captured_deep (state_of m) (record (state_of m) { at = c.args.after }) deep)))

pub returns-then-self-ge-GREATEST-clause-bad : goal.returns-then-self-ge-GREATEST-clause-bad
returns-then-self-ge-GREATEST-clause-bad c =
    let m = c.args.self.now in
    let ready = c.requires.ready in
    let fits : length m.stack.items < 250 = omega (arith, c.len.ensures, c.if-len-ge-DEEPEST.false, m.stack.ok.0) in
    rw c.fault-then-self-ge-GREATEST.ensures
    (bad_means m ready.means (Open Capture) c.args.after _ ready
    (λ n h. capture_is (known_of m) m.text.now n (state_of m) (record (state_of m) { at = c.args.after })
    c.requires.captures _ (captured_many (state_of m) (record (state_of m) { at = c.args.after }) fits
    c.if-self-ge-GREATEST.true)))

pub enter-requires-clause-ready : goal.enter-requires-clause-ready
enter-requires-clause-ready c =
    let m = c.args.self.now in
    let fits : length m.stack.items < 250 = omega (arith, c.len.ensures, c.if-len-ge-DEEPEST.false, m.stack.ok.0) in
    rw c.inside.ensures (
      Open Capture,
      c.requires.ready,
      λ n h. capture_is (known_of m) m.text.now n (state_of m) (record (state_of m) { at = c.args.after })
          c.requires.captures _ (captured_fits (state_of m) (record (state_of m) { at = c.args.after }) fits
          c.if-self-ge-GREATEST.false),
    )
