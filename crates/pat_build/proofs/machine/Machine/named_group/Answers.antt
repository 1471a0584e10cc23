use Rattle.std.proofs.Common.{◌≤◌, ◌<◌, length, arith, refl, slice_range, sym}
use Rattle.token_parts.specs.declared.token.Token.TheVariants.{Open}
use Rattle.token_parts.specs.declared.token.OpenKind.TheVariants.{Named}
use Rattle.pat_build.specs.Machine.{state_of}
use Rattle.pat_build.proofs.Beginning.{named_deep, named_many, named_twice, named_other, named_fits}
use Rattle.pat_build.proofs.Waiting.{bad_means}
use Rattle.pat_build.proofs.machine.Machine.named_group.Goals as goal

pub returns-then-len-ge-DEEPEST-clause-bad : goal.returns-then-len-ge-DEEPEST-clause-bad
returns-then-len-ge-DEEPEST-clause-bad c =
    let m = c.args.self.now in
    let name = slice_range m.text.now c.args.from c.args.to in
    let deep : 250 ≤ length m.stack.items = omega (arith, c.len.ensures, c.if-len-ge-DEEPEST.true, m.stack.ok.0) in
    rw c.fault.ensures
    (bad_means m c.requires.means (Open (Named c.args.from c.args.to)) c.args.after _ c.requires
    (λ n h. rw (named_deep (state_of m) name (record (state_of m) { at = c.args.after }) deep) refl))

pub returns-then-self-ge-GREATEST-clause-bad : goal.returns-then-self-ge-GREATEST-clause-bad
returns-then-self-ge-GREATEST-clause-bad c =
    let m = c.args.self.now in
    let name = slice_range m.text.now c.args.from c.args.to in
    let fits : length m.stack.items < 250 = omega (arith, c.len.ensures, c.if-len-ge-DEEPEST.false, m.stack.ok.0) in
    rw c.fault-then-self-ge-GREATEST.ensures
    (bad_means m c.requires.means (Open (Named c.args.from c.args.to)) c.args.after _ c.requires
    (λ n h. rw (named_many (state_of m) name (record (state_of m) { at = c.args.after }) fits
    c.if-self-ge-GREATEST.true) refl))

pub returns-then-is_taken-clause-bad : goal.returns-then-is_taken-clause-bad
returns-then-is_taken-clause-bad c =
    let m = c.args.self.now in
    let name = slice_range m.text.now c.args.from c.args.to in
    let fits : length m.stack.items < 250 = omega (arith, c.len.ensures, c.if-len-ge-DEEPEST.false, m.stack.ok.0) in
    rw c.fault-then-is_taken.ensures
    (bad_means m c.requires.means (Open (Named c.args.from c.args.to)) c.args.after _ c.requires
    (λ n h. rw (named_twice (state_of m) name (record (state_of m) { at = c.args.after }) fits
    c.if-self-ge-GREATEST.false (sym c.if-is_taken.ensures)) refl))

pub returns-then-is_other-clause-bad : goal.returns-then-is_other-clause-bad
returns-then-is_other-clause-bad c =
    let m = c.args.self.now in
    let name = slice_range m.text.now c.args.from c.args.to in
    let fits : length m.stack.items < 250 = omega (arith, c.len.ensures, c.if-len-ge-DEEPEST.false, m.stack.ok.0) in
    rw c.fault-then-is_other.ensures
    (bad_means m c.requires.means (Open (Named c.args.from c.args.to)) c.args.after _ c.requires
    (λ n h. rw (named_other (state_of m) name (record (state_of m) { at = c.args.after }) fits
    c.if-self-ge-GREATEST.false (sym c.if-is_taken.ensures)
    (rw c.names.ensures at (sym c.if-is_other.ensures))) refl))

pub enter-requires-clause-ready : goal.enter-requires-clause-ready
enter-requires-clause-ready c =
    let m = c.args.self.now in
    let name = slice_range m.text.now c.args.from c.args.to in
    let fits : length m.stack.items < 250 = omega (arith, c.len.ensures, c.if-len-ge-DEEPEST.false, m.stack.ok.0) in
    rw c.inside.ensures (
      Open (Named c.args.from c.args.to),
      c.requires,
      λ n h. rw (named_fits (state_of m) name (record (state_of m) { at = c.args.after }) fits
          c.if-self-ge-GREATEST.false (sym c.if-is_taken.ensures)
          (rw c.names.ensures at (sym c.if-is_other.ensures))) refl,
    )
