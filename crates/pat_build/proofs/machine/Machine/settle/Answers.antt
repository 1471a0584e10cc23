use Rattle.std.proofs.Common.{sym, ◌∙◌}
use Rattle.pat_build.specs.Machine.{state_of, known_of}
use Rattle.pat_build.proofs.Steps.{quiet_due}
use Rattle.pat_build.proofs.machine.Machine.settle.Goals as goal

pub returns-clause-quiet : goal.returns-clause-quiet
returns-clause-quiet c =
    let m = c.flush.new.self in
    let plain = c.requires.plain in
    quiet_due (known_of m) m.text.now (state_of m) c.args.token plain.0 (c.in_ok-flush.ensures.there ∙ plain.1)
    m.calling
    (sym c.is_due.ensures ∙ c.if-is_due.false)
