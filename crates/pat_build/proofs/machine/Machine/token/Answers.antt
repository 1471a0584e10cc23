use Rattle.std.proofs.Common.{◌≤◌, length, sym, ◌∙◌, subst}
use Rattle.pat_grammar.proofs.Listed.{own_listed}
use Rattle.pat_build.proofs.Waiting.{fault_means, token_same}
use Rattle.pat_build.proofs.machine.Machine.token.Goals as goal

pub returns-in-Err-clause-bad : goal.returns-in-Err-clause-bad
returns-in-Err-clause-bad c =
    let m = c.args.self.now in
    let v = c.cursor-cursor.result in
    let is = c.cursor-cursor.ensures in
    rw c.from.ensures (fault_means m c.requires c.in-Err.fault
    (token_same m v.text.now v.place v.options v.groups is.text is.place is.options is.groups
    ∙ sym c.in-Err.ensures.value))

pub returns-in-Err-clause-number : goal.returns-in-Err-clause-number
returns-in-Err-clause-number c = rw c.from.ensures (own_listed c.in-Err.fault.number c.in-Err.ensures.number)

pub returns-in-Err-clause-place : goal.returns-in-Err-clause-place
returns-in-Err-clause-place c =
    rw c.from.ensures
    (subst (λ text. c.in-Err.fault.at ≤ length text) c.cursor-cursor.ensures.text c.in-Err.ensures.place)
