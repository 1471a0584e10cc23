use Rattle.std.proofs.Common.{ap, refl, sym, ◌∙◌, Result, Err}
use Rattle.std.proofs.lemmas.Result.{err_from_is_err_and}
use Rattle.token_parts.specs.declared.fault.Fault.{Fault}
use Rattle.pat_grammar.specs.Parts.{Assertion, look_by}
use Rattle.pat_grammar.proofs.Listed.{look_listed, look_inside}
use Rattle.pat_grammar.specs.Places.{state_at}
use Rattle.pat_grammar.proofs.cursor.Cursor.called_look.Goals as goal

pub returns-in-Err-clause-bad : goal.returns-in-Err-clause-bad
returns-in-Err-clause-bad c st n h =
    rw (c.from.ensures, c.in-Err.ensures.bad st n h)
    (ap (λ (g : Fault). let r : Result Assertion Fault = Err g in r) (sym c.fault_of_look.ensures))

pub returns-in-Err-clause-number : goal.returns-in-Err-clause-number
returns-in-Err-clause-number c = rw (c.from.ensures, c.fault_of_look.ensures)
    (look_listed c.args.at c.in-Err.fault c.in-Err.ensures.number)

pub returns-in-Err-clause-place : goal.returns-in-Err-clause-place
returns-in-Err-clause-place c h =
    rw (c.from.ensures, c.fault_of_look.ensures)
    (look_inside c.args.at c.in-Err.fault c.args.self.now.text.now h c.in-Err.ensures.place)

pub returns-in_err-look-clause-number : goal.returns-in_err-look-clause-number
returns-in_err-look-clause-number c =
    let p = err_from_is_err_and c.from_residual-in_err-look.result c.from_residual-in_err-look.ensures.1 in
    rw (p.1, p.2, c.in_err-look.ensures.number) refl

pub returns-in_err-look-clause-place : goal.returns-in_err-look-clause-place
returns-in_err-look-clause-place c h =
    let p = err_from_is_err_and c.from_residual-in_err-look.result c.from_residual-in_err-look.ensures.1 in
    rw (p.1, p.2, c.in_err-look.ensures.place) h

pub returns-in_err-look-clause-bad : goal.returns-in_err-look-clause-bad
returns-in_err-look-clause-bad c =
    let p = err_from_is_err_and c.from_residual-in_err-look.result c.from_residual-in_err-look.ensures.1 in
    let v = c.args.self.now in
    let s = c.in-Ok.spot in
    rw (p.1, p.2) (λ st n h.
    rw (c.in-Ok.ensures.found st n h)
    (ap (λ lead. look_by c.args.at lead s.token (state_at v st s.here) (state_at v st s.after))
    (c.in_ok-lead.ensures.value st) ∙ c.in_err-look.ensures.bad st))

pub returns-clause-found : goal.returns-clause-found
returns-clause-found c st n h =
    let v = c.args.self.now in
    let s = c.in-Ok.spot in
    rw (c.in-Ok.ensures.found st n h)
    (ap (λ lead. look_by c.args.at lead s.token (state_at v st s.here) (state_at v st s.after))
    (c.in_ok-lead.ensures.value st) ∙ c.in_ok-look.ensures.found st)
