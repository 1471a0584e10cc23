use Rattle.std.proofs.Common.{arith}
use Rattle.std.proofs.lemmas.Result.{err_from_is_err_and}
use Rattle.pat_grammar.specs.Places.{state_at}
use Rattle.pat_grammar.proofs.Spots.{begins_there, passes_on, passes_to, passes_bad}
use Rattle.pat_grammar.proofs.cursor.Cursor.item.Goals as goal

pub passing-init : goal.passing-init
passing-init c = begins_there c.args.self.now c.args.in_class c.args.place c.requires

pub passing-preserved : goal.passing-preserved
passing-preserved c =
    (passes_on c.args.self.now c.args.in_class c.args.place c.passing.here c.in_ok-token.token c.in_ok-token.at
    c.passing.invariant c.in_ok-token.ensures.value c.in_ok-token.ensures.moves c.in-Some.beyond
    (λ st. c.in-Some.ensures.value (state_at c.args.self.now st c.passing.here)) c.in-Some.ensures.stays).0

pub passing-smaller : goal.passing-smaller
passing-smaller c =
    let on = passes_on c.args.self.now c.args.in_class c.args.place c.passing.here c.in_ok-token.token
    c.in_ok-token.at c.passing.invariant c.in_ok-token.ensures.value c.in_ok-token.ensures.moves c.in-Some.beyond
    (λ st. c.in-Some.ensures.value (state_at c.args.self.now st c.passing.here)) c.in-Some.ensures.stays in
    omega (arith, on.0.within, on.1)

pub returns-in-None-clause-found : goal.returns-in-None-clause-found
returns-in-None-clause-found c =
    passes_to c.args.self.now c.args.in_class c.args.place c.passing.here c.in_ok-token.token c.in_ok-token.at
    c.passing.invariant c.in_ok-token.ensures.value
    (λ st. c.in-None.ensures.value (state_at c.args.self.now st c.passing.here))

pub returns-in_err-token-clause-bad : goal.returns-in_err-token-clause-bad
returns-in_err-token-clause-bad c =
    let p = err_from_is_err_and c.from_residual.result c.from_residual.ensures.1 in
    rw (p.1, p.2)
    (passes_bad c.args.self.now c.args.in_class c.args.place c.passing.here c.in_err-token.field-0.0
    c.passing.invariant c.in_err-token.ensures.value)
