use Rattle.std.proofs.Common.{◌≡◌, ◌∙◌, ℕ, ◌+◌, ◌<◌, Bool, List, length, Result, Ok, Err, IfOk, IfErr, refl, sym, ap}
use Rattle.std.proofs.Common.{arith}
use Rattle.std.proofs.lemmas.Result.{err_from_is_err_and}
use Rattle.token_parts.specs.declared.token.Token.{Token}
use Rattle.token_parts.specs.declared.token.Token.TheVariants as token
use Rattle.pat_grammar.specs.State.{State}
use Rattle.pat_grammar.specs.Places.{state_at}
use Rattle.token_parts.specs.declared.fault.Fault.{Fault}
use Rattle.pat_grammar.proofs.Listed.{test_listed, test_inside}
use Rattle.pat_grammar.specs.Parts.{Assertion, look_by, automatic_lead, asserted_by, assertion}
use Rattle.pat_grammar.proofs.cursor.Cursor.assertion.Goals as goal

-- another token
no_callout : (calling : Bool) (text : List ℕ) (n at : ℕ) (found : Token) (here after : State)
    → ((number from to : ℕ) → found ≡ token.CalloutItem number from to → ⊥) →
    asserted_by calling text n at found here after ≡ look_by at (automatic_lead calling text here) found here after
no_callout calling text n at (token.CalloutItem number from to) here after p = absurd (p number from to refl)
no_callout calling text n at _ here after p = refl

on_ok : {A B : Type 0} {P Q : A → Type 0} (r : Result A B) → ((a : A) → P a → Q a) → IfOk r P → IfOk r Q
on_ok (Ok a) f h = f a h
on_ok (Err e) f h = tt

on_err : {A B : Type 0} {P Q : B → Type 0} (r : Result A B) → ((e : B) → P e → Q e) → IfErr r P → IfErr r Q
on_err (Ok a) f h = tt
on_err (Err e) f h = f e h

pub returns-in-Err-clause-bad : goal.returns-in-Err-clause-bad
unfolding assertion
returns-in-Err-clause-bad c st n h =
    rw (c.from.ensures, c.in-Err.ensures.bad st n h)
    (ap (λ (g : Fault). let r : Result Assertion Fault = Err g in r) (sym c.fault_of_test.ensures))

pub returns-in-Err-clause-number : goal.returns-in-Err-clause-number
returns-in-Err-clause-number c = rw (c.from.ensures, c.fault_of_test.ensures)
    (test_listed c.args.at c.in-Err.fault c.in-Err.ensures.number)

pub returns-in-Err-clause-place : goal.returns-in-Err-clause-place
returns-in-Err-clause-place c h =
    rw (c.from.ensures, c.fault_of_test.ensures)
    (test_inside c.args.at c.in-Err.fault c.args.self.now.text.now h c.in-Err.ensures.place)

pub returns-in_err-look-clause-number : goal.returns-in_err-look-clause-number
returns-in_err-look-clause-number c =
    let p = err_from_is_err_and c.from_residual-in_err-look.result c.from_residual-in_err-look.ensures.1 in
    rw (p.1, p.2, c.in_err-look.ensures.number) refl

pub returns-in_err-look-clause-place : goal.returns-in_err-look-clause-place
returns-in_err-look-clause-place c h =
    let p = err_from_is_err_and c.from_residual-in_err-look.result c.from_residual-in_err-look.ensures.1 in
    rw (p.1, p.2, c.in_err-look.ensures.place) h

pub returns-then-not-calling-clause-bad : goal.returns-then-not-calling-clause-bad
unfolding assertion
returns-then-not-calling-clause-bad c st n h =
    rw (c.in-Ok.ensures.found st n h, c.in-CalloutItem.is, c.if-not-calling.true) refl

pub returns-in-CalloutItem-clause-found : goal.returns-in-CalloutItem-clause-found
unfolding assertion
returns-in-CalloutItem-clause-found c =
    on_ok c.called_look.result (λ a found st n h.
    let later : length c.args.self.now.text.now < n + c.in-Ok.spot.after.at =
    omega (arith, h, c.in-Ok.ensures.past, c.in-Ok.ensures.onward) in
    rw (c.in-Ok.ensures.found st n h, c.in-CalloutItem.is, c.if-not-calling.false) (found st n later))
    c.called_look.ensures.found

pub returns-in-CalloutItem-clause-bad : goal.returns-in-CalloutItem-clause-bad
unfolding assertion
returns-in-CalloutItem-clause-bad c =
    on_err c.called_look.result (λ e bad st n h.
    let later : length c.args.self.now.text.now < n + c.in-Ok.spot.after.at =
    omega (arith, h, c.in-Ok.ensures.past, c.in-Ok.ensures.onward) in
    rw (c.in-Ok.ensures.found st n h, c.in-CalloutItem.is, c.if-not-calling.false) (bad st n later))
    c.called_look.ensures.bad

pub returns-in_err-look-clause-bad : goal.returns-in_err-look-clause-bad
unfolding assertion
returns-in_err-look-clause-bad c =
    let p = err_from_is_err_and c.from_residual-in_err-look.result c.from_residual-in_err-look.ensures.1 in
    let v = c.args.self.now in
    let s = c.in-Ok.spot in
    rw (p.1, p.2) (λ st n h.
    rw (c.in-Ok.ensures.found st n h)
    (no_callout _ _ _ _ _ _ _ c.in_default.not-CalloutItem
    ∙ ap (λ lead. look_by c.args.at lead s.token (state_at v st s.here) (state_at v st s.after))
    (c.in_ok-lead.ensures.value st) ∙ c.in_err-look.ensures.bad st))

pub returns-clause-found : goal.returns-clause-found
unfolding assertion
returns-clause-found c st n h =
    let v = c.args.self.now in
    let s = c.in-Ok.spot in
    rw (c.in-Ok.ensures.found st n h)
    (no_callout _ _ _ _ _ _ _ c.in_default.not-CalloutItem
    ∙ ap (λ lead. look_by c.args.at lead s.token (state_at v st s.here) (state_at v st s.after))
    (c.in_ok-lead.ensures.value st) ∙ c.in_ok-look.ensures.found st)
