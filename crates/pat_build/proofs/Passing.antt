-- What is passed over begins nothing.
use Rattle.std.proofs.Common.{◌≡◌, ℕ, List, Option, Some, None, Result, Ok, true, false, ap}
use Rattle.token_parts.specs.declared.fault.Fault.{Fault}
use Rattle.token_parts.specs.declared.token.Token.{Token}
use Rattle.token_parts.specs.declared.token.Token.TheVariants.{Passed, QuoteOn, QuoteOff}
use Rattle.pat_grammar.specs.State.{State, Known, passed_over}
use Rattle.pat_grammar.specs.Parts.{Beginning, nothing, beginning}

abbrev given : State → Option State → State
given st None = st
given st (Some beyond) = beyond

pub passed_begins : (known : Known) (text : List ℕ) (n : ℕ) (st : State) (found : Token) (before beyond : State)
    → passed_over found before ≡ Some beyond →
    beginning known text n st found before ≡ Ok (nothing beyond)
passed_begins known text n st Passed before beyond over =
    ap (λ o. let x : Result Beginning Fault = Ok (nothing (given before o)) in x) over
passed_begins known text n st QuoteOn before beyond over =
    ap (λ o. let x : Result Beginning Fault = Ok (nothing (given (record before { quoting = true }) o)) in x) over
passed_begins known text n st QuoteOff before beyond over =
    ap (λ o. let x : Result Beginning Fault = Ok (nothing (given (record before { quoting = false }) o)) in x) over
passed_begins known text n st _ before beyond over = cc
