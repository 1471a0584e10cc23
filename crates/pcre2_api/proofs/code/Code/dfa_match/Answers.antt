use Rattle.std.proofs.Common.{◌≡◌, ◌∙◌, Result, Err, sym, subst}
use Rattle.match_drive.specs.match_starts.Asked.{passed_over}
use Rattle.pcre2_api.specs.Matched.{search_of}
use Rattle.pcre2_api.specs.DfaMatched.{IsDfaError}
use Rattle.pcre2_api.proofs.DfaMatching.{start_refused, never_large}
use Rattle.pcre2_api.proofs.code.Code.dfa_match.Goals as goal

err_is : {A B : Type 0} {a b : B} → (let r : Result A B = Err a in r) ≡ Err b → a ≡ b
err_is h = cc

pub returns-in-Err-clause-refused : goal.returns-in-Err-clause-refused
returns-in-Err-clause-refused g c =
    let asked = search_of c.args.self.now c.args.options.now c.args.subject.now c.args.start passed_over in
    subst (IsDfaError asked) (sym c.start_error.ensures)
    (start_refused asked c.in-Err.e c.in-Err.ensures.refused)

pub returns-in-Err-clause-large : goal.returns-in-Err-clause-large
returns-in-Err-clause-large g c = λ is. absurd (never_large c.in-Err.e (sym c.start_error.ensures ∙ err_is is))
