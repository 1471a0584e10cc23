use Rattle.std.proofs.Common.{◌∙◌, ap, sym, Some}
use Rattle.pcre2_errors.specs.declared.error.MatchError.TheVariants.{BadUtf}
use Rattle.pcre2_api.proofs.Starting.{not-utf8}
use Rattle.pcre2_api.proofs.starts.test_start.Goals as goal

pub returns-in-Err-clause-refused : goal.returns-in-Err-clause-refused
returns-in-Err-clause-refused c =
    not-utf8 c.args.utf c.args.subject.now c.args.start c.if-subject-start.false c.if-not-utf.false
    c.in-Err.ensures.exact
    ∙ ap (λ n. Some (BadUtf n)) (sym c.in-Err.ensures.place)
