use Rattle.std.proofs.Common.{◌≡◌, ◌∙◌, Err, IfErr, length, pos, sym, ap, subst, rules}
use Rattle.pat_tree.specs.Pattern.{pattern_of}
use Rattle.pcre2_api.specs.Matched.{search_of, IsFound}
use Rattle.pcre2_api.specs.Walks.{answer, answer_at}
use Rattle.pcre2_api.specs.Substituted.{work_of, added_by, IsAdded, Refuses}
use Rattle.pcre2_api.proofs.Walking.{Says, answer-found, answer-error, told-as, told-match}
use Rattle.pcre2_api.proofs.substitute.Rewriting.replace_next.Goals as goal

pub returns-in_err-add-in-Ok-clause-refused : goal.returns-in_err-add-in-Ok-clause-refused
returns-in_err-add-in-Ok-clause-refused c =
    let w = work_of c.args.self.now in
    let code = c.args.self.now.code.now in
    let subject = c.args.self.now.subject.now in
    let from = c.args.from in
    let f = c.new-found.result in
    let is = subst (IsFound (search_of code c.matching_at-options.result subject c.args.at (λ block. pos 0)))
    (sym c.new-found.ensures) c.in-Ok.ensures.found in
    let asks = ap (λ m. answer_at (pattern_of code.tree) m subject c.args.at) c.matching_at-options.ensures in
    let here = sym asks ∙ answer-found code c.matching_at-options.result subject c.args.at f is in
    let e = c.in_err-add-in-Ok.field-0.0 in
    let same : c.from_residual.result ≡ Err e = search rules in
    subst (λ r. IfErr r
    (Refuses (added_by w from (answer w.pattern c.args.self.now.options subject c.args.again c.args.at))))
    (sym same)
    (subst (λ a. Refuses (added_by w from a) e) (sym here) c.in_err-add-in-Ok.ensures.refused)

pub returns-in_ok-add-in-Ok-clause-comes : goal.returns-in_ok-add-in-Ok-clause-comes
returns-in_ok-add-in-Ok-clause-comes c =
    let code = c.args.self.now.code.now in
    let subject = c.args.self.now.subject.now in
    let f = c.new-found.result in
    let is = subst (IsFound (search_of code c.matching_at-options.result subject c.args.at (λ block. pos 0)))
    (sym c.new-found.ensures) c.in-Ok.ensures.found in
    let asks = ap (λ m. answer_at (pattern_of code.tree) m subject c.args.at) c.matching_at-options.ensures in
    let here = sym asks ∙ answer-found code c.matching_at-options.result subject c.args.at f is in
    told-match (length subject) _ f.outcome c.found_at.result here c.found_at.ensures is.placed.within

pub returns-in_ok-add-in-Ok-clause-added : goal.returns-in_ok-add-in-Ok-clause-added
returns-in_ok-add-in-Ok-clause-added c =
    let w = work_of c.args.self.now in
    let code = c.args.self.now.code.now in
    let subject = c.args.self.now.subject.now in
    let f = c.new-found.result in
    let is = subst (IsFound (search_of code c.matching_at-options.result subject c.args.at (λ block. pos 0)))
    (sym c.new-found.ensures) c.in-Ok.ensures.found in
    let asks = ap (λ m. answer_at (pattern_of code.tree) m subject c.args.at) c.matching_at-options.ensures in
    let here = sym asks ∙ answer-found code c.matching_at-options.result subject c.args.at f is in
    subst (λ a. IsAdded c.args.out.now.items c.add.new.out.items (added_by w c.args.from a)) (sym here)
    c.in_ok-add-in-Ok.ensures.added

pub returns-in-Err-clause-comes : goal.returns-in-Err-clause-comes
returns-in-Err-clause-comes c =
    let w = work_of c.args.self.now in
    let code = c.args.self.now.code.now in
    let subject = c.args.self.now.subject.now in
    let asks = ap (λ m. answer_at (pattern_of code.tree) m subject c.args.at) c.matching_at-options.ensures in
    let says = subst (Says c.in-Err.e) asks (answer-error code c.matching_at-options.result subject c.args.at
    c.in-Err.e c.in-Err.ensures.refused) in
    (told-as w c.args.from c.args.out.now.items _ c.tell.result c.in-Err.e says c.tell.ensures).comes

pub returns-in-Err-clause-added : goal.returns-in-Err-clause-added
returns-in-Err-clause-added c =
    let w = work_of c.args.self.now in
    let code = c.args.self.now.code.now in
    let subject = c.args.self.now.subject.now in
    let asks = ap (λ m. answer_at (pattern_of code.tree) m subject c.args.at) c.matching_at-options.ensures in
    let says = subst (Says c.in-Err.e) asks (answer-error code c.matching_at-options.result subject c.args.at
    c.in-Err.e c.in-Err.ensures.refused) in
    (told-as w c.args.from c.args.out.now.items _ c.tell.result c.in-Err.e says c.tell.ensures).added

pub returns-in-Err-clause-refused : goal.returns-in-Err-clause-refused
returns-in-Err-clause-refused c =
    let w = work_of c.args.self.now in
    let code = c.args.self.now.code.now in
    let subject = c.args.self.now.subject.now in
    let asks = ap (λ m. answer_at (pattern_of code.tree) m subject c.args.at) c.matching_at-options.ensures in
    let says = subst (Says c.in-Err.e) asks (answer-error code c.matching_at-options.result subject c.args.at
    c.in-Err.e c.in-Err.ensures.refused) in
    (told-as w c.args.from c.args.out.now.items _ c.tell.result c.in-Err.e says c.tell.ensures).refused
