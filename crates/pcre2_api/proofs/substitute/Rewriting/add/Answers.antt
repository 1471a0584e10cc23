use Rattle.std.proofs.Common.{subst}
use Rattle.std.specs.Prelude.{slice_range}
use Rattle.std.proofs.lemmas.Result.{err_from_is_err_and}
use Rattle.subst_plan.specs.Expansion as expansions
use Rattle.subst_plan.specs.Expansion.{expansion, rules_of}
use Rattle.subst_plan.specs.Matched.{Matched}
use Rattle.pcre2_api.specs.Substituted.{kept, replacement_of, work_of}
use Rattle.pcre2_api.proofs.Rewriting.{refuses-added, taken-same}
use Rattle.pcre2_api.proofs.substitute.Rewriting.add.Goals as goal

pub returns-in_err-expand_into-clause-refused : goal.returns-in_err-expand_into-clause-refused
returns-in_err-expand_into-clause-refused c =
    let r = c.args.self.now in
    let f = c.args.found.now in
    let e = c.in_err-expand_into.field-0.0 in
    let same = taken-same f r.code.now r.subject.now c.requires.code c.requires.subject in
    let refused =
    subst (λ (m : Matched). expansions.Refuses
    (expansion (rules_of r.how.unset_empty r.how.unknown_unset) m r.plan.now) e) same
    c.in_err-expand_into.ensures.refused in
    let p = err_from_is_err_and c.from_residual-in_err-expand_into.result c.from_residual-in_err-expand_into.ensures.1
    in
    rw (p.1, p.2) (refuses-added (kept r.how (slice_range r.subject.now c.args.from f.outcome.keep))
    (replacement_of (work_of r) f.outcome) e refused)
