use Rattle.std.proofs.Common.{◌∷◌, [], ◌<◌, All, length, sym, subst, arith}
use Rattle.pat_tree.specs.Rules.{number_in}
use Rattle.pat_check.specs.Lead.{either_lead}
use Rattle.pat_check.specs.Starts.{IsSomeLead, AreKept, lead_of_second}
use Rattle.pat_check.proofs.LeadLemmas.{no_definition, read_at}
use Rattle.pat_check.proofs.starts.one_of_condition.Goals as goal

pub returns-in-Some : goal.returns-in-Some
returns-in-Some c of h =
    let starts = c.args.starts.now in
    let first = c.args.yes in
    let second = c.in-Some.no in
    let below = subst (λ o. All (λ k. k < length starts) (first ∷ number_in o)) c.in-Some.is c.requires in
    let both = subst (λ o. AreKept starts of (first ∷ number_in o)) c.in-Some.is h in
    let one = subst (λ s. IsSomeLead s (of first))
    (sym (read_at starts (first ∷ second ∷ []) 0 c.index-starts-yes.result (omega arith) below
    c.index-starts-yes.is)) (both 0 0 (omega arith)) in
    let two = subst (λ s. IsSomeLead s (of second))
    (sym (read_at starts (first ∷ second ∷ []) 1 c.index-starts-no.result (omega arith) below
    c.index-starts-no.is)) (both 1 0 (omega arith)) in
    subst (IsSomeLead c.either.result) (no_definition of c.args.test.now first c.args.no c.in_default.not-Never)
    (subst (λ o. IsSomeLead c.either.result (either_lead (of first) (lead_of_second of o))) (sym c.in-Some.is)
    (c.either.ensures (of first) (of second) one (c.copy_of.ensures (of second) two)))

pub returns-in-None : goal.returns-in-None
returns-in-None c of h =
    let starts = c.args.starts.now in
    let first = c.args.yes in
    let below = subst (λ o. All (λ k. k < length starts) (first ∷ number_in o)) c.in-None.is c.requires in
    let only = subst (λ o. AreKept starts of (first ∷ number_in o)) c.in-None.is h in
    let one = subst (λ s. IsSomeLead s (of first))
    (sym (read_at starts (first ∷ []) 0 c.index-starts-yes-in-None.result (omega arith) below
    c.index-starts-yes-in-None.is)) (only 0 0 (omega arith)) in
    subst (IsSomeLead c.either-in-None.result) (no_definition of c.args.test.now first c.args.no c.in_default.not-Never)
    (subst (λ o. IsSomeLead c.either-in-None.result (either_lead (of first) (lead_of_second of o))) (sym c.in-None.is)
    (c.either-in-None.ensures (of first) _ one c.passed-in-None.ensures))
