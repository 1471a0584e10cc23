-- What an expansion refuses, the work refuses.
use Rattle.std.proofs.Common.{◌≡◌, ◌∙◌, ℕ, List, Result, ap}
use Rattle.subst_plan.specs.declared.faults.ExpandError.{ExpandError}
use Rattle.subst_plan.specs.declared.faults.ExpandError.TheVariants as unwritten
use Rattle.subst_plan.specs.Expansion as expansions
use Rattle.subst_plan.specs.Expansion.{after}
use Rattle.pcre2_api.specs.Compiled.{CodeParts}
use Rattle.pcre2_api.specs.Matched.{MatchParts}
use Rattle.pcre2_api.specs.Taken.{taken, taken_from}
use Rattle.pcre2_errors.specs.SubstErrors.{expand_refusal}
use Rattle.pcre2_api.specs.Substituted.{refused_as, Refuses}

-- an expansion that is refused after the text before a match
pub refuses-added : (first : List ℕ) (r : Result (List ℕ) ExpandError) (e : ExpandError) → expansions.Refuses r e
    → Refuses (refused_as expand_refusal (after first r)) (expand_refusal e)
refuses-added first r unwritten.NoGroup h = ap (λ t. refused_as expand_refusal (after first t)) h
refuses-added first r unwritten.Unset h = ap (λ t. refused_as expand_refusal (after first t)) h
refuses-added first r unwritten.Memory h = tt

-- a match of a code in a subject
pub taken-same : (f : MatchParts) (code : CodeParts) (subject : List ℕ) → f.code ≡ code → f.subject ≡ subject
    → taken_from f ≡ taken code.tree.names code.tree.verb_names subject f.outcome
taken-same f code subject e h =
    ap (λ (c : CodeParts). taken c.tree.names c.tree.verb_names f.subject f.outcome) e
    ∙ ap (λ s. taken code.tree.names code.tree.verb_names s f.outcome) h
