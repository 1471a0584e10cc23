use Rattle.std.proofs.Common.{◌∙◌, ap, subst}
use Rattle.byte_lanes.specs.Sets.{has_byte}
use Rattle.pat_check.specs.Starts.{IsSomeLead}
use Rattle.pat_check.proofs.LeadLemmas.{then_stops}
use Rattle.pat_check.proofs.starts.followed.Goals as goal

pub returns-then-not-first : goal.returns-then-not-first
returns-then-not-first c x y h k =
    then_stops c.begin.result c.in-Some.first x y c.if-not-first.true
    (λ has e. c.begin.ensures has (λ b l. ap (λ s. has_byte s b) c.copied.ensures ∙ e b l))
    (subst (λ o. IsSomeLead o x) c.in-Some.is h)
