use Rattle.match_starts.proofs.PastRepeats.{begins_alone}
use Rattle.match_starts.proofs.repeats.repeat_in.Goals as goal

pub returns-in_default-clause-begins : goal.returns-in_default-clause-begins
returns-in_default-clause-begins c =
    begins_alone _ c.lead_of.result c.lead_of.ensures.is c.lead_of.ensures.behind
