use Rattle.pat_lengths.proofs.SpanLemmas.{turns_some}
use Rattle.std.proofs.Common.{subst, ◌≡◌}
use Rattle.pat_lengths.specs.Spans.{kept}
use Rattle.pat_lengths.proofs.spans.in_turns.Goals as goal

pub returns-in-Some : goal.returns-in-Some
returns-in-Some c x is =
    turns_some c.args.min c.args.max c.in-Some.once c.product.result c.most_in_turns.result c.requires
    c.product.ensures c.most_in_turns.ensures x
    (subst (λ o. o ≡ kept x) c.in-Some.is is)
