use Rattle.std.proofs.Common.{◌≡◌, ◌∙◌, false, ap, arith, replicate}
use Rattle.pat_lengths.proofs.LeadingLemmas.{begun}
use Rattle.pat_lengths.proofs.leading.Reached.new.Goals as goal

pub returns : goal.returns
returns c =
    let all : c.loop.counter ≡ c.args.count = omega arith in
    begun c.args.count _ (c.loop.invariant ∙ ap (λ n. replicate n false) all) c.new.ensures.items
