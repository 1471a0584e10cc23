use Rattle.std.proofs.Common.{◌≡◌, IfOk, subst}
use Rattle.test_gen.specs.Counts.{all_ends}
use Rattle.test_gen.proofs.counts.count_ends.Goals as goal

pub returns : goal.returns
returns c = subst (λ p. IfOk c.ends_of.result (λ count. count ≡ all_ends p c.args.lines)) c.in_ok-code.ensures.pattern
    c.ends_of.ensures
