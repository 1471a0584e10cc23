use Rattle.std.proofs.Common.{◌≡◌, IfOk, subst}
use Rattle.test_gen.specs.Counts.{lines_matched, characters}
use Rattle.test_gen.proofs.counts.count_matches.Goals as goal

pub returns-clause-lines : goal.returns-clause-lines
returns-clause-lines c = subst (λ p. IfOk c.finds_of.result (λ found. found.lines ≡ lines_matched p c.args.lines))
    c.in_ok-code.ensures.pattern c.finds_of.ensures.lines

pub returns-clause-characters : goal.returns-clause-characters
returns-clause-characters c =
    subst (λ p. IfOk c.finds_of.result (λ found. found.characters ≡ characters p c.args.lines))
    c.in_ok-code.ensures.pattern c.finds_of.ensures.characters
