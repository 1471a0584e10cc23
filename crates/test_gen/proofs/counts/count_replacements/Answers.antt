use Rattle.std.proofs.Common.{◌≡◌, IfOk, subst}
use Rattle.test_gen.specs.Counts.{names, replacements}
use Rattle.test_gen.proofs.counts.count_replacements.Goals as goal

pub returns : goal.returns
returns c =
    subst (λ p. IfOk c.replacements_of.result
    (λ count. count ≡ replacements p (names c.args.text.now) c.args.replacement.now c.args.lines))
    c.in_ok-code.ensures.pattern
    (c.replacements_of.ensures (names c.args.text.now) c.in_ok-code.ensures.names)
