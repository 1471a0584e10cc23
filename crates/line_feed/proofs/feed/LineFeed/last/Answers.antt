use Rattle.std.proofs.Common.{◌∙◌, ap, sym, subst, arith, length}
use Rattle.line_feed.specs.Steps.{IsNext}
use Rattle.line_feed.proofs.Looking.{ended-over, ended-last, last-ended, nothing-held}
use Rattle.line_feed.proofs.feed.LineFeed.last.Goals as goal

pub returns-then-len-eq0 : goal.returns-then-len-eq0
returns-then-len-eq0 c = last-ended c.args.self.now c.requires.ended
    (nothing-held c.args.self.now.held (sym (ap length c.held-len.ensures) ∙ c.if-len-eq0.true))

pub returns-then-len-self : goal.returns-then-len-self
returns-then-len-self c = ended-over c.args.self.now c.requires.ended (c.requires.none.plain c.requires.ended)
    (omega (arith, ap (λ v. v.max) c.self.view_is, ap length c.held-len.ensures))

pub returns : goal.returns
returns c =
    let long = ap length c.held-len.ensures in
    subst (λ n. IsNext c.args.self.now n 0) (sym long)
    (ended-last c.args.self.now c.requires.ended (c.requires.none.plain c.requires.ended)
    (omega (arith, long, c.if-len-eq0.false)) (omega (arith, ap (λ v. v.max) c.self.view_is, long)))
