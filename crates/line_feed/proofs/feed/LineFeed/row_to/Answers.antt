use Rattle.std.proofs.Common.{ap, subst, arith}
use Rattle.line_feed.specs.Inside.{IsNear}
use Rattle.line_feed.proofs.Looking.{next-whole, over-whole}
use Rattle.line_feed.proofs.feed.LineFeed.row_to.Goals as goal

pub returns-then-end-self : goal.returns-then-end-self
returns-then-end-self c = over-whole c.args.self.now _ _ c.requires.first c.requires.whole
    (omega (arith, ap (λ v. v.max) c.self.view_is))

pub returns : goal.returns
returns c = next-whole c.args.self.now _ _ c.requires.first c.requires.whole
    (omega (arith, ap (λ v. v.max) c.self.view_is))
    (subst (λ v. IsNear v.kind v.held) c.self.view_is c.self.invariant.near)
