use Rattle.std.proofs.Common.{ap, arith, length}
use Rattle.line_feed.proofs.Looking.{over-far}
use Rattle.line_feed.proofs.feed.LineFeed.part.Goals as goal

pub returns-then-len-self-ge3 : goal.returns-then-len-self-ge3
returns-then-len-self-ge3 c = over-far c.args.self.now c.requires.none.none
    (omega (arith, ap (λ v. v.max) c.self.view_is, ap length c.held-len.ensures))
