use Rattle.std.proofs.Common.{arith}
use Rattle.line_feed.proofs.Looking.{none-whole}
use Rattle.line_feed.proofs.feed.LineFeed.is_whole.Goals as goal

pub returns-then-end-eq0-clause-part : goal.returns-then-end-eq0-clause-part
returns-then-end-eq0-clause-part c = λ _. none-whole _ _ _ c.requires (λ some. absurd (omega arith))
