use Rattle.std.proofs.Common.{ap, arith, false, rules}
use Rattle.line_feed.specs.Steps.{EndsRow}
use Rattle.line_feed.proofs.Passing.{sound-view, run-row}
use Rattle.line_feed.proofs.feed.LineFeed.first_row.Goals as goal

pub returns : goal.returns
returns c =
    let f = c.args.self.now in
    let at = c.first_end-end.result.at in
    let len = c.first_end-end.result.len in
    let ends : EndsRow f at len = search rules in
    let max = ap (λ v. v.max) c.self.view_is in
    run-row f at len c.args.most c.args.longest false
    (sound-view c.self.inside f c.self.invariant c.self.view_is c.requires.live) c.first_end-end.ensures.first
    ends (omega arith) (omega arith) (omega arith)
