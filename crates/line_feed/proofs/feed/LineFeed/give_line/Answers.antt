use Rattle.std.proofs.Common.{rules, arith}
use Rattle.line_feed.specs.Steps.{FirstEnd}
use Rattle.line_feed.proofs.Passing.{sound-view, line-ends, gives-line}
use Rattle.line_feed.proofs.feed.LineFeed.give_line.Goals as goal

pub give-requires-clause-some : goal.give-requires-clause-some
give-requires-clause-some c =
    let first : FirstEnd c.args.self.now c.find_line_end-end.result.at c.find_line_end-end.result.len = search rules in
    let held = c.requires.holds in
    let some = (line-ends c.args.self.now _ _ first held.0 held.1).0 in
    omega arith

pub give-requires-clause-held : goal.give-requires-clause-held
give-requires-clause-held c =
    let first : FirstEnd c.args.self.now c.find_line_end-end.result.at c.find_line_end-end.result.len = search rules in
    let held = c.requires.holds in
    (line-ends c.args.self.now _ _ first held.0 held.1).1

pub returns : goal.returns
returns c =
    let first : FirstEnd c.args.self.now c.find_line_end-end.result.at c.find_line_end-end.result.len = search rules in
    let held = c.requires.holds in
    gives-line c.args.self.now _ _ first (sound-view c.self.inside c.args.self.now c.self.invariant c.self.view_is
    c.requires.live) _ c.give.ensures.given held.0 held.1
