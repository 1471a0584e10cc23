use Rattle.std.proofs.Common.{◌-◌, length, ap, ◌∙◌}
use Rattle.grep_watch.proofs.Watching.{watches_left}
use Rattle.grep_watch.proofs.watch.Watch.quiet_behind.Goals as goal

pub returns : goal.returns
returns c = λ plan patterns behind had.
    watches_left plan patterns c.args.self.now c.args.line.now.bytes.now c.args.line.now.end.now behind
    c.saturating_sub.result
    (c.saturating_sub.ensures ∙ ap (λ q. q - length c.args.line.now.end.now) c.saturating_sub-quiet.ensures)
    (c.is_whole.ensures.text c.if-not-is_whole.false) (c.is_whole.ensures.clear c.if-not-is_whole.false) had
