use Rattle.grep_match.specs.Compiled.{patterns_in}
use Rattle.grep_watch.proofs.Watching.{watches_new}
use Rattle.grep_watch.proofs.watch.Watch.new.Goals as goal

pub returns : goal.returns
returns c held = watches_new c.args.plan.now (patterns_in c.args.patterns.now) c.needed_text.result
    c.needed_text.ensures held
