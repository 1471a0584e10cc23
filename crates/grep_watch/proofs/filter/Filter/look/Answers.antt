use Rattle.std.proofs.Common.{subst, sym}
use Rattle.grep_watch.specs.Watched.{AreClear}
use Rattle.grep_watch.proofs.Filtering.{still-filters}
use Rattle.grep_watch.proofs.Watching.{watches_clear}
use Rattle.grep_watch.proofs.filter.Filter.look.Goals as goal

pub returns-clause-watch : goal.returns-clause-watch
returns-clause-watch c = λ plan patterns filters had.
    let clear = c.clear_len-clear.ensures.clear plan patterns filters in
    watches_clear plan patterns c.args.watch.now c.args.feed.now.held c.clear_len-clear.new.self.most
    c.clear_len-clear.result (c.wants_filter.ensures c.if-not-wants_filter.false)
    (subst (λ n. AreClear plan patterns n c.args.feed.now.held c.clear_len-clear.result)
    (sym c.clear_len-clear.ensures.same.most)
    (subst (λ l. AreClear plan patterns c.args.self.now.most l c.clear_len-clear.result) c.held.ensures clear))

pub returns-clause-same : goal.returns-clause-same
returns-clause-same c = λ plan patterns filters.
    still-filters plan patterns c.clear_len-clear.new.self c.note.new.self c.note.ensures
    (still-filters plan patterns c.args.self.now c.clear_len-clear.new.self c.clear_len-clear.ensures.same filters)
