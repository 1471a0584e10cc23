use Rattle.std.proofs.Common.{ℕ, ◌<◌, List, length, slice_index, subst}
use Rattle.grep_watch.proofs.Passing.{quiet-found, clear-found}
use Rattle.grep_watch.proofs.watch.Watch.run.Goals as goal

pub returns-then-gives_whole-clause-run : goal.returns-then-gives_whole-clause-run
returns-then-gives_whole-clause-run c =
    quiet-found c.args.self.now c.look.new.self c.args.feed.now c.in-Some.needed c.in-Some.is
    (c.gives_whole.ensures c.if-gives_whole.true)
    (subst (λ (l : List ℕ). (k : ℕ) → k < length l → slice_index l k < 256) c.held.ensures c.are_bytes.ensures)
    c.look.ensures c.run.result c.run.ensures

pub returns-then-ends_in_lf-clause-run : goal.returns-then-ends_in_lf-clause-run
returns-then-ends_in_lf-clause-run c =
    clear-found c.args.self.now c.look.new.self c.args.feed.now c.in_default.is
    (c.ends_in_lf.ensures c.if-ends_in_lf.true) c.look.ensures c.run-then-ends_in_lf.result
    c.run-then-ends_in_lf.ensures
