use Rattle.std.proofs.Common.{ℕ, ◌<◌, ◌-◌, List, length, slice_index, refl, subst, sym}
use Rattle.grep_watch.specs.declared.watch.Watch.{Watch}
use Rattle.grep_watch.specs.Watched.{PassesOver}
use Rattle.grep_watch.proofs.Passing.{over-none, over-some, over-clear}
use Rattle.grep_watch.proofs.watch.Watch.pass.Goals as goal

pub pass-passed-requires-clause-live : goal.pass-passed-requires-clause-live
pass-passed-requires-clause-live c = c.requires.live

pub pass-passed-requires-clause-held : goal.pass-passed-requires-clause-held
pass-passed-requires-clause-held c =
    let had = c.look.ensures c.requires.watch.0 c.requires.watch.1 c.requires.watch.2 in
    (had.quiet c.in-Some.needed c.in-Some.is).within

pub returns-then-gives_whole : goal.returns-then-gives_whole
returns-then-gives_whole c = λ plan patterns had.
    over-some plan patterns c.in-Some.needed c.look.new.self c.args.feed.now c.pass-passed.new.self
    c.pass-passed.result c.saturating_sub-self.result c.in-Some.is
    (c.gives_whole.ensures c.if-gives_whole.true)
    (subst (λ (l : List ℕ). (k : ℕ) → k < length l → slice_index l k < 256) c.held.ensures c.are_bytes.ensures)
    (c.look.ensures plan patterns had) c.pass-passed.ensures c.saturating_sub-self.ensures

pub returns-else-gives_whole : goal.returns-else-gives_whole
returns-else-gives_whole c = λ plan patterns had. over-none plan patterns c.look.new.self c.args.feed.now
    (c.look.ensures plan patterns had)

pub returns-then-ends_in_lf : goal.returns-then-ends_in_lf
returns-then-ends_in_lf c = λ plan patterns had.
    let w = c.look.new.self in
    let passed = c.pass-passed-then-ends_in_lf.result in
    subst (λ (v : Watch). PassesOver plan patterns v c.args.feed.now c.pass-passed-then-ends_in_lf.new.self)
    (sym c.skip.ensures)
    (over-clear plan patterns w c.args.feed.now c.pass-passed-then-ends_in_lf.new.self passed (w.quiet - passed)
    c.in_default.is (c.ends_in_lf.ensures c.if-ends_in_lf.true)
    (c.look.ensures plan patterns had) c.pass-passed-then-ends_in_lf.ensures refl)

pub returns-else-ends_in_lf : goal.returns-else-ends_in_lf
returns-else-ends_in_lf c = λ plan patterns had. over-none plan patterns c.look.new.self c.args.feed.now
    (c.look.ensures plan patterns had)
