use Rattle.std.proofs.Common.{◌∙◌, ◌≡◌, ◌-◌, ap, sym, arith}
use Rattle.frame_store.specs.Entry.{entries}
use Rattle.frame_verbs.specs.Catching.{catcher}
use Rattle.frame_state.proofs.CallFrames.{frame_at}
use Rattle.frame_verbs.proofs.CatchTurns.{catcher_found, catcher_outer, catcher_whole}
use Rattle.frame_verbs.proofs.catches.catcher.Goals as goal

pub returns-then-is_catching : goal.returns-then-is_catching
returns-then-is_catching c =
    sym (catcher_found c.args.store.now.records c.requires.nested (c.frames.height - 1) _ c.get.ensures
    c.frames.height (omega arith) (sym c.if-is_catching.ensures))
    ∙ c.frames.invariant.same

pub frames-smaller : goal.frames-smaller
frames-smaller c = let low =
    (frame_at c.args.store.now.records (c.frames.height - 1) _ c.requires.nested c.get.ensures).low in
    omega (arith, low)

pub frames-preserved : goal.frames-preserved
frames-preserved c =
    let low = (frame_at c.args.store.now.records (c.frames.height - 1) _ c.requires.nested c.get.ensures).low in
    record {
      same =
          sym (catcher_outer c.args.store.now.records c.requires.nested (c.frames.height - 1) _ c.get.ensures
          c.frames.height (omega arith) (sym c.if-is_catching.ensures))
          ∙ c.frames.invariant.same;
      within = omega (arith, low, c.frames.invariant.within);
    }

pub returns : goal.returns
returns c =
    let stack = entries c.args.store.now.records in
    let none : 0 ≡ c.frames.height = omega arith in
    sym (catcher_whole stack) ∙ ap (catcher stack) none ∙ c.frames.invariant.same
