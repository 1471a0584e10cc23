use Rattle.std.proofs.Common.{◌∙◌, ◌≡◌, ◌-◌, ap, sym, arith}
use Rattle.frame_store.specs.Entry.{entries}
use Rattle.frame_state.specs.Calls.{calls_at}
use Rattle.frame_state.proofs.CallFrames.{latest_here, latest_outer, outer_low, calls_none}
use Rattle.frame_looks.proofs.calls.latest_call.Goals as goal

pub returns-then-event-eq-KIND_CALL_OPEN : goal.returns-then-event-eq-KIND_CALL_OPEN
returns-then-event-eq-KIND_CALL_OPEN c = latest_here c.args.store.now.records c.args.frame c.frames.height
    c.requires.nested c.frames.invariant.same c.frames.invariant.low (c.frames.height - 1) (omega arith) _
    c.get-event.ensures c.if-event-eq-KIND_CALL_OPEN.true

pub frames-smaller : goal.frames-smaller
frames-smaller c = let low = outer_low c.args.store.now.records c.args.frame c.frames.height c.requires.nested
    c.frames.invariant.same c.frames.invariant.low (c.frames.height - 1) (omega arith) _ c.get-event.ensures in
    omega (arith, low)

pub frames-preserved : goal.frames-preserved
frames-preserved c =
    let low = outer_low c.args.store.now.records c.args.frame c.frames.height c.requires.nested
    c.frames.invariant.same c.frames.invariant.low (c.frames.height - 1) (omega arith) _ c.get-event.ensures in
    record {
      same = latest_outer c.args.store.now.records c.args.frame c.frames.height c.requires.nested
          c.frames.invariant.same c.frames.invariant.low (c.frames.height - 1) (omega arith) _ c.get-event.ensures
          c.if-event-eq-KIND_CALL_OPEN.false;
      within = omega (arith, low, c.frames.invariant.within);
      low = omega (arith, low, c.frames.invariant.low);
    }

pub returns : goal.returns
returns c =
    let stack = entries c.args.store.now.records in
    let none : c.frames.height ≡ 0 = omega arith in
    sym c.frames.invariant.same ∙ ap (calls_at stack) none ∙ calls_none stack
