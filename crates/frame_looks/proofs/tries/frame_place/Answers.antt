use Rattle.std.proofs.Common.{◌≡◌, ◌<◌, ◌⊎◌, ◌-◌, ◌∙◌, inl, inr, sym, ap, arith}
use Rattle.frame_store.specs.declared.kinds.TheConstants.{KIND_UNDO, KIND_LATER_TRY}
use Rattle.frame_store.specs.Entry.{entries}
use Rattle.frame_state.specs.Machine.{place_at}
use Rattle.frame_looks.proofs.TryLemmas.{place_whole, place_kept, place_none}
use Rattle.frame_looks.proofs.tries.frame_place.Goals as goal
use Rattle.frame_looks.proofs.tries.frame_place.Goals.{then-frame-eq-KIND_UNDO-via-then-frame-eq-KIND_UNDO}
use Rattle.frame_looks.proofs.tries.frame_place.Goals.{then-frame-eq-KIND_UNDO-via-else-frame-eq-KIND_UNDO+then-frame-gt-KIND_LATER_TRY}

pub returns-then-spot-eq0 : goal.returns-then-spot-eq0
returns-then-spot-eq0 c =
    sym (ap (place_at (entries c.args.store.now.records)) c.if-spot-eq0.true
    ∙ place_whole (entries c.args.store.now.records))

pub returns-then-frame-eq-KIND_UNDO : goal.returns-then-frame-eq-KIND_UNDO
returns-then-frame-eq-KIND_UNDO c =
    let kind : (c.get-frame.result.now.kind ≡ KIND_UNDO) ⊎ (KIND_LATER_TRY < c.get-frame.result.now.kind) =
    elim c.then-frame-eq-KIND_UNDO.branch [
      | then-frame-eq-KIND_UNDO-via-then-frame-eq-KIND_UNDO w ↦ inl w.if-frame-eq-KIND_UNDO.true
      | then-frame-eq-KIND_UNDO-via-else-frame-eq-KIND_UNDO+then-frame-gt-KIND_LATER_TRY w ↦
          inr w.if-frame-gt-KIND_LATER_TRY.true
    ] in
    place_none c.args.store.now.records c.args.spot.now.frame (c.args.spot.now.frame - 1) c.get-frame.result.now
    (omega (arith, c.if-spot-eq0.false)) c.get-frame.ensures kind

pub returns : goal.returns
returns c =
    place_kept c.args.store.now.records c.args.spot.now.frame (c.args.spot.now.frame - 1) c.get-frame.result.now
    (omega (arith, c.if-spot-eq0.false)) c.get-frame.ensures c.if-frame-eq-KIND_UNDO.false
    c.if-frame-gt-KIND_LATER_TRY.false
