use Rattle.std.proofs.Common.{◌-◌, ◌∙◌, Some, set, sym, ap, arith}
use Rattle.std.proofs.lemmas.List.{set_past}
use Rattle.frame_store.specs.Entry.{Entry}
use Rattle.frame_store.specs.Gains.{newer_gain}
use Rattle.frame_store.proofs.EntryLemmas.{entry_of-undo}
use Rattle.frame_store.proofs.GainLemmas.{newer_gain-plain, newer_gain-first, newer_gain-same}
use Rattle.frame_store.proofs.gains.take_newer.Goals as goal
use Rattle.frame_store.proofs.gains.take_newer.Goals.{else-r-eq-KIND_UNDO-via-then-r-eq-KIND_UNDO+then-place-values+else-is_none}
use Rattle.frame_store.proofs.gains.take_newer.Goals.{else-r-eq-KIND_UNDO-via-then-r-eq-KIND_UNDO+else-place-values}
use Rattle.frame_store.proofs.gains.take_newer.Goals.{else-r-eq-KIND_UNDO-via-else-r-eq-KIND_UNDO}

pub returns-then-is_none : goal.returns-then-is_none
returns-then-is_none c =
    ap (λ v. set c.args.values.now c.place_of-place.result (Some v)) c.kept_value.ensures
    ∙ newer_gain-first c.args.r.now c.args.values.now _ c.place_of-place.ensures c.if-r-eq-KIND_UNDO.true
    c.if-is_none.ensures

pub returns-else-r-eq-KIND_UNDO : goal.returns-else-r-eq-KIND_UNDO
returns-else-r-eq-KIND_UNDO c =
    elim c.else-r-eq-KIND_UNDO.branch [
      | else-r-eq-KIND_UNDO-via-then-r-eq-KIND_UNDO+then-place-values+else-is_none w ↦
          newer_gain-same c.args.r.now c.args.values.now _ c.place_of-place.ensures w.if-r-eq-KIND_UNDO.true
          w.if-is_none.ensures
      | else-r-eq-KIND_UNDO-via-then-r-eq-KIND_UNDO+else-place-values w ↦
          sym (set_past c.args.values.now (c.args.r.now.slot - 1) _
          (omega (arith, w.if-place-values.false, c.place_of-place.ensures)))
          ∙ ap (λ (e : Entry). newer_gain e c.args.values.now)
          (sym (entry_of-undo c.args.r.now w.if-r-eq-KIND_UNDO.true))
      | else-r-eq-KIND_UNDO-via-else-r-eq-KIND_UNDO w ↦
          sym (newer_gain-plain c.args.r.now c.args.values.now w.if-r-eq-KIND_UNDO.false)
    ]
