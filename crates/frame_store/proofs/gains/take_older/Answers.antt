use Rattle.std.proofs.Common.{◌-◌, ◌∙◌, Some, set, sym, ap, arith}
use Rattle.std.proofs.lemmas.List.{set_past}
use Rattle.frame_store.specs.Entry.{Entry, kept_value}
use Rattle.frame_store.specs.Gains.{older_gain}
use Rattle.frame_store.proofs.EntryLemmas.{entry_of-undo}
use Rattle.frame_store.proofs.GainLemmas.{older_gain-plain}
use Rattle.frame_store.proofs.gains.take_older.Goals as goal
use Rattle.frame_store.proofs.gains.take_older.Goals.{else-r-eq-KIND_UNDO-via-then-r-eq-KIND_UNDO+else-place-values}
use Rattle.frame_store.proofs.gains.take_older.Goals.{else-r-eq-KIND_UNDO-via-else-r-eq-KIND_UNDO}

pub returns-then-place-values : goal.returns-then-place-values
returns-then-place-values c =
    ap (λ k. set c.args.values.now k (Some c.kept_value.result)) c.place_of-place.ensures
    ∙ ap (λ v. set c.args.values.now (c.args.r.now.slot - 1) (Some v)) c.kept_value.ensures
    ∙ ap (λ (e : Entry). older_gain e c.args.values.now) (sym (entry_of-undo c.args.r.now c.if-r-eq-KIND_UNDO.true))

pub returns-else-r-eq-KIND_UNDO : goal.returns-else-r-eq-KIND_UNDO
returns-else-r-eq-KIND_UNDO c =
    elim c.else-r-eq-KIND_UNDO.branch [
      | else-r-eq-KIND_UNDO-via-then-r-eq-KIND_UNDO+else-place-values w ↦
          sym (set_past c.args.values.now (c.args.r.now.slot - 1) (Some (kept_value c.args.r.now))
          (omega (arith, w.if-place-values.false, c.place_of-place.ensures)))
          ∙ ap (λ (e : Entry). older_gain e c.args.values.now)
          (sym (entry_of-undo c.args.r.now w.if-r-eq-KIND_UNDO.true))
      | else-r-eq-KIND_UNDO-via-else-r-eq-KIND_UNDO w ↦
          sym (older_gain-plain c.args.r.now c.args.values.now w.if-r-eq-KIND_UNDO.false)
    ]
