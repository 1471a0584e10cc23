use Rattle.std.proofs.Common.{◌∙◌, None, Some, ap, arith}
use Rattle.frame_store.proofs.GainLemmas.{overlaid_begin, overlaid_more, placed}
use Rattle.frame_store.proofs.gains.overlay.Goals as goal
use Rattle.frame_store.proofs.gains.overlay.Goals.{in-Some, in_default}

pub registers-init : goal.registers-init
registers-init c = overlaid_begin c.args.values.now c.args.registers.now

pub registers-preserved : goal.registers-preserved
registers-preserved c =
    elim c.match-values-i.branch [
      | in-Some w ↦
          w.registers-is ∙ ap (placed (Some w.in-Some.value) c.registers.i) c.registers.invariant
          ∙ overlaid_more c.args.values.now c.args.registers.now c.registers.i (Some w.in-Some.value)
          (omega (arith, c.requires.same)) (omega arith) w.in-Some.is
      | in_default w ↦
          w.registers-is ∙ c.registers.invariant
          ∙ overlaid_more c.args.values.now c.args.registers.now c.registers.i None (omega (arith, c.requires.same))
          (omega arith) w.in_default.is
    ]
