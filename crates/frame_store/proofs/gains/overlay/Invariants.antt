use Rattle.std.proofs.Common.{◌≡◌, take}
use Rattle.frame_store.specs.Gains.{overlaid}
use Rattle.frame_store.proofs.gains.overlay.Given as goal

abbrev pub invariant-registers : goal.invariant-registers
invariant-registers l = l.registers ≡ overlaid (take l.i l.values) l.fn.registers
