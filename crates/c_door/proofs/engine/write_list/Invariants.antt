use Rattle.std.proofs.Common.{◌≡◌, ℕ, ◌<◌, get_or}
use Rattle.c_door.specs.Telling.{end_at}
use Rattle.c_door.proofs.engine.write_list.Given as goal

abbrev pub invariant-loop-i : goal.invariant-loop-i
invariant-loop-i l = (j : ℕ) → j < l.i → get_or l.ends j 0 ≡ end_at l.list j
