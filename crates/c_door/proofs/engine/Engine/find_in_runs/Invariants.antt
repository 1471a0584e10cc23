use Rattle.std.proofs.Common.{◌≡◌, ◌+◌, ◌-◌, ◌≤◌, length}
use Rattle.c_door.proofs.Running.{Rest}
use Rattle.c_door.proofs.engine.Engine.find_in_runs.Given as goal

abbrev pub invariant-run : goal.invariant-run
invariant-run l =
    record {
      within : l.from ≤ length l.subject;
      kept : l.self.code.value ≡ l.fn.self.code.value;
      rest : Rest l.fn.self.code.value l.options l.subject l.start l.begin l.from l.seen;
    }

abbrev pub decreases-run : goal.decreases-run
decreases-run l = length l.subject + 1 - l.from
