use Rattle.std.proofs.Common.{◌-◌, length}
use Rattle.pat_build.specs.Machine.{Means, HasRoom, Same}
use Rattle.pat_build.proofs.machine.Machine.run.Given as goal

abbrev pub invariant-loop-token : goal.invariant-loop-token
invariant-loop-token l = record { means : Means l.self; room : HasRoom 0 l.self; same : Same l.fn.self l.self }

abbrev pub decreases-loop-token : goal.decreases-loop-token
decreases-loop-token l = length l.self.text.now - l.self.at
