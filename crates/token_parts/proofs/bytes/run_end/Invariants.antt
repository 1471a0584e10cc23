use Rattle.std.proofs.Common.{◌≡◌}
use Rattle.token_parts.specs.Bytes.{run_end}
use Rattle.token_parts.specs.Runs.{passes}
use Rattle.token_parts.proofs.bytes.run_end.Given as goal

abbrev pub invariant-loop-i : goal.invariant-loop-i
invariant-loop-i l = run_end l.text (passes l.run) l.i ≡ run_end l.text (passes l.run) l.from
