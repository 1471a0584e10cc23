use Rattle.std.proofs.Common.{◌≡◌, ◌≤◌, ◌++◌, length, take, drop}
use Rattle.grep_targets.specs.Paths.{name_of}
use Rattle.grep_targets.proofs.paths.name_of.Given as goal

abbrev pub invariant-byte : goal.invariant-byte
invariant-byte l = record {
  within : l.begin ≤ length l.path;
  name : name_of l.path ≡ name_of (take l.begin l.path) ++ drop l.begin l.path;
}

abbrev pub decreases-byte : goal.decreases-byte
decreases-byte l = l.begin
