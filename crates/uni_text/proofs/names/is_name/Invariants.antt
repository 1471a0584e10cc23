use Rattle.std.proofs.Common.{◌≡◌, ◌≤◌, bytes_eq, drop, length}
use Rattle.uni_text.specs.Properties.{plain_name}
use Rattle.uni_text.proofs.names.is_name.Given as goal

-- what is left of both decides
abbrev pub invariant-loop-b : goal.invariant-loop-b
invariant-loop-b l = record {
  within : l.at ≤ length l.wanted;
  same : bytes_eq (plain_name l.written) l.wanted ≡ bytes_eq (plain_name (drop l.b-index l.written))
      (drop l.at l.wanted);
}
