use Rattle.std.proofs.Common.{◌≡◌, ◌++◌, false, drop}
use Rattle.test_lines.specs.Callouts.{undoubled}
use Rattle.test_lines.proofs.callouts.add_string.Given as goal

abbrev pub invariant-loop-byte : goal.invariant-loop-byte
invariant-loop-byte l =
    l.string.items ++ undoubled l.close l.again (drop l.byte-index l.text) ≡ l.fn.string.items ++ undoubled l.close
    false l.text
