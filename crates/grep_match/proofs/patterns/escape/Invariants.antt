use Rattle.std.proofs.Common.{◌≡◌, flat_map, take}
use Rattle.grep_match.specs.PatternTexts.{escaped}
use Rattle.grep_match.proofs.patterns.escape.Given as goal

abbrev pub invariant-loop-byte : goal.invariant-loop-byte
invariant-loop-byte l = l.text.items ≡ flat_map escaped (take l.byte-index l.line)
