use Rattle.std.proofs.Common.{◌≡◌, flat_map, take}
use Rattle.c_door.specs.Around.{escaped}
use Rattle.c_door.proofs.around.escape.Given as goal

abbrev pub invariant-loop-byte : goal.invariant-loop-byte
invariant-loop-byte l = l.text.items ≡ flat_map escaped (take l.byte-index l.pattern)
