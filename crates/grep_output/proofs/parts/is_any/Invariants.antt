use Rattle.std.proofs.Common.{◌≡◌, drop}
use Rattle.grep_output.specs.Texts.{is_any}
use Rattle.grep_output.proofs.Parted.{set_texts}
use Rattle.grep_output.proofs.parts.is_any.Given as goal

abbrev pub invariant-loop-group : goal.invariant-loop-group
invariant-loop-group l = is_any (set_texts l.bytes (drop l.group-index l.groups)) ≡ is_any (set_texts l.bytes l.groups)
