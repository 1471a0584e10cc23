use Rattle.std.proofs.Common.{◌≡◌, drop}
use Rattle.pcre2_api.specs.Captured.{first_named, named_of}
use Rattle.pcre2_api.proofs.found.Found.group_named.Given as goal

abbrev pub invariant-loop-i : goal.invariant-loop-i
invariant-loop-i l = named_of l.self l.name ≡ first_named l.self l.name (drop l.i l.self.code.tree.names)
