use Rattle.std.proofs.Common.{◌≡◌, length}
use Rattle.pcre_io.specs.Files.{is_among}
use Rattle.pcre_io.proofs.mem_files.is_among.Given as goal

abbrev pub invariant-name : goal.invariant-name
invariant-name l = is_among l.name l.rest ≡ is_among l.name l.names

abbrev pub decreases-name : goal.decreases-name
decreases-name l = length l.rest
