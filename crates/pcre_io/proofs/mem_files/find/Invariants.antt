use Rattle.std.proofs.Common.{◌≡◌, length, map}
use Rattle.pcre_io.specs.Files.{file_of}
use Rattle.pcre_io.specs.MemTree.{file_view}
use Rattle.pcre_io.proofs.mem_files.find.Given as goal

abbrev pub invariant-file : goal.invariant-file
invariant-file l = file_of l.name (map file_view l.rest) ≡ file_of l.name (map file_view l.files)

abbrev pub decreases-file : goal.decreases-file
decreases-file l = length l.rest
