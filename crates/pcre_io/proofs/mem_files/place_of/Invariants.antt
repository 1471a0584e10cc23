use Rattle.std.proofs.Common.{◌≡◌, ◌+◌, length, map}
use Rattle.pcre_io.specs.MemTree.{place_of, file_view}
use Rattle.pcre_io.proofs.mem_files.place_of.Given as goal

abbrev pub invariant-file : goal.invariant-file
invariant-file l = (l.at + place_of l.name (map file_view l.rest) ≡ place_of l.name (map file_view l.files))
    × (l.at + length l.rest ≡ length l.files)

abbrev pub decreases-file : goal.decreases-file
decreases-file l = length l.rest
