use Rattle.std.proofs.Common.{◌≡◌, length, map, is_some}
use Rattle.std.specs.List.{list_any}
use Rattle.pcre_io.specs.Files.{File}
use Rattle.pcre_io.specs.MemTree.{below, file_view}
use Rattle.pcre_io.proofs.mem_tree.has_below.Given as goal

abbrev pub invariant-file : goal.invariant-file
invariant-file l =
    let has = λ (f : File). is_some (below l.name f.name) in
    list_any has (map file_view l.rest) ≡ list_any has (map file_view l.files)

abbrev pub decreases-file : goal.decreases-file
decreases-file l = length l.rest
