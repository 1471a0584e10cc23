use Rattle.std.proofs.Common.{◌≡◌, length, map, fold}
use Rattle.pcre_io.specs.MemTree.{entries_below, entry_at, file_view, names_below, with_entry}
use Rattle.pcre_io.proofs.mem_tree.entries_below.Given as goal

-- the entries so far, with those of the rest
abbrev pub invariant-file : goal.invariant-file
invariant-file l =
    fold with_entry l.entries (map (entry_at l.directory (map file_view l.files))
    (names_below l.directory (map file_view l.rest))) ≡ entries_below l.directory (map file_view l.files)

abbrev pub decreases-file : goal.decreases-file
decreases-file l = length l.rest
