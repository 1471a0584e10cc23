use Rattle.std.proofs.Common.{◌≡◌, length, bytes_eq}
use Rattle.std.specs.List.{list_any}
use Rattle.pcre_io.specs.declared.entries.DirEntry.{DirEntry}
use Rattle.pcre_io.proofs.mem_tree.has_name.Given as goal

abbrev pub invariant-entry : goal.invariant-entry
invariant-entry l =
    let has = λ (e : DirEntry). bytes_eq e.name l.name in
    list_any has l.rest ≡ list_any has l.entries

abbrev pub decreases-entry : goal.decreases-entry
decreases-entry l = length l.rest
