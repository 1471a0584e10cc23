use Rattle.std.proofs.Common.{◌≡◌, true, map, sym, ap, ◌∙◌, is_some, Some, List, Result, Ok, Err, Option, IfOk}
use Rattle.pcre_io.specs.declared.entries.DirEntry.{DirEntry}
use Rattle.pcre_io.specs.declared.traits.IoError.{IoError}
use Rattle.pcre_io.specs.Files.{listed_entries}
use Rattle.pcre_io.specs.MemTree.{file_view, held_by}
use Rattle.pcre_io.proofs.Naming.{listed-held}
use Rattle.pcre_io.proofs.mem_files.MemFilesFileSet.list.Goals as goal

listed : {listed : Option (List DirEntry)} {entries : List DirEntry} (result : Result (List DirEntry) IoError)
    → listed ≡ Some entries → IfOk result (λ l. l ≡ entries) → IfOk result (λ l. listed ≡ Some l)
listed (Ok l) is same = is ∙ ap Some (sym same)
listed (Err e) is same = tt

pub returns-then-is_listed-clause-found : goal.returns-then-is_listed-clause-found
returns-then-is_listed-clause-found c =
    let files = map file_view c.args.self.now.files.items in
    let s = c.args.self.now in
    let name = c.args.name.now in
    let is : is_some (listed_entries name (held_by files s.refused s.others s.closed)) ≡ true =
    cc (c.is_listed.ensures, c.if-is_listed.true) in
    listed c.entries_below.result (listed-held files s.refused s.others s.closed name is)
    (rw c.as_slice.ensures.value at c.entries_below.ensures.ok)
