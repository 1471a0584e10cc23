use Rattle.std.proofs.Common.{◌≡◌, true, false, map, sym, is_some}
use Rattle.std.specs.List.{list_any}
use Rattle.pcre_io.specs.Files.{File, is_among, is_file}
use Rattle.pcre_io.specs.MemTree.{below, file_view}
use Rattle.pcre_io.proofs.Naming.{kind-held}
use Rattle.pcre_io.proofs.mem_files.MemFiles.kind_of.Goals as goal

pub returns-then-has_below : goal.returns-then-has_below
returns-then-has_below c =
    let files = map file_view c.args.self.now.files.items in
    let refused = c.args.self.now.refused in
    let name = c.args.name.now in
    let others = c.args.self.now.others in
    let unrefused : is_among name refused ≡ false = cc (c.if-is_among.ensures, c.as_slice.ensures) in
    let known : is_among name others ≡ false = cc (c.if-is_among-2.ensures, c.as_slice-else-is_among.ensures) in
    let free : is_file name files ≡ false = cc (c.if-has_file.ensures, c.as_slice-else-is_among-2.ensures.value) in
    let has : list_any (λ (f : File). is_some (below name f.name)) files ≡ true =
    cc (c.if-has_below.ensures, c.as_slice-else-has_file.ensures.value) in
    sym (kind-held files refused others c.args.self.now.closed name true unrefused known free has)

pub returns-else-has_below : goal.returns-else-has_below
returns-else-has_below c =
    let files = map file_view c.args.self.now.files.items in
    let refused = c.args.self.now.refused in
    let name = c.args.name.now in
    let others = c.args.self.now.others in
    let unrefused : is_among name refused ≡ false = cc (c.if-is_among.ensures, c.as_slice.ensures) in
    let known : is_among name others ≡ false = cc (c.if-is_among-2.ensures, c.as_slice-else-is_among.ensures) in
    let free : is_file name files ≡ false = cc (c.if-has_file.ensures, c.as_slice-else-is_among-2.ensures.value) in
    let has : list_any (λ (f : File). is_some (below name f.name)) files ≡ false =
    cc (c.if-has_below.ensures, c.as_slice-else-has_file.ensures.value) in
    sym (kind-held files refused others c.args.self.now.closed name false unrefused known free has)
