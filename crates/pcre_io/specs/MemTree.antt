-- Files in memory: their directories come from their names.
use Rattle.std.specs.Prelude.{◌≡◌, ℕ, suc, ◌==◌, Bool, not, if◌then◌else◌, List, [], ◌∷◌, ◌++◌, map, filter}
use Rattle.std.specs.Prelude.{flat_map, fold, bytes_eq, Option, None, Some, string_bytes}
use Rattle.std.specs.List.{before_first, list_any}
use Rattle.std.specs.Option.{option_map}
use Rattle.pcre_io.specs.Files.{File, Directory, Contents, Filed, is_file}
use Rattle.pcre_io.specs.declared.entries.Kind.TheVariants as kind
use Rattle.pcre_io.specs.declared.entries.DirEntry.{DirEntry}
use Rattle.pcre_io.specs.declared.mem_files.MemFile.{MemFile}

abbrev pub file_view : MemFile → File
file_view f = record { name = string_bytes f.name; bytes = f.bytes.items; fault = f.fail_at }

-- how many files stand before the first of this name
abbrev pub place_of : List ℕ → List File → ℕ
place_of name [] = 0
place_of name (file ∷ more) = if bytes_eq file.name name then 0 else suc (place_of name more)

-- these files with one more, in the place of the one that has its name, if there is one
abbrev pub with_file : File → List File → List File
with_file file [] = file ∷ []
with_file file (f ∷ more) = if bytes_eq f.name file.name then file ∷ more else f ∷ with_file file more

abbrev pub is_slash : ℕ → Bool
is_slash c = c == 47

-- a directory's name and an entry's, joined by a slash
abbrev pub joined : List ℕ → List ℕ → List ℕ
joined directory name = directory ++ 47 ∷ name

-- what follows a directory's name and a slash, where a name begins with them
abbrev pub below : List ℕ → List ℕ → Option (List ℕ)
below [] [] = None
below [] (c ∷ name) = if is_slash c then Some name else None
below (d ∷ directory) [] = None
below (d ∷ directory) (c ∷ name) = if c == d then below directory name else None

-- what stands before each slash of a name
abbrev pub before_slashes : List ℕ → List (List ℕ)
before_slashes [] = []
before_slashes (c ∷ name) =
    let longer = map (λ front. c ∷ front) (before_slashes name) in
    if is_slash c then [] ∷ longer else longer

-- an entry of a directory, by its name
abbrev pub entry_at : List ℕ → List File → List ℕ → DirEntry
entry_at directory files name = record {
  name = name;
  kind = if is_file (joined directory name) files then kind.File else kind.Dir;
}

-- with one more entry, unless there is one of its name
abbrev pub with_entry : List DirEntry → DirEntry → List DirEntry
with_entry entries entry = if list_any (λ (e : DirEntry). bytes_eq e.name entry.name) entries then entries else
    entries ++ entry ∷ []

-- the names that follow a directory's, each up to its first slash
abbrev pub names_below : List ℕ → List File → List (List ℕ)
names_below directory [] = []
names_below directory (file ∷ more) = elim (below directory file.name)
    [ None ↦ names_below directory more | Some rest ↦ before_first is_slash rest ∷ names_below directory more ]

-- the entries of a directory, each once
abbrev pub entries_below : List ℕ → List File → List DirEntry
entries_below directory files = fold with_entry [] (map (entry_at directory files) (names_below directory files))

-- A name that is no file's is a directory where a file's name begins with it and a slash.
abbrev pub tree_of : List File → List Directory
tree_of files =
    let names = filter (λ name. not (is_file name files)) (flat_map (λ (file : File). before_slashes file.name) files)
    in
    map (λ name. record { name = name; entries = entries_below name files }) names

-- what files in memory hold, where these names are refused, of kind Other, or closed
abbrev pub held_by : List File → List (List ℕ) → List (List ℕ) → List (List ℕ) → Contents
held_by files refused others closed =
    record { files = files; tree = tree_of files; refused = refused; others = others; closed = closed }

-- the same, where names are at most refused
abbrev pub held_files : List File → List (List ℕ) → Contents
held_files files refused = held_by files refused [] []

abbrev pub adding : File → Contents → Contents
adding file set =
    let files = with_file file set.files in record set { files = files; tree = tree_of files }

abbrev pub refusing : List ℕ → Contents → Contents
refusing name set = record set { refused = set.refused ++ name ∷ [] }

abbrev pub making_other : List ℕ → Contents → Contents
making_other name set = record set { others = set.others ++ name ∷ [] }

abbrev pub closing : List ℕ → Contents → Contents
closing name set = record set { closed = set.closed ++ name ∷ [] }

-- the set tells the same, but for one change of what it holds
abbrev pub Becomes : (Contents → Contents) → Filed → Filed → Type 0
Becomes change old new = (new.contents ≡ option_map change old.contents) × (new.faults ≡ old.faults)

-- but for one file that was added
abbrev pub Adds : File → Filed → Filed → Type 0
Adds file old new = Becomes (adding file) old new

-- but for one name that it refuses
abbrev pub Refuses : List ℕ → Filed → Filed → Type 0
Refuses name old new = Becomes (refusing name) old new

-- but for one name that is of kind Other
abbrev pub MakesOther : List ℕ → Filed → Filed → Type 0
MakesOther name old new = Becomes (making_other name) old new

-- but for one name that it doesn't open or list
abbrev pub Closes : List ℕ → Filed → Filed → Type 0
Closes name old new = Becomes (closing name) old new
