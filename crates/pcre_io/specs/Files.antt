-- What a set of files tells.
use Rattle.std.specs.Prelude.{◌≡◌, ℕ, if◌then◌else◌, Bool, is_some, List, [], ◌∷◌, bytes_eq, ⊤, Option, None, Some}
use Rattle.std.specs.List.{list_any}
use Rattle.pcre_io.specs.Told.{Told}
use Rattle.pcre_io.specs.declared.entries.Kind.{Kind}
use Rattle.pcre_io.specs.declared.entries.Kind.TheVariants as kind
use Rattle.pcre_io.specs.declared.entries.DirEntry.{DirEntry}

-- a file: its name, its bytes and its fault place
pub record File : Type 0 where
  pub name : List ℕ
  pub bytes : List ℕ
  pub fault : Option ℕ

-- a directory: its name and its entries
pub record Directory : Type 0 where
  pub name : List ℕ
  pub entries : List DirEntry

-- what a set holds: its files, its directories, the names that it refuses, those that are neither a file's nor a
-- directory's, and those of which it tells the kind alone, so that they are neither opened nor listed
pub record Contents : Type 0 where
  pub files : List File
  pub tree : List Directory
  pub refused : List (List ℕ)
  pub others : List (List ℕ)
  pub closed : List (List ℕ)

-- what a set tells: what it holds, and its faults
pub record Filed : Type 0 where
  pub contents : Option Contents
  pub faults : ℕ

abbrev pub file_of : List ℕ → List File → Option File
file_of name [] = None
file_of name (file ∷ more) = if bytes_eq file.name name then Some file else file_of name more

abbrev pub entries_in : List ℕ → List Directory → Option (List DirEntry)
entries_in name [] = None
entries_in name (directory ∷ more) = if bytes_eq directory.name name then Some directory.entries else entries_in name
    more

abbrev pub is_file : List ℕ → List File → Bool
is_file name files = is_some (file_of name files)

abbrev pub is_among : List ℕ → List (List ℕ) → Bool
is_among name names = list_any (λ n. bytes_eq n name) names

-- the file that a name opens
abbrev pub opened_file : List ℕ → Contents → Option File
opened_file name set =
    if is_among name set.refused then None
    else if is_among name set.closed then None
    else file_of name set.files

-- the entries that are listed of a name; what isn't a directory has none
abbrev pub listed_entries : List ℕ → Contents → Option (List DirEntry)
listed_entries name set =
    if is_among name set.refused then None
    else if is_among name set.closed then None
    else if is_among name set.others then None
    else if is_file name set.files then None
    else entries_in name set.tree

-- the kind of a name: a file, a directory, or neither
abbrev pub kind_of : List ℕ → Contents → Option Kind
kind_of name set =
    if is_among name set.refused then None
    else if is_among name set.others then Some kind.Other
    else if is_file name set.files then Some kind.File
    else if is_some (entries_in name set.tree) then Some kind.Dir
    else None

-- a source that was opened tells a file's bytes and its fault place
abbrev pub IsOf : Option File → Told → Type 0
IsOf None told = ⊥
IsOf (Some file) told = (told.left ≡ Some file.bytes) × (told.stop ≡ Some file.fault)

abbrev pub Opens : Option Contents → List ℕ → Told → Type 0
Opens None name told = ⊤
Opens (Some set) name told = IsOf (opened_file name set) told

abbrev pub IsMissing : Option Contents → List ℕ → Type 0
IsMissing None name = ⊤
IsMissing (Some set) name = opened_file name set ≡ None

-- a name has a kind: that of an entry without a readable name is no name's
abbrev pub IsOfName : Option Kind → Type 0
IsOfName (Some kind.Unnamed) = ⊥
IsOfName _ = ⊤

-- the kind that a set tells of a name, if any
abbrev pub HasKind : Option Contents → List ℕ → Option Kind → Type 0
HasKind None name answer = IsOfName answer
HasKind (Some set) name answer = kind_of name set ≡ answer

-- the entries that a set tells of a name, if any
abbrev pub HasEntries : Option Contents → List ℕ → Option (List DirEntry) → Type 0
HasEntries None name answer = ⊤
HasEntries (Some set) name answer = listed_entries name set ≡ answer
