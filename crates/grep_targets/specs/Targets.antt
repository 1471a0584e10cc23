-- Which files a list of words stands for (pcre2grep, "DESCRIPTION" and "OPTIONS": -r, --include and the others).
use Rattle.std.specs.Prelude.{ℕ, zero, suc, Bool, true, false, if◌then◌else◌, List, [], ◌∷◌, ◌++◌, flat_map, codes}
use Rattle.std.specs.Prelude.{bytes_eq, Option, None, Some}
use Rattle.pcre_io.specs.Files.{Contents, kind_of, listed_entries}
use Rattle.pcre_io.specs.declared.entries.Kind.{Kind}
use Rattle.pcre_io.specs.declared.entries.Kind.TheVariants as kind
use Rattle.pcre_io.specs.declared.entries.DirEntry.{DirEntry}
use Rattle.tool_io.specs.declared.target.Target.{Target}
use Rattle.tool_io.specs.declared.target.Target.TheVariants.{Input, File, NoOpen, NoList, TooDeep, Unnamed}
use Rattle.grep_targets.specs.Filters.{Filter, allows}
use Rattle.grep_targets.specs.Paths.{ItemParts, items_in, has_unnamed, name_of, word_path}

-- A name is judged by its last component.
abbrev pub allows_file : Filter → List ℕ → Bool
allows_file filter path = allows filter.files (name_of path)

abbrev pub allows_directory : Filter → List ℕ → Bool
allows_directory filter path = allows filter.directories (name_of path)

abbrev pub file_targets : Filter → List ℕ → List Target
file_targets filter path = if allows_file filter path then File path ∷ [] else []

-- the targets of a file or of a directory, where `below` are those of an allowed directory
abbrev pub item_targets : Filter → (List ℕ → List Target) → ItemParts → List Target
item_targets filter below item =
    if item.is_directory then (if allows_directory filter item.path then below item.path else [])
    else file_targets filter item.path

-- an entry without a name stands in the place of an empty name
abbrev pub unnamed_targets : List ℕ → List DirEntry → List Target
unnamed_targets path entries = if has_unnamed entries then Unnamed path ∷ [] else []

-- the targets of a directory that could be listed or not
abbrev pub listed_targets : Filter → (List ℕ → List Target) → List ℕ → Option (List DirEntry) → List Target
listed_targets filter below path None = NoList path ∷ []
listed_targets filter below path (Some entries) =
    unnamed_targets path entries ++ flat_map (item_targets filter below) (items_in path entries)

-- The targets of an allowed directory, where so many levels may be listed from it on.
abbrev pub directory_targets : Filter → Contents → ℕ → List ℕ → List Target
directory_targets filter set zero path = TooDeep path ∷ []
directory_targets filter set (suc levels) path =
    listed_targets filter (directory_targets filter set levels) path (listed_entries path set)

-- a word's directory is listed, and those that are at most 64 below it
abbrev pub word_levels : ℕ
word_levels = 65

abbrev pub as_item : List ℕ → Bool → ItemParts
as_item path is_directory = record { path = path; is_directory = is_directory }

-- the targets of a path by its kind; what is neither a file nor a directory isn't judged by its name
abbrev pub kind_targets : Filter → Contents → List ℕ → Option Kind → List Target
kind_targets filter set path None = NoOpen path ∷ []
kind_targets filter set path (Some kind.File) = item_targets filter (directory_targets filter set word_levels)
    (as_item path false)
kind_targets filter set path (Some kind.Dir) = item_targets filter (directory_targets filter set word_levels)
    (as_item path true)
kind_targets filter set path (Some kind.Other) = File path ∷ []
kind_targets filter set path (Some kind.Unnamed) = File path ∷ []

-- Without `-r` each allowed name is a file.
abbrev pub path_targets : Filter → Contents → Bool → List ℕ → List Target
path_targets filter set recursive path =
    if recursive then kind_targets filter set path (kind_of path set) else file_targets filter path

-- the word `-` is the input
abbrev pub word_targets : Filter → Contents → Bool → List ℕ → List Target
word_targets filter set recursive word =
    if bytes_eq word (codes "-") then Input ∷ [] else path_targets filter set recursive (word_path word)

-- The targets of words, in order. Without words the input is scanned.
abbrev pub targets : Filter → Contents → List (List ℕ) → Bool → List Target
targets filter set [] recursive = Input ∷ []
targets filter set (word ∷ words) recursive = flat_map (word_targets filter set recursive) (word ∷ words)
