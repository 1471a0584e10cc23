-- Files for the worked rows, and a filter that allows every name.
use Rattle.std.specs.Prelude.{ℕ, List, [], ◌∷◌, codes, None}
use Rattle.pcre_io.specs.Files.{File, Contents}
use Rattle.pcre_io.specs.MemTree.{held_files}
use Rattle.pcre_io.specs.declared.entries.Kind.{Kind}
use Rattle.pcre_io.specs.declared.entries.Kind.TheVariants as kind
use Rattle.pcre_io.specs.declared.entries.DirEntry.{DirEntry}
use Rattle.grep_targets.specs.Filters.{Filter, choice_of}

abbrev pub any_name : Filter
any_name = record { files = choice_of [] []; directories = choice_of [] [] }

abbrev pub empty_file : List ℕ → File
empty_file name = record { name = name; bytes = []; fault = None }

abbrev pub worked_files : List File
worked_files =
    empty_file (codes "d/sub/c.c")
    ∷ empty_file (codes "d/sub-x")
    ∷ empty_file (codes "d/b.h")
    ∷ empty_file (codes "d/.a")
    ∷ []

abbrev pub entry_of : List ℕ → Kind → DirEntry
entry_of name kind = record { name = name; kind = kind }

-- a directory with a file that is listed twice, a link and two entries without names, and one that isn't listed
abbrev pub odd_set : Contents
odd_set = record {
  files = [];
  tree = record {
    name = codes "d";
    entries =
        entry_of (codes "b") kind.File
        ∷ entry_of [] kind.Unnamed
        ∷ entry_of (codes "a") kind.Other
        ∷ entry_of [] kind.Unnamed
        ∷ entry_of (codes "b") kind.File
        ∷ [];
  } ∷ record { name = codes "e"; entries = [] } ∷ [];
  refused = [];
  others = codes "d/a" ∷ [];
  closed = codes "e" ∷ [];
}

abbrev pub worked_set : Contents
worked_set = held_files worked_files []

-- the same, where a directory is refused
abbrev pub refused_set : Contents
refused_set = held_files worked_files (codes "d/sub" ∷ [])
