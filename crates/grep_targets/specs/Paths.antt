-- The paths of files and of directories.
use Rattle.std.specs.Prelude.{ℕ, Bool, true, false, if◌then◌else◌, List, [], ◌∷◌, flat_map, fold, reverse, string_bytes}
use Rattle.std.specs.List.{list_any}
use Rattle.std.specs.declared.cmp.Ordering.{Ordering}
use Rattle.std.specs.Ordering.{ordering_then, bool_cmp, nat_cmp}
use Rattle.std.specs.Cmp.Lexicographic.{slice_cmp}
use Rattle.std.specs.BTreeSet.{insert_key}
use Rattle.pcre_io.specs.MemTree.{is_slash, joined}
use Rattle.pcre_io.specs.declared.entries.Kind.TheVariants as kind
use Rattle.pcre_io.specs.declared.entries.DirEntry.{DirEntry}
use Rattle.grep_targets.specs.declared.items.Item.{Item}

abbrev pub after_slashes : List ℕ → List ℕ
after_slashes [] = []
after_slashes (c ∷ rest) = if is_slash c then after_slashes rest else c ∷ rest

abbrev pub without_slashes : List ℕ → List ℕ
without_slashes word = reverse (after_slashes (reverse word))

abbrev pub or_slash : List ℕ → List ℕ → List ℕ
or_slash [] [] = []
or_slash [] (c ∷ word) = 47 ∷ []
or_slash (c ∷ name) word = c ∷ name

-- The path of a word is the word without the slashes at its end, but a word of slashes alone is one slash.
abbrev pub word_path : List ℕ → List ℕ
word_path word = or_slash (without_slashes word) word

abbrev pub before_slash : List ℕ → List ℕ
before_slash [] = []
before_slash (c ∷ rest) = if is_slash c then [] else c ∷ before_slash rest

-- the name of a path is its last component
abbrev pub name_of : List ℕ → List ℕ
name_of path = reverse (before_slash (reverse path))

-- a file or a directory at a path
pub record ItemParts : Type 0 where
  pub path : List ℕ
  pub is_directory : Bool

abbrev pub item_parts : Item → ItemParts
item_parts item = record { path = string_bytes item.path; is_directory = item.is_directory }

-- Items are in the byte order of their paths. Those of one directory are thereby in the byte order of their names.
abbrev pub item_cmp : ItemParts → ItemParts → Ordering
item_cmp a b = ordering_then (slice_cmp nat_cmp a.path b.path) (bool_cmp a.is_directory b.is_directory)

-- What an entry of a directory stands for: nothing, where it is neither a file nor a directory.
abbrev pub item_of : List ℕ → DirEntry → List ItemParts
item_of path entry = elim entry.kind [
  | kind.File ↦ record { path = joined path entry.name; is_directory = false } ∷ []
  | kind.Dir ↦ record { path = joined path entry.name; is_directory = true } ∷ []
  | kind.Other ↦ []
  | kind.Unnamed ↦ []
]

-- these items with others, each at its place in the order and once
abbrev pub with_items : List ItemParts → List ItemParts → List ItemParts
with_items items others = fold (insert_key item_cmp) items others

-- the files and directories among the entries of a directory, in order and each once
abbrev pub items_in : List ℕ → List DirEntry → List ItemParts
items_in path entries = with_items [] (flat_map (item_of path) entries)

abbrev pub is_unnamed : DirEntry → Bool
is_unnamed entry = elim entry.kind [
  | kind.File ↦ false
  | kind.Dir ↦ false
  | kind.Other ↦ false
  | kind.Unnamed ↦ true
]

abbrev pub has_unnamed : List DirEntry → Bool
has_unnamed entries = list_any is_unnamed entries
