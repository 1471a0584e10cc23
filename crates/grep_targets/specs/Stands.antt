-- What words may stand for over any set of files, told or not: the targets that some answers of a set to what it is
-- asked give (pcre2grep, "DESCRIPTION" and "OPTIONS", -r).
use Rattle.std.specs.Prelude.{◌≡◌, ℕ, zero, suc, Bool, true, false, List, [], ◌∷◌, ◌++◌, codes, bytes_eq, Option}
use Rattle.std.specs.Prelude.{None, Some}
use Rattle.pcre_io.specs.declared.entries.Kind.{Kind}
use Rattle.pcre_io.specs.declared.entries.Kind.TheVariants as kind
use Rattle.pcre_io.specs.declared.entries.DirEntry.{DirEntry}
use Rattle.tool_io.specs.declared.target.Target.{Target}
use Rattle.tool_io.specs.declared.target.Target.TheVariants.{Input, File, NoOpen, NoList, TooDeep}
use Rattle.grep_targets.specs.Filters.{Filter}
use Rattle.grep_targets.specs.Paths.{ItemParts, items_in, word_path}
use Rattle.grep_targets.specs.Targets.{allows_directory, as_item, file_targets, unnamed_targets, word_levels}

-- of each of these in order, and none is left out
abbrev pub AreOfEach : {A : Type 0} → (A → List Target → Type 0) → List A → List Target → Type 0
AreOfEach Are [] list = list ≡ []
AreOfEach Are (x ∷ xs) list =
    (part : List Target) × (rest : List Target) × (list ≡ part ++ rest)
    × Are x part × AreOfEach Are xs rest

abbrev pub AreIf : Bool → Type 0 → List Target → Type 0
AreIf true fact list = fact
AreIf false fact list = list ≡ []

-- of a file or of a directory, where an allowed directory has those below it
abbrev pub AreOfPath : Bool → Filter → (List ℕ → List Target → Type 0) → List ℕ → List Target → Type 0
AreOfPath true filter AreBelow path list =
    AreIf (allows_directory filter path) (AreBelow path list) list
AreOfPath false filter AreBelow path list = list ≡ file_targets filter path

abbrev pub AreOfItem : Filter → (List ℕ → List Target → Type 0) → ItemParts → List Target → Type 0
AreOfItem filter AreBelow item list = AreOfPath item.is_directory filter AreBelow item.path list

-- of a directory whose listing was answered so
abbrev pub AreOfListed : Filter → (List ℕ → List Target → Type 0) → List ℕ → Option (List DirEntry)
    → List Target → Type 0
AreOfListed filter AreBelow path None list = list ≡ NoList path ∷ []
AreOfListed filter AreBelow path (Some entries) list =
    (rest : List Target) × (list ≡ unnamed_targets path entries ++ rest)
    × AreOfEach (AreOfItem filter AreBelow) (items_in path entries) rest

-- of an allowed directory, where so many levels may be listed from it on
abbrev pub AreOfDirectory : Filter → ℕ → List ℕ → List Target → Type 0
AreOfDirectory filter zero path list = list ≡ TooDeep path ∷ []
AreOfDirectory filter (suc levels) path list =
    (answer : Option (List DirEntry))
    × AreOfListed filter (AreOfDirectory filter levels) path answer list

-- of a path whose kind was answered so
abbrev pub AreOfKind : Filter → List ℕ → Option Kind → List Target → Type 0
AreOfKind filter path None list = list ≡ NoOpen path ∷ []
AreOfKind filter path (Some kind.File) list = list ≡ file_targets filter path
AreOfKind filter path (Some kind.Dir) list =
    AreOfItem filter (AreOfDirectory filter word_levels) (as_item path true) list
AreOfKind filter path (Some kind.Other) list = list ≡ File path ∷ []
AreOfKind filter path (Some kind.Unnamed) list = list ≡ File path ∷ []

-- Without `-r` nothing is asked.
abbrev pub AreOfName : Bool → Filter → List ℕ → List Target → Type 0
AreOfName true filter path list = (answer : Option Kind) × AreOfKind filter path answer list
AreOfName false filter path list = list ≡ file_targets filter path

-- of a word, which is `-` or not
abbrev pub AreOfWordBy : Bool → Bool → Filter → List ℕ → List Target → Type 0
AreOfWordBy true recursive filter word list = list ≡ Input ∷ []
AreOfWordBy false recursive filter word list = AreOfName recursive filter (word_path word) list

abbrev pub AreOfWord : Bool → Filter → List ℕ → List Target → Type 0
AreOfWord recursive filter word list =
    AreOfWordBy (bytes_eq word (codes "-")) recursive filter word list

-- of words, in order
abbrev pub AreOfWords : Bool → Filter → List (List ℕ) → List Target → Type 0
AreOfWords recursive filter [] list = list ≡ Input ∷ []
AreOfWords recursive filter (word ∷ words) list =
    AreOfEach (AreOfWord recursive filter) (word ∷ words) list
