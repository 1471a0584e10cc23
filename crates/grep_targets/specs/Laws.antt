-- What is said in plain words of the targets that words may stand for.
use Rattle.std.specs.Prelude.{◌≡◌, ◌≢◌, ℕ, Bool, List, [], ◌∷◌, ◌++◌, All, codes, ⊤}
use Rattle.pcre_io.specs.Files.{Contents}
use Rattle.tool_io.specs.declared.target.Target.{Target}
use Rattle.tool_io.specs.declared.target.Target.TheVariants.{Input, File, NoOpen, NoList, TooDeep, Unnamed}
use Rattle.grep_targets.specs.Filters.{Filter}
use Rattle.grep_targets.specs.Paths.{word_path}
use Rattle.grep_targets.specs.Targets.{targets}
use Rattle.grep_targets.specs.Stands.{AreOfWord, AreOfWords}

-- nothing, or a slash and what follows it
abbrev pub IsNothingOrBelow : List ℕ → Type 0
IsNothingOrBelow [] = ⊤
IsNothingOrBelow (c ∷ rest) = c ≡ 47

abbrev pub IsAtOrBelow : List ℕ → List ℕ → Type 0
IsAtOrBelow front path = (rest : List ℕ) × (path ≡ front ++ rest) × IsNothingOrBelow rest

-- The word `-` has no path. That of another word stands for its path and for what is below it.
abbrev pub IsPathOf : List ℕ → List ℕ → Type 0
IsPathOf word path = (word ≢ codes "-") × IsAtOrBelow (word_path word) path

abbrev pub IsOf : List ℕ → Target → Type 0
IsOf word Input = word ≡ codes "-"
IsOf word (File path) = IsPathOf word path
IsOf word (NoOpen path) = IsPathOf word path
IsOf word (NoList path) = IsPathOf word path
IsOf word (TooDeep path) = IsPathOf word path
IsOf word (Unnamed path) = IsPathOf word path

-- each target of a word is that word's, or stands below it
abbrev pub StandBelow : Type 0
StandBelow =
    (recursive : Bool) (filter : Filter) (word : List ℕ) (list : List Target)
    → AreOfWord recursive filter word list → All (IsOf word) list

-- what words stand for over files that are told, they may stand for
abbrev pub ToldMayStand : Type 0
ToldMayStand =
    (recursive : Bool) (filter : Filter) (set : Contents) (words : List (List ℕ))
    → AreOfWords recursive filter words (targets filter set words recursive)
