-- What `-gen` writes: the numbers of lines, matches, ends and replacements → seven lines.
use Rattle.std.specs.Prelude.{ℕ, List, ◌++◌, codes, decimal}
use Rattle.tool_io.specs.Texts.{line}
use Rattle.test_gen.specs.Counts.{pattern, names, lines_matched, characters, all_ends, replacements}

abbrev pub made_text : ℕ → List ℕ
made_text n = line (codes "lines: " ++ decimal n)

-- a pattern's number, how many lines it matches, and the characters of their first matches
abbrev pub pattern_text : ℕ → List ℕ → ℕ → List ℕ
pattern_text number text n =
    line (codes "pattern " ++ decimal number ++ codes ": "
    ++ decimal (lines_matched (pattern text) n) ++ codes " lines, "
    ++ decimal (characters (pattern text) n) ++ codes " characters")

-- the ends that the DFA matcher finds
abbrev pub ends_text : List ℕ → ℕ → List ℕ
ends_text text n = line (codes "dfa: " ++ decimal (all_ends (pattern text) n) ++ codes " ends")

-- the matches that are replaced
abbrev pub replaced_text : List ℕ → List ℕ → ℕ → List ℕ
replaced_text text replacement n =
    line (codes "substitute: "
    ++ decimal (replacements (pattern text) (names text) replacement n))

-- what is written for so many lines
unfoldable pub generated_text : ℕ → List ℕ
generated_text n =
    made_text n
    ++ (pattern_text 1 (codes "b+a") n
    ++ (pattern_text 2 (codes "(?<=-)b(?=a)") n
    ++ (pattern_text 3 (codes "(\\w)\\w*\\1") n
    ++ (pattern_text 4 (codes "(?>b*)a-") n
    ++ (ends_text (codes "b+a?") n
    ++ replaced_text (codes "-") (codes "+") n)))))
