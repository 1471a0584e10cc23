-- How runs are written in the worked rows.
use Rattle.std.specs.Prelude.{ℕ, List, [], ◌∷◌, ◌++◌, map, flat_map, replicate, codes, None, Some}
use Prim.Native.String.{String}
use Rattle.pcre_io.specs.Files.{File}
use Rattle.pcre_io.specs.MemTree.{held_files}
use Rattle.line_feed.specs.Rows.{Input, End, input_with}
use Rattle.tool_io.specs.Asked.{all_asked}
use Rattle.grep_main.specs.ToolText.{text_of}
use Rattle.grep_main.specs.Asks.{asked_targets}
use Rattle.tool_io.specs.Outcomes.{RunOutcome}

abbrev pub outcome : String → String → ℕ → RunOutcome
outcome out err status = record { out = codes out; err = codes err; status = status }

-- over these files and this input
abbrev pub run_on : List File → Input → List (List ℕ) → RunOutcome
run_on files standard words =
    let set = held_files files [] in text_of words (all_asked set standard (asked_targets set words))

-- over standard input
abbrev pub over : String → List String → RunOutcome
over bytes words = run_on [] (input_with (codes bytes) End) (map codes words)

abbrev pub file : String → String → File
file name bytes = record { name = codes name; bytes = codes bytes; fault = None }

-- every read after n bytes fails
abbrev pub failing : ℕ → File → File
failing n f = record f { fault = Some n }

-- over files
abbrev pub over_files : List File → List String → RunOutcome
over_files files words = run_on files (input_with [] End) (map codes words)

-- over so many lines on which `a+b` meets a match limit of 0, with a line `x` before and after
abbrev pub over_errors : ℕ → List String → RunOutcome
over_errors n words =
    run_on [] (input_with (codes "x\n" ++ flat_map codes (replicate n "ab\n") ++ codes "x\n") End)
    (map codes ("--match-limit=0" ∷ "-ex" ∷ "-ea+b" ∷ words))
