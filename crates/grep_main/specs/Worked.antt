-- Worked rows: what pcre2grep writes.
use Rattle.std.specs.Prelude.{◌≡◌, ℕ, true, List, [], ◌∷◌, ◌++◌, codes, None, pos}
use Rattle.pat_tree.specs.declared.options.MatchOptions.{MatchOptions}
use Rattle.pat_tree.specs.Parts.{TreeParts}
use Rattle.uni_text.specs.Sets.{word}
use Rattle.match_items.specs.Views.{fold_in}
use Rattle.ordered_search.specs.Setting.{setting_of}
use Rattle.pat_tree.specs.Pattern.{pattern_of}
use Rattle.grep_core.specs.pcre2_api.Patterns.{setting}
use Rattle.pcre_io.specs.Files.{File}
use Rattle.grep_main.specs.RowRuns.{outcome, over, over_files, over_errors, file, failing}

-- a zero byte stands in it
abbrev pub binary_file : File
binary_file = record { name = codes "f"; bytes = codes "a" ++ 0 ∷ codes "x\n"; fault = None }

abbrev pub some_files : List File
some_files = file "a" "two\none\n" ∷ failing 7 (file "b" "one\ntwo") ∷ file "c" "one\n"
    ∷ file "p" "on \n\t\nT\n" ∷ []

-- a read fails just after the second line
abbrev pub cut_file : File
cut_file = failing 4 (file "d" "x\ny\nx\n")

-- files in directories
abbrev pub tree_files : List File
tree_files = file "d/sub/c.c" "x\n" ∷ file "d/b.h" "x\n" ∷ file "d/a.c" "x\n" ∷ []

pub record WorkedRows : Type 0 where
  pub optional_letter : over "red\ncolor\nColour\ncolour" ("colou?r" ∷ [])
      ≡ outcome "color\ncolour\n" "" 0
  pub read_error : over_files some_files ("o" ∷ "a" ∷ "b" ∷ [])
      ≡ outcome "a:two\na:one\nb:one\n" "pcre2grep: b: read error\n" 2
  pub counts : over_files some_files ("-ct" ∷ "o" ∷ "a" ∷ "c" ∷ [])
      ≡ outcome "a:2\nc:1\nTOTAL:3\n" "" 0
  pub missing : over_files some_files ("-c" ∷ "o" ∷ "a" ∷ "missing" ∷ [])
      ≡ outcome "a:2\n" "pcre2grep: missing: cannot be opened\n" 2
  pub pattern_file : over_files some_files ("-lif" ∷ "p" ∷ "a" ∷ "c" ∷ []) ≡ outcome "a\nc\n" "" 0
  pub second_use : over "x\n" ("-c" ∷ "x" ∷ "-" ∷ "-" ∷ [])
      ≡ outcome "(standard input):1\n(standard input):0\n" "" 0
  pub empty_parts : over "abb\nc" ("-no" ∷ "b*" ∷ []) ≡ outcome "1:\n1:bb\n2:\n" "" 0
  pub context : over "a\nx\nb\nc\nd\nx\n" ("-n" ∷ "-C" ∷ "1" ∷ "x" ∷ []) ≡ outcome "1-a\n2:x\n3-b\n--\n5-d\n6:x\n" "" 0
  -- the scan ends with the last context line, and the fault after it isn't met
  pub last_context : over_files (cut_file ∷ []) ("-m1" ∷ "-A1" ∷ "x" ∷ "d" ∷ [])
      ≡ outcome "x\ny\n" "" 0
  pub too_little_context : over_files (cut_file ∷ []) ("-m1" ∷ "-A2" ∷ "x" ∷ "d" ∷ [])
      ≡ outcome "x\ny\n" "pcre2grep: d: read error\n" 2
  pub newline : over "a\r\nb\r\n" ("-N" ∷ "CRLF" ∷ "a$" ∷ []) ≡ outcome "a\r\n" "" 0
  pub offsets : over "foo\nbar\n" ("--line-offsets" ∷ "o" ∷ []) ≡ outcome "1:1,1\n1:2,1\n" "" 0
  pub binary : over_files (binary_file ∷ []) ("x" ∷ "f" ∷ [])
      ≡ outcome "Binary file f matches\n" "" 0
  pub fixed : over "a.b\nadb\nc\n" ("-cFe" ∷ "a.b\nc" ∷ []) ≡ outcome "2\n" "" 0
  pub match_error : over "ab\ncb\n" ("-nv" ∷ "--match-limit=0" ∷ "a+b" ∷ []) ≡ outcome "2:cb\n"
      "pcre2grep: (standard input): line 1: error -47\n" 0
  pub twenty_errors : (over_errors 20 []).out ≡ codes "x\nx\n"
  pub too_many_errors : (over_errors 21 []).out ≡ codes "x\n"
  pub refused : over "" ("a(" ∷ [])
      ≡ outcome "" "pcre2grep: pattern 1: error 114 at offset 2: missing closing parenthesis\n" 2
  pub looked_behind : over "ab\ncb\n" ("-o" ∷ "(?<=a|xy)b" ∷ []) ≡ outcome "b\n" "" 0
  pub refused_behind : over "" ("x(?<=(?<=a+)b)c" ∷ [])
      ≡ outcome "" "pcre2grep: pattern 1: error 125 at offset 5: lookbehind length is not limited\n" 2
  pub too_long : over "ab\nabcde\nb\n" ("--max-buffer-size=4" ∷ "b" ∷ []) ≡ outcome "ab\n"
      "pcre2grep: (standard input): line 2 is too long\n" 2
  pub included : over_files tree_files ("-r" ∷ "--include=\\.c$" ∷ "x" ∷ "d" ∷ [])
      ≡ outcome "d/a.c:x\nd/sub/c.c:x\n" "" 0
  pub excluded_directory : over_files tree_files ("-r" ∷ "--exclude-dir=^sub$" ∷ "x" ∷ "d" ∷ [])
      ≡ outcome "d/a.c:x\nd/b.h:x\n" "" 0
  pub not_there : over_files tree_files ("-r" ∷ "x" ∷ "nope" ∷ [])
      ≡ outcome "" "pcre2grep: nope: cannot be opened\n" 2
  pub bad_filter : over_files tree_files ("-r" ∷ "--include=a(" ∷ "x" ∷ "d" ∷ [])
      ≡ outcome "" "pcre2grep: --include 1: error 114 at offset 2: missing closing parenthesis\n" 2
  -- what a search of a finished tree is about
  pub finished_tree : (t : TreeParts) (matching : MatchOptions) (subject : List ℕ) (start : ℕ)
      → setting (pattern_of t) matching subject start ≡ setting_of (pattern_of t)
      matching subject start (fold_in t.options.utf) (word true) (λ block. pos 0)
