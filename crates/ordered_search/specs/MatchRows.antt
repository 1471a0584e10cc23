-- Worked rows of a search over all start places: the answers that a user meets.
use Rattle.std.specs.Prelude.{◌≡◌, ℕ, true, false, List, [], ◌∷◌, codes, Option, Some, None, pos, negsuc, map}
use Rattle.pat_tree.specs.declared.options.Newline.TheVariants.{CrLf}
use Rattle.pat_tree.specs.declared.nodes.Item.TheVariants.{Char, AnyAll, NotNewline, Class}
use Rattle.pat_tree.specs.declared.nodes.AnchorKind.TheVariants.{Caret, Dollar, Word}
use Rattle.pat_tree.specs.declared.nodes.Verb.TheVariants.{Accept, Commit, Skip, Then, Mark}
use Rattle.pat_tree.specs.declared.nodes.Part.TheVariants.{Range}
use Rattle.pat_tree.specs.declared.options.TheConstants.Options as plain
use Rattle.pat_tree.specs.declared.options.TheConstants.MatchOptions as plain_match
use Rattle.pat_tree.specs.declared.nodes.Node.TheVariants as node
use Rattle.pat_tree.specs.Parts.{TreeParts}
use Rattle.pat_tree.specs.Pattern.{pattern_of}
use Rattle.pat_tree.specs.Nested.{one, line_break, seq, group, repeat, one_repeat, atomic, look, condition, call}
use Rattle.pat_tree.specs.Nested.{ref, anchor, keep_out, verb, callout, none, any_set, assert, other}
use Rattle.frame_store.specs.Captures.{Captures}
use Rattle.ordered_search.specs.Setting.{Setting, setting_of}
use Rattle.ordered_search.specs.PlaceAnswer.{Loop, Abort, blocks, last_name}
use Rattle.ordered_search.specs.Written.{◌&◌, ◌⨾◌, text, callout_at, digits, class_of, search, with_options}
use Rattle.ordered_search.specs.Written.{with_matching, with_classes, with_names, with_reply, from, soft, hard}
use Rattle.ordered_search.specs.Written.{no_start_optimize, utf, lines_end_at, span, seen}
use Rattle.ordered_search.specs.MatchAnswer.{MatchAnswer, Match, NoMatch, PartialFrom, Error, match_answer}

-- a match from one place to another with these groups, and with the name of a number
abbrev pub found : ℕ → ℕ → Captures → MatchAnswer
found p q caps = Match (record { keep = p; to = q; mark = None; caps = caps })

abbrev pub found_with : ℕ → ℕ → ℕ → Captures → MatchAnswer
found_with n p q caps = Match (record { keep = p; to = q; mark = Some n; caps = caps })

-- each of these searches gives its answer
abbrev pub Answered : List (Setting × MatchAnswer) → Type 0
Answered [] = Unit {0}
Answered (r ∷ rs) = ((match_answer r.0).answer ≡ r.1) × Answered rs

-- what the callouts of a search are shown, and the last name that it meets
abbrev pub callouts_of : Setting → List (ℕ × ℕ × ℕ × ℕ)
callouts_of g = map seen (blocks (match_answer g).notes)

abbrev pub last_name_of : Setting → Option ℕ
last_name_of g = last_name (match_answer g).notes

-- Captures, calls and repeats.

abbrev pub captures : List (Setting × MatchAnswer)
captures =
    -- `A((?:A|B(*ACCEPT)|C)D)` on `AB`
    (
      search 1 (seq
          ("A" ⨾ group (Some 1)
          (seq (group None (text "A" & seq ("B" ⨾ verb (Accept None) & none) & text "C" & none) & "D" ⨾ none) &
          none) & none) & none) (codes "AB"),
      found 0 2 (span 1 2 ∷ []),
    )
    -- `^(.|(.)(?1)\2)$` on `abcba`
    ∷ (
      search 2 (seq (anchor (Caret false) & group (Some 1)
          (one NotNewline & seq (group (Some 2) (one NotNewline & none) & call 1 & ref (2 ∷ []) false & none) &
          none) & anchor (Dollar false false) & none) & none) (codes "abcba"),
      found 0 5 (span 0 5 ∷ span 0 1 ∷ []),
    )
    -- `((?1)a|b)` on `b`
    ∷ (search 1 (group (Some 1) (seq (call 1 & "a" ⨾ none) & text "b" & none) & none) (codes "b"), Error Loop)
    -- `(a*)*` on `aab`
    ∷ (
      search 1 (repeat (group (Some 1) (one_repeat (Char 97 false) 0 None false & none)) 0 None false & none)
          (codes "aab"),
      found 0 2 (span 2 2 ∷ []),
    )
    -- `(?:(?<n>foo)|(?<n>bar))\k<n>` on `barbar`
    ∷ (
      search 2 (seq (group None (group (Some 1) (text "foo" & none) & group (Some 2) (text "bar" & none) & none) &
          ref (1 ∷ 2 ∷ []) false & none) & none) (codes "barbar"),
      found 0 6 (None ∷ span 0 3 ∷ []),
    )
    -- `(?|(a)|(b))(c)` on `bc`
    ∷ (
      search 2 (seq (group None (group (Some 1) (text "a" & none) & group (Some 1) (text "b" & none) & none) & group
          (Some 2) (text "c" & none) & none) & none) (codes "bc"),
      found 0 2 (span 0 1 ∷ span 1 2 ∷ []),
    )
    -- `foo\Kbar` on `foobar`
    ∷ (search 0 (seq ("foo" ⨾ keep_out & "bar" ⨾ none) & none) (codes "foobar"), found 3 6 [])
    -- `(?:ab)*c` on `ababc`
    ∷ (
      search 0 (seq (repeat (group None (text "ab" & none)) 0 None false & "c" ⨾ none) & none) (codes "ababc"),
      found 0 5 [],
    )
    -- `((?2)|a)((?1)|b)` on `b`
    ∷ (
      search 2 (seq (group (Some 1) (call 2 & text "a" & none) & group (Some 2) (call 1 & text "b" & none) & none) &
          none) (codes "b"),
      Error Loop,
    )
    ∷ []

-- Atomic groups, lookarounds and conditions.

abbrev pub inside : List (Setting × MatchAnswer)
inside =
    -- `(?<=ab|c)d` on `cd`
    (search 0 (seq (look false true true (text "ab" & text "c" & none) & "d" ⨾ none) & none) (codes "cd"), found 1 2 [])
    -- `(?>a*)a` on `aaa`
    ∷ (
      search 0 (seq (atomic (one_repeat (Char 97 false) 0 None false & none) & "a" ⨾ none) & none) (codes "aaa"),
      NoMatch,
    )
    -- `(?=(a+))\1b` on `aab`
    ∷ (
      search 1 (seq (look true true true (group (Some 1) (one_repeat (Char 97 false) 1 None false & none) & none) &
          ref (1 ∷ []) false & "b" ⨾ none) & none) (codes "aab"),
      found 0 3 (span 0 2 ∷ []),
    )
    -- `(a)?(?(1)b|c)` on `ac`
    ∷ (
      search 1 (seq (repeat (group (Some 1) (text "a" & none)) 0 (Some 1) false & condition (any_set (1 ∷ []))
          (text "b") (other (text "c")) & none) & none) (codes "ac"),
      found 1 2 (None ∷ []),
    )
    -- `(?<!x)y` on `xyy`
    ∷ (search 0 (seq (look false false true (text "x" & none) & "y" ⨾ none) & none) (codes "xyy"), found 2 3 [])
    -- `(?*a+?)aa(?<*a{2})b` on `aab`
    ∷ (
      search 0 (seq (look true true false (one_repeat (Char 97 false) 1 None true & none) & "aa" ⨾ look false true
          false (one_repeat (Char 97 false) 2 (Some 2) false & none) & "b" ⨾ none) & none) (codes "aab"),
      found 0 3 [],
    )
    -- `(?(?!(b))a|(bb|b))` on `baab`
    ∷ (
      search 2 (condition (assert true false true (group (Some 1) (text "b" & none) & none)) (text "a")
          (other (group (Some 2) (text "bb" & text "b" & none))) & none) (codes "baab"),
      found 0 1 (span 0 1 ∷ span 0 1 ∷ []),
    )
    -- `(?=a\K)a` on `a`
    ∷ (
      search 0 (seq (look true true true (seq ("a" ⨾ keep_out & none) & none) & "a" ⨾ none) & none) (codes "a"),
      found 0 1 [],
    )
    -- `(?<=(a{1,3}))b` on `aaab`
    ∷ (
      search 1 (seq
          (look false true true (group (Some 1) (one_repeat (Char 97 false) 1 (Some 3) false & none) & none) & "b" ⨾
          none) & none) (codes "aaab"),
      found 3 4 (span 0 3 ∷ []),
    )
    -- `(?<=ab?|c)d` on `abd`
    ∷ (
      search 0 (seq
          (look false true true (seq ("a" ⨾ one_repeat (Char 98 false) 0 (Some 1) false & none) & text "c" & none) &
          "d" ⨾ none) & none) (codes "abd"),
      found 2 3 [],
    )
    -- `(?<=\R)x` on `a\r\nx`
    ∷ (
      search 0 (seq (look false true true (line_break & none) & "x" ⨾ none) & none) (97 ∷ 13 ∷ 10 ∷ 120 ∷ []),
      found 3 4 [],
    )
    ∷ []

-- Verbs and marks.

abbrev pub verbs : List (Setting × MatchAnswer)
verbs =
    -- `(*COMMIT)abc` on `xyzabc`
    (search 0 (seq (verb (Commit None) & "abc" ⨾ none) & none) (codes "xyzabc"), found 3 6 [])
    -- `(*COMMIT)abc` on `xyzabc`
    ∷ (no_start_optimize (search 0 (seq (verb (Commit None) & "abc" ⨾ none) & none) (codes "xyzabc")), NoMatch)
    -- `^.*?(?(?=a)a|b(*THEN)c)` on `ba`
    ∷ (
      search 0 (seq (anchor (Caret false) & one_repeat NotNewline 0 None true & condition
          (assert true true true (text "a" & none)) (text "a") (other (seq ("b" ⨾ verb (Then None) & "c" ⨾ none)))
          & none) & none) (codes "ba"),
      NoMatch,
    )
    -- `X(*MARK:A)Y|X(*MARK:B)Z` on `XY`
    ∷ (
      with_names ("A" ∷ "B" ∷ [])
          (search 0 (seq ("X" ⨾ verb (Mark (Some 0)) & "Y" ⨾ none) & seq ("X" ⨾ verb (Mark (Some 1)) & "Z" ⨾ none) &
          none) (codes "XY")),
      found_with 0 0 2 [],
    )
    -- `aaa(*SKIP)b|.` on `aaac`
    ∷ (search 0 (seq ("aaa" ⨾ verb (Skip None) & "b" ⨾ none) & one NotNewline & none) (codes "aaac"), found 3 4 [])
    -- `a(*COMMIT)b|ac` on `ac`
    ∷ (search 0 (seq ("a" ⨾ verb (Commit None) & "b" ⨾ none) & text "ac" & none) (codes "ac"), NoMatch)
    -- `(?:a(*THEN)b|ac)` on `ac`
    ∷ (
      search 0 (group None (seq ("a" ⨾ verb (Then None) & "b" ⨾ none) & text "ac" & none) & none) (codes "ac"),
      found 0 2 [],
    )
    -- `^(?:(?1)c|ad)(a(*COMMIT)b)?` on `ad`
    ∷ (
      search 1 (seq (anchor (Caret false) & group None (seq (call 1 & "c" ⨾ none) & text "ad" & none) & repeat
          (group (Some 1) (seq ("a" ⨾ verb (Commit None) & "b" ⨾ none) & none)) 0 (Some 1) false & none) & none)
          (codes "ad"),
      found 0 2 (None ∷ []),
    )
    -- `a(*MARK:m)a(*SKIP:m)b|.` on `aac`
    ∷ (
      with_names ("m" ∷ "m" ∷ [])
          (search 0 (seq ("a" ⨾ verb (Mark (Some 0)) & "a" ⨾ verb (Skip (Some 1)) & "b" ⨾ none) & one NotNewline &
          none) (codes "aac")),
      found 1 2 [],
    )
    -- `(?(?!(*MARK:x)b)a|b)` on `b`
    ∷ (
      with_names ("x" ∷ [])
          (search 0 (condition (assert true false true (seq (verb (Mark (Some 0)) & "b" ⨾ none) & none)) (text "a")
          (other (text "b")) & none) (codes "b")),
      found_with 0 0 1 [],
    )
    -- `(?=a(*COMMIT)b)a|ac` on `ac`
    ∷ (
      search 0 (seq (look true true true (seq ("a" ⨾ verb (Commit None) & "b" ⨾ none) & none) & "a" ⨾ none) & text
          "ac" & none) (codes "ac"),
      NoMatch,
    )
    -- `^(?:.*?(?:b(*THEN)c)|a)` on `abbc`
    ∷ (
      search 0 (seq (anchor (Caret false) & group None
          (seq (one_repeat NotNewline 0 None true & group None (seq ("b" ⨾ verb (Then None) & "c" ⨾ none) & none)
          & none) & text "a" & none) & none) & none) (codes "abbc"),
      found 0 1 [],
    )
    -- `(?>a(*MARK:m)b)(*SKIP:m)c|ab` on `abd`
    ∷ (
      with_names ("m" ∷ "m" ∷ [])
          (search 0 (seq (atomic (seq ("a" ⨾ verb (Mark (Some 0)) & "b" ⨾ none) & none) & verb (Skip (Some 1)) & "c" ⨾
          none) & text "ab" & none) (codes "abd")),
      found 0 2 [],
    )
    -- `a(*ACCEPT)b|ab` on `ab`
    ∷ (
      with_options (λ o. record o { endanchored = true })
          (search 0 (seq ("a" ⨾ verb (Accept None) & "b" ⨾ none) & text "ab" & none) (codes "ab")),
      NoMatch,
    )
    ∷ []

-- Partial matching.

abbrev pub partials : List (Setting × MatchAnswer)
partials =
    -- `dog(sbody)?` on `dog`
    (
      soft (search 1 (seq ("dog" ⨾ repeat (group (Some 1) (text "sbody" & none)) 0 (Some 1) false & none) & none)
          (codes "dog")),
      found 0 3 (None ∷ []),
    )
    -- `dog(sbody)?` on `dog`
    ∷ (
      hard (search 1 (seq ("dog" ⨾ repeat (group (Some 1) (text "sbody" & none)) 0 (Some 1) false & none) & none)
          (codes "dog")),
      PartialFrom 0,
    )
    -- `dog(sbody)??` on `dog`
    ∷ (
      hard (search 1 (seq ("dog" ⨾ repeat (group (Some 1) (text "sbody" & none)) 0 (Some 1) true & none) & none)
          (codes "dog")),
      found 0 3 (None ∷ []),
    )
    -- `abc` on `xab`
    ∷ (soft (search 0 (text "abc" & none) (codes "xab")), PartialFrom 1)
    -- `abcd|c` on `abc`
    ∷ (soft (search 0 (text "abcd" & text "c" & none) (codes "abc")), found 2 3 [])
    -- `abc` on `ab`
    ∷ (soft (from 2 (search 0 (text "abc" & none) (codes "ab"))), NoMatch)
    -- `abc` on `ab`
    ∷ (soft (search 0 (text "abc" & none) (codes "ab")), PartialFrom 0)
    -- `\bb` on `a`
    ∷ (soft (from 1 (search 0 (seq (anchor (Word false) & "b" ⨾ none) & none) (codes "a"))), PartialFrom 1)
    -- `a.` on `a\r`
    ∷ (hard (lines_end_at CrLf (search 0 (seq ("a" ⨾ one NotNewline & none) & none) (97 ∷ 13 ∷ []))), PartialFrom 0)
    -- `a.` (s) on `a\r`
    ∷ (hard (lines_end_at CrLf (search 0 (seq ("a" ⨾ one AnyAll & none) & none) (97 ∷ 13 ∷ []))), found 0 2 [])
    -- `a$` on `a`
    ∷ (hard (search 0 (seq ("a" ⨾ anchor (Dollar false false) & none) & none) (codes "a")), PartialFrom 0)
    ∷ []

-- Newlines, UTF and start places.

abbrev pub places : List (Setting × MatchAnswer)
places =
    -- `^b` (m) on `a\r\nb`
    (
      lines_end_at CrLf (search 0 (seq (anchor (Caret true) & "b" ⨾ none) & none) (97 ∷ 13 ∷ 10 ∷ 98 ∷ [])),
      found 3 4 [],
    )
    -- `a$` on `a\r\n`
    ∷ (
      lines_end_at CrLf (search 0 (seq ("a" ⨾ anchor (Dollar false false) & none) & none) (97 ∷ 13 ∷ 10 ∷ [])),
      found 0 1 [],
    )
    -- `[^a]$` on `\r\n`
    ∷ (
      lines_end_at CrLf (with_classes (record { negated = true; caseless = false; parts = (Range 97 97 ∷ []) } ∷ [])
          (search 0 (seq (one (Class 0) & anchor (Dollar false false) & none) & none) (13 ∷ 10 ∷ []))),
      NoMatch,
    )
    -- `[\n]$` on `\r\n`
    ∷ (
      lines_end_at CrLf (with_classes (class_of (Range 10 10 ∷ []) ∷ [])
          (search 0 (seq (one (Class 0) & anchor (Dollar false false) & none) & none) (13 ∷ 10 ∷ []))),
      found 1 2 [],
    )
    -- `b` on `a\nb`
    ∷ (with_options (λ o. record o { firstline = true }) (search 0 (text "b" & none) (97 ∷ 10 ∷ 98 ∷ [])), NoMatch)
    -- `^a` on `a`
    ∷ (
      with_matching (λ m. record m { notbol = true })
          (search 0 (seq (anchor (Caret false) & "a" ⨾ none) & none) (codes "a")),
      NoMatch,
    )
    -- `a?` on `b`
    ∷ (
      with_matching (λ m. record m { notempty = true })
          (search 0 (one_repeat (Char 97 false) 0 (Some 1) false & none) (codes "b")),
      NoMatch,
    )
    -- `(?i)\x{212a}` on `k`
    ∷ (utf (search 0 (one (Char 0x212a true) & none) (codes "k")), found 0 1 [])
    -- `[^k]` (i) on `\xe2\x84\xaaa`
    ∷ (
      utf (with_classes (record { negated = true; caseless = true; parts = (Range 107 107 ∷ []) } ∷ [])
          (search 0 (one (Class 0) & none) (226 ∷ 132 ∷ 170 ∷ 97 ∷ []))),
      found 3 4 [],
    )
    -- `\x{e9}` on `\xc2\xa9\xc3\xa9`
    ∷ (utf (search 0 (one (Char 0xe9 false) & none) (194 ∷ 169 ∷ 195 ∷ 169 ∷ [])), found 2 4 [])
    -- `[\x{370}-\x{3ff}]+` on `x\xce\xb1\xce\xb2`
    ∷ (
      utf (with_classes (class_of (Range 880 1023 ∷ []) ∷ [])
          (search 0 (one_repeat (Class 0) 1 None false & none) (120 ∷ 206 ∷ 177 ∷ 206 ∷ 178 ∷ []))),
      found 1 5 [],
    )
    -- `(.)(?<=^.)\1` on `\xc3\xa9\xc3\xa9`
    ∷ (
      utf (search 1
          (seq (group (Some 1) (one NotNewline & none) & look false true true
          (seq (anchor (Caret false) & one NotNewline & none) & none) & ref (1 ∷ []) false & none) & none)
          (195 ∷ 169 ∷ 195 ∷ 169 ∷ [])),
      found 0 4 (span 0 2 ∷ []),
    )
    ∷ []

-- Callouts, and the names that a search without a match tells.

-- `\d?[A-E]\*` (auto_callout) on `E*`
abbrev pub automatic : Setting
automatic =
    with_classes (digits ∷ class_of (Range 65 69 ∷ []) ∷ []) (search 0 (seq (
    callout (callout_at 255 0) & one_repeat (Class 0) 0 (Some 1) false & callout (callout_at 255 3) & one (Class 1)
    & callout (callout_at 255 8) & "*" ⨾ callout (callout_at 255 10) & none) & none) (codes "E*"))

-- `a(?C1)b|ac` on `ab`
abbrev pub numbered : Setting
numbered = search 0 (seq ("a" ⨾ callout (callout_at 1 6) & "b" ⨾ none) & text "ac" & none) (codes "ab")

-- `X(*MARK:A)Y|X(*MARK:B)Z` on `XP`
abbrev pub unmatched : Setting
unmatched =
    with_names ("A" ∷ "B" ∷ [])
    (search 0 (seq ("X" ⨾ verb (Mark (Some 0)) & "Y" ⨾ none) & seq ("X" ⨾ verb (Mark (Some 1)) & "Z" ⨾ none)
    & none) (codes "XP"))

-- the finished tree of `[ab]`, and a search of it
abbrev pub letters : TreeParts
letters = record {
  options = plain.PLAIN;
  nodes = record { node = node.One (Class 0); at = 0 } ∷ record { node = node.Group None (0 ∷ []); at = 0 } ∷ [];
  classes = class_of (Range 97 98 ∷ []) ∷ [];
  names = [];
  verb_names = [];
  root = 1;
}

abbrev pub search_of : TreeParts → List ℕ → Setting
search_of t subject = setting_of (pattern_of t) plain_match.PLAIN subject 0 (λ c. c) (λ c. false) (λ b. pos 0)

pub record Told : Type 0 where
  pub finished_tree : (match_answer (search_of letters (codes "xby"))).answer ≡ found 1 2 []
  pub automatic_callouts : callouts_of automatic ≡ (255, 0, 0, 0) ∷ (255, 3, 0, 0) ∷ (255, 8, 0, 1) ∷ (255, 10, 0, 2)
      ∷ []
  pub automatic_match : (match_answer automatic).answer ≡ found 0 2 []
  -- a callout's answer lets the path fail, or ends the search
  pub failing : (match_answer (with_reply (pos 1) numbered)).answer ≡ NoMatch
  pub failing_callouts : callouts_of (with_reply (pos 1) numbered) ≡ (1, 6, 0, 1) ∷ []
  pub ending : (match_answer (with_reply (negsuc 36) numbered)).answer ≡ Error (Abort (negsuc 36))
  -- the last name of the whole run, where nothing matches
  pub no_match : (match_answer unmatched).answer ≡ NoMatch
  pub no_match_name : last_name_of unmatched ≡ Some 1

pub record WorkedRows : Type 0 where
  pub captures_answered : Answered captures
  pub inside_answered : Answered inside
  pub verbs_answered : Answered verbs
  pub partials_answered : Answered partials
  pub places_answered : Answered places
  pub told : Told
