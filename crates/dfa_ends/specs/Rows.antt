-- Worked rows: what a DFA match answers.
use Rattle.std.specs.Prelude.{◌≡◌, ℕ, true, false, List, [], ◌∷◌, codes, Some, None}
use Rattle.pat_tree.specs.declared.nodes.Item.TheVariants.{Char, NotNewline, Class}
use Rattle.pat_tree.specs.declared.nodes.AnchorKind.TheVariants.{Caret, Word}
use Rattle.pat_tree.specs.declared.nodes.Verb.TheVariants.{Fail}
use Rattle.pat_tree.specs.Nested.{empty, one, line_break, seq, group, repeat, one_repeat, atomic, look, condition}
use Rattle.pat_tree.specs.Nested.{anchor, verb, none, never, assert, no_other, other}
use Rattle.ordered_search.specs.Setting.{Setting}
use Rattle.ordered_search.specs.Written.{◌&◌, ◌⨾◌, text, words, search, with_options, with_matching, with_classes}
use Rattle.ordered_search.specs.Written.{from, soft, hard, utf}
use Rattle.dfa_ends.specs.DfaAnswer.{DfaAnswer, EndsFrom, NoMatch, PartialFrom, dfa_answer}

-- each of these searches gives its answer
abbrev pub Answered : List (Setting × DfaAnswer) → Type 0
Answered [] = Unit {0}
Answered (r ∷ rs) = (dfa_answer r.0 false ≡ r.1) × Answered rs

-- `cat(er(pillar)?)?`
abbrev pub caterpillar : Setting
caterpillar =
    search 2 (seq ("cat" ⨾ repeat (group (Some 1) (seq ("er" ⨾ repeat (group (Some 2)
    (text "pillar" & none)) 0 (Some 1) false & none) & none)) 0 (Some 1) false & none) & none)
    (codes "the caterpillar catchment")

-- `^a++\w!`
abbrev pub possessive : List ℕ → Setting
possessive subject =
    with_classes (words ∷ []) (search 0 (seq (anchor (Caret false)
    & atomic (one_repeat (Char 97 false) 1 None false & none) & one (Class 0) & "!" ⨾ none) & none)
    subject)

-- `a|ab|abc`
abbrev pub three : Setting
three = search 0 (text "a" & text "ab" & text "abc" & none) (codes "abc")

-- `b+a?`
abbrev pub two_runs : List ℕ → Setting
two_runs subject =
    search 0 (seq (one_repeat (Char 98 false) 1 None false
    & one_repeat (Char 97 false) 0 (Some 1) false & none) & none) subject

-- `(?:a|ab)*?`
abbrev pub lazy : List ℕ → Setting
lazy subject =
    search 0 (repeat (group None (text "a" & text "ab" & none)) 0 None true & none) subject

-- `(?:|a)+?`
abbrev pub with_empty_turns : List ℕ → Setting
with_empty_turns subject =
    search 0 (repeat (group None (empty & text "a" & none)) 1 None true & none) subject

-- `(?>a|ab|abc)`
abbrev pub atomic_three : List ℕ → Setting
atomic_three subject =
    search 0 (atomic (text "a" & text "ab" & text "abc" & none) & none) subject

-- `a(*FAIL)|b`
abbrev pub failing : List ℕ → Setting
failing subject = search 0 (seq ("a" ⨾ verb (Fail None) & none) & text "b" & none) subject

abbrev pub ends : List (Setting × DfaAnswer)
ends =
    (caterpillar, EndsFrom 4 (15 ∷ 9 ∷ 7 ∷ []))
    ∷ (possessive (codes "aaab!"), EndsFrom 0 (5 ∷ []))
    ∷ (possessive (codes "aaa!"), NoMatch)
    ∷ (three, EndsFrom 0 (3 ∷ 2 ∷ 1 ∷ []))
    ∷ (two_runs (codes "bbba---babca"), EndsFrom 0 (4 ∷ 3 ∷ 2 ∷ 1 ∷ []))
    -- a lazy repeat has the same ends
    ∷ (lazy (codes "abaa"), EndsFrom 0 (4 ∷ 3 ∷ 2 ∷ 1 ∷ 0 ∷ []))
    ∷ (with_empty_turns (codes "aa"), EndsFrom 0 (2 ∷ 1 ∷ 0 ∷ []))
    -- an atomic group keeps the longest end
    ∷ (atomic_three (codes "abc"), EndsFrom 0 (3 ∷ []))
    ∷ (failing (codes "ab"), EndsFrom 1 (2 ∷ []))
    ∷ []

-- Lookarounds, conditions, and characters of several bytes.

-- `(?(?=ab)a|b)`
abbrev pub conditional : List ℕ → Setting
conditional subject =
    search 0 (condition (assert true true true (text "ab" & none)) (text "a") (other (text "b"))
    & none) subject

-- `(?(DEFINE)a)b`
abbrev pub defining : List ℕ → Setting
defining subject =
    search 0 (seq (condition never (text "a") no_other & "b" ⨾ none) & none) subject

-- `(?!ab)a.?`
abbrev pub not_before : List ℕ → Setting
not_before subject =
    search 0 (seq (look true false true (text "ab" & none)
    & "a" ⨾ one_repeat NotNewline 0 (Some 1) false & none) & none) subject

-- `(?<=ab?|c)d`
abbrev pub after_some : List ℕ → Setting
after_some subject =
    search 0 (seq (look false true true (seq ("a" ⨾ one_repeat (Char 98 false) 0 (Some 1) false
    & none) & text "c" & none) & "d" ⨾ none) & none) subject

-- `(?<=\R)x`
abbrev pub after_newline : List ℕ → Setting
after_newline subject =
    search 0 (seq (look false true true (line_break & none) & "x" ⨾ none) & none) subject

-- `\x{e9}+` in UTF
abbrev pub accents : List ℕ → Setting
accents subject = utf (search 0 (one_repeat (Char 0xe9 false) 1 None false & none) subject)

abbrev pub inside : List (Setting × DfaAnswer)
inside =
    (conditional (codes "ab"), EndsFrom 0 (1 ∷ []))
    ∷ (conditional (codes "xba"), EndsFrom 1 (2 ∷ []))
    -- a definition matches nothing
    ∷ (defining (codes "b"), EndsFrom 0 (1 ∷ []))
    ∷ (not_before (codes "abac"), EndsFrom 2 (4 ∷ 3 ∷ []))
    ∷ (after_some (codes "abd"), EndsFrom 2 (3 ∷ []))
    ∷ (after_newline (97 ∷ 13 ∷ 10 ∷ 120 ∷ []), EndsFrom 3 (4 ∷ []))
    ∷ (accents (194 ∷ 169 ∷ 195 ∷ 169 ∷ 195 ∷ 169 ∷ []), EndsFrom 2 (6 ∷ 4 ∷ []))
    ∷ []

-- Ends that are not admitted.

-- `a*` on `aa`
abbrev pub letters : Setting
letters = search 0 (one_repeat (Char 97 false) 0 None false & none) (codes "aa")

abbrev pub refusing : List (Setting × DfaAnswer)
refusing =
    (with_options (λ o. record o { endanchored = true }) letters, EndsFrom 0 (2 ∷ []))
    ∷ (with_matching (λ m. record m { notempty = true }) letters, EndsFrom 0 (2 ∷ 1 ∷ []))
    ∷ (with_matching (λ m. record m { notempty_atstart = true }) (from 2 letters), NoMatch)
    ∷ []

-- Partial matching.

-- `dog(sbody)?`
abbrev pub dog : Setting
dog =
    search 1 (seq ("dog" ⨾ repeat (group (Some 1) (text "sbody" & none)) 0 (Some 1) false
    & none) & none) (codes "dog")

-- `abcd|c`
abbrev pub cut_short : List ℕ → Setting
cut_short subject = search 0 (text "abcd" & text "c" & none) subject

-- `(?:\b)*a`
abbrev pub at_boundaries : List ℕ → Setting
at_boundaries subject =
    search 0 (seq (repeat (group None (anchor (Word false) & none)) 0 None false
    & "a" ⨾ none) & none) subject

abbrev pub partials : List (Setting × DfaAnswer)
partials =
    (soft dog, EndsFrom 0 (3 ∷ []))
    ∷ (hard dog, PartialFrom 0)
    -- unlike in the ordered search, a partial match comes before a match from a later place
    ∷ (soft (cut_short (codes "abc")), PartialFrom 0)
    -- `\b` looks at the character before the start
    ∷ (soft (from 1 (at_boundaries (codes "b"))), PartialFrom 1)
    ∷ (soft (from 1 (search 0 (text "a" & none) (codes "b"))), NoMatch)
    ∷ []

pub record WorkedRows : Type 0 where
  pub ends_answered : Answered ends
  pub shortest_answered : dfa_answer three true ≡ EndsFrom 0 (1 ∷ [])
  pub inside_answered : Answered inside
  pub refusing_answered : Answered refusing
  pub partials_answered : Answered partials
