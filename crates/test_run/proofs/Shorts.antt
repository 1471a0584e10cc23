-- A subject of a script line isn't too long.
use Rattle.std.proofs.Common.{◌≡◌, ℕ, ◌≤◌, ◌+◌, Bool, true, false, List, [], ◌∷◌, ◌++◌, length, take, drop, codes}
use Rattle.std.proofs.Common.{Option, Some, None, Ok, Err, refl, subst, if◌then◌else◌}
use Rattle.std.specs.Prelude.{nat_le}
use Rattle.std.proofs.lemmas.Bool.{cond_both, leb-true}
use Rattle.token_parts.specs.Bytes.{◌∈◌}
use Rattle.test_modifiers.specs.declared.modifiers.Modifiers.{Modifiers}
use Rattle.test_modifiers.specs.declared.refusal.Refusal.TheVariants.{BadLine}
use Rattle.test_modifiers.specs.Lists.{list_of}
use Rattle.test_modifiers.specs.Refusals.{Reads}
use Rattle.test_script.specs.declared.entries.Entry.{Entry}
use Rattle.test_script.specs.declared.entries.Entry.TheVariants as entry
use Rattle.test_script.specs.Script.{Script, Awaits, anything, closing, subject, skipped, last_backslash}
use Rattle.test_script.specs.Script.{after_backslash, closing_place, awaiting, pattern_with, pattern_closed}
use Rattle.test_script.specs.Script.{pattern_line, defaults_with, defaults_line, is_note, is_command, command_line}
use Rattle.test_script.specs.Script.{is_delimiter, begun_line, is_blank_line, first_line, is_subject_note}
use Rattle.test_script.specs.Script.{subject_with, subject_list, subject_read, subject_entry, is_nothing, trimmed}
use Rattle.test_script.specs.Script.{line_in, line_of}
use Rattle.test_script.specs.Subjects.{subject_text, greatest_subject, unless_too_long, written}
use Rattle.test_run.specs.Runs.{IsShort}

pattern-short : (script : Script) (text : List ℕ) (list : Reads Modifiers) → IsShort (pattern_with script text list).0
pattern-short script text (Ok own) = tt
pattern-short script text (Err refusal) = tt

closed-short : (script : Script) (d : ℕ) (text line : List ℕ) (at : Option ℕ)
    → IsShort (pattern_closed script d text line at).0
closed-short script d text line None = tt
closed-short script d text line (Some n) =
    let rest = drop (n + 1) line in
    pattern-short script (text ++ take n line ++ last_backslash rest) (list_of true (after_backslash rest))

defaults-short : (script : Script) (pattern : Bool) (list : Reads Modifiers)
    → IsShort (defaults_with script pattern list).0
defaults-short script pattern (Ok list) = tt
defaults-short script pattern (Err refusal) = tt

abbrev Short : Entry × Script → Type 0
Short found = IsShort found.0

abbrev subject_part : Script → List ℕ → Entry × Script
subject_part script text = if is_command (codes "subject") text then defaults_line script false (drop 7 text) else
    (entry.Refused BadLine, script)

abbrev command_part : Script → List ℕ → Entry × Script
command_part script text = if is_command (codes "pattern") text then defaults_line script true (drop 7 text) else
    subject_part script text

command-short : (script : Script) (text : List ℕ) → Short (command_line script text)
command-short script text =
    cond_both (is_note text) (entry.Note, script) (command_part script text) Short (λ _. tt) (λ _.
    cond_both (is_command (codes "pattern") text) (defaults_line script true (drop 7 text)) (subject_part script text)
    Short (λ _. defaults-short script true (list_of true (drop 7 text))) (λ _.
    cond_both (is_command (codes "subject") text) (defaults_line script false (drop 7 text))
    (entry.Refused BadLine, script) Short (λ _. defaults-short script false (list_of false (drop 7 text)))
    (λ _. tt)))

abbrev delimited_part : Script → ℕ → List ℕ → Entry × Script
delimited_part script c rest = if is_delimiter c then pattern_line script c [] rest else (entry.Refused BadLine, script)

begun-short : (script : Script) (c : ℕ) (rest : List ℕ) → Short (begun_line script c rest)
begun-short script c rest =
    cond_both (c ∈ "#") (command_line script rest) (delimited_part script c rest) Short
    (λ _. command-short script rest) (λ _.
    cond_both (is_delimiter c) (pattern_line script c [] rest) (entry.Refused BadLine, script) Short
    (λ _. closed-short script c [] rest (closing_place c rest)) (λ _. tt))

first-short : (script : Script) (line : List ℕ) → Short (first_line script line)
first-short script [] = tt
first-short script (c ∷ rest) =
    cond_both (is_blank_line (c ∷ rest)) (entry.Note, script) (begun_line script c rest) Short (λ _. tt)
    (λ _. begun-short script c rest)

found-short : (found : List ℕ × Option ℕ) (all : Option (List ℕ × Option ℕ)) → unless_too_long all ≡ Some found
    → length found.0 ≤ greatest_subject
found-short found None is = absurd cc
found-short found (Some other) is =
    cond_both (nat_le (length other.0) greatest_subject) (Some other) None
    (λ o. o ≡ Some found → length found.0 ≤ greatest_subject)
    (λ few same. let e : other ≡ found = cc in subst (λ (f : List ℕ × Option ℕ). length f.0 ≤ greatest_subject) e
    (leb-true (length other.0) greatest_subject few))
    (λ _ no. absurd cc)
    is

list-short : (text : List ℕ) (list : Reads Modifiers) → length text ≤ greatest_subject
    → IsShort (subject_with text list)
list-short text (Ok own) few = few
list-short text (Err refusal) few = tt

read-short : (line : List ℕ) (found : Option (List ℕ × Option ℕ))
    → ((f : List ℕ × Option ℕ) → found ≡ Some f → length f.0 ≤ greatest_subject) → IsShort (subject_read line found)
read-short line None few = tt
read-short line (Some f) few = list-short f.0 (subject_list line f.1) (few f refl)

text-short : (utf : Bool) (line : List ℕ) (f : List ℕ × Option ℕ) → subject_text utf line ≡ Some f
    → length f.0 ≤ greatest_subject
unfolding subject_text
text-short utf line f is = found-short f (written utf line (length line + 1) 0) is

entry-short : (utf : Bool) (line : List ℕ) → IsShort (subject_entry utf line)
entry-short utf line =
    cond_both (is_subject_note line) entry.Note (subject_read line (subject_text utf line)) IsShort (λ _. tt)
    (λ _. read-short line (subject_text utf line) (text-short utf line))

in-short : (script : Script) (awaits : Awaits) (line : List ℕ) → Short (line_in script awaits line)
in-short script anything line = first-short script line
in-short script (closing d text) line = closed-short script d text line (closing_place d line)
in-short script (subject utf) line =
    cond_both (is_nothing (trimmed line)) (entry.EndOfSubjects, awaiting anything script)
    (subject_entry utf (trimmed line), script) Short (λ _. tt) (λ _. entry-short utf (trimmed line))
in-short script skipped line = cond_both (is_blank_line line) (entry.EndOfSubjects, awaiting anything script)
    (entry.Note, script) Short (λ _. tt) (λ _. tt)

pub line-short : (script : Script) (line : List ℕ) → IsShort (line_of script line).0
unfolding line_of
line-short script line = in-short script script.awaits line
