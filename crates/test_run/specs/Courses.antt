-- What each entry of a script comes to, after those before it: entries → the pattern in force →
-- lines.
use Rattle.std.specs.Prelude.{ℕ, if◌then◌else◌, List, [], Option, Some, None, Result, Ok, Err}
use Rattle.tool_io.specs.Texts.{text_if}
use Rattle.token_parts.specs.declared.fault.Fault.{Fault}
use Rattle.pat_tree.specs.Pattern.{Pattern}
use Rattle.pat_tree.specs.declared.names.NameEntry.{NameEntry}
use Rattle.pat_build.specs.Reading.{Parsed, read}
use Rattle.test_modifiers.specs.declared.refusal.Refusal.{Refusal}
use Rattle.test_modifiers.specs.declared.modifiers.Modifiers.{Modifiers}
use Rattle.pcre2_api.specs.declared.substitute.SubstOptions.{SubstOptions}
use Rattle.pcre2_api.specs.Substituted.{substituted}
use Rattle.test_script.specs.declared.entries.Entry.{Entry}
use Rattle.test_script.specs.declared.entries.Entry.TheVariants as entry
use Rattle.test_script.specs.declared.entries.PatternEntry.{PatternEntry}
use Rattle.test_script.specs.declared.entries.SubjectEntry.{SubjectEntry}
use Rattle.pcre2_api.specs.Patterns.{compiled}
use Rattle.pcre2_api.specs.Informs.{info_in}
use Rattle.test_run.specs.Asked.{is_on, is_dfa, options_of, how_of, subst_of, replacement_of}
use Rattle.test_run.specs.declared.options.How.{How}
use Rattle.test_run.specs.Matches.{searched}
use Rattle.test_lines.specs.Lines.{fault_line, info_text, refusal_line, replaced_text}
use Rattle.test_run.specs.Dfa.{dfa_text, replace_with_dfa_line}

-- what subject lines are searched for
pub data Course : Type 0 where
  -- no pattern stands before
  between : Course
  -- a pattern, as it is written and as it is read, with the names of its groups and its modifiers
  tests : List ℕ → Pattern → List NameEntry → Modifiers → Course
  -- nothing: the pattern before was refused, so its subject lines are passed over
  passed : Course

-- Patterns.

abbrev pub names_of : Result Parsed Fault → List NameEntry
names_of (Ok parsed) = parsed.names
names_of (Err fault) = []

abbrev pub course_by : List ℕ → Modifiers → List NameEntry → Result Pattern Fault → Course
course_by text m names (Ok p) = tests text p names m
course_by text m names (Err fault) = passed

abbrev pub told_of : Modifiers → Result Pattern Fault → List ℕ
told_of m (Ok p) = text_if (is_on m.info) (info_text (info_in p))
told_of m (Err fault) = fault_line fault.number fault.at

abbrev pub pattern_course : PatternEntry → Course
pattern_course p =
    course_by p.pattern p.modifiers (names_of (read (options_of p.modifiers) p.pattern))
    (compiled (options_of p.modifiers) p.pattern)

abbrev pub pattern_text : PatternEntry → List ℕ
pattern_text p = told_of p.modifiers (compiled (options_of p.modifiers) p.pattern)

-- Subjects.

abbrev pub rewritten : Pattern → List NameEntry → List ℕ → How → SubstOptions → List ℕ → List ℕ
rewritten p names subject how subst replacement =
    replaced_text p.options.utf
    (substituted p names how.matching subst subject how.start replacement)

-- all ends; with them nothing is replaced
abbrev pub found_by_dfa : Pattern → List ℕ → How → Option (List ℕ) → List ℕ
found_by_dfa p subject how (Some replacement) = replace_with_dfa_line
found_by_dfa p subject how None = dfa_text p how.matching subject how.global how.start

-- where a replacement is given the matches are replaced, else they are shown
abbrev pub tested_text : List ℕ → Pattern → List NameEntry → Modifiers → SubjectEntry → List ℕ
tested_text pattern p names m s =
    if is_dfa s.modifiers m
    then found_by_dfa p s.subject (how_of s.modifiers m) (replacement_of s.modifiers m)
    else elim (replacement_of s.modifiers m) [
      | Some text ↦ rewritten p names s.subject (how_of s.modifiers m) (subst_of s.modifiers m) text
      | None ↦ searched pattern p (how_of s.modifiers m) s.subject
    ]

abbrev pub subject_text : Course → SubjectEntry → List ℕ
subject_text (tests pattern p names m) s = tested_text pattern p names m s
subject_text _ s = []

-- Entries.

abbrev pub refused_text : Course → Refusal → List ℕ
refused_text passed refusal = []
refused_text _ refusal = refusal_line refusal

-- the result lines of an entry
abbrev pub entry_text : Course → Entry → List ℕ
entry_text course (entry.Pattern p) = pattern_text p
entry_text course (entry.Subject s) = subject_text course s
entry_text course (entry.Refused refusal) = refused_text course refusal
entry_text course _ = []

abbrev pub course_after : Course → Entry → Course
course_after course (entry.Pattern p) = pattern_course p
course_after course entry.EndOfSubjects = between
course_after course _ = course
