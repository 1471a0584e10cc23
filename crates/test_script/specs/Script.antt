-- Scripts of pcre2test: what each line is, after the lines before it (pcre2test, "INPUT DATA FORMAT", "COMMAND LINES",
-- "PATTERN SYNTAX" and "SUBJECT LINE SYNTAX").
use Rattle.std.specs.Prelude.{ℕ, ◌+◌, ◌==◌, ◌&&◌, ◌||◌, Bool, true, false, List, [], ◌∷◌, ◌++◌, length, take, drop}
use Rattle.std.specs.Prelude.{fold, Option, Some, None, Ok, Err, nat_eq, codes, unwrap_or, if◌then◌else◌}
use Rattle.std.specs.List.{starts_with}
use Rattle.std.specs.Option.{option_map}
use Rattle.token_parts.specs.Bytes.{◌∈◌}
use Rattle.test_modifiers.specs.declared.modifiers.Modifiers.{Modifiers}
use Rattle.test_modifiers.specs.declared.refusal.Refusal.TheVariants.{BadLine, BadSubject}
use Rattle.test_script.specs.declared.entries.Entry.{Entry}
use Rattle.test_script.specs.declared.entries.Entry.TheVariants as entry
use Rattle.test_script.specs.declared.entries.Command.{Command}
use Rattle.test_script.specs.declared.entries.Command.TheVariants.{PatternDefaults, SubjectDefaults}
use Rattle.test_modifiers.specs.Modifiers.{ungiven, over}
use Rattle.test_modifiers.specs.Lists.{list_of}
use Rattle.test_modifiers.specs.Refusals.{Reads}
use Rattle.test_modifiers.specs.Texts.{is_white, without_begin, without_end, begins_white}
use Rattle.test_script.specs.Subjects.{subject_text}

-- what the next line can be
pub data Awaits : Type 0 where
  -- a pattern, a command or a note
  anything : Awaits
  -- more of a pattern with this delimiter; its text so far, each line of it with a line feed
  closing : ℕ → List ℕ → Awaits
  -- a subject line of a pattern, with or without UTF
  subject : Bool → Awaits
  -- a subject line of a refused pattern
  skipped : Awaits

-- how far a script has come: the defaults of its commands, and what the next line can be
pub record Script : Type 0 where
  pub defaults : Modifiers
  pub awaits : Awaits

abbrev pub awaiting : Awaits → Script → Script
awaiting awaits script = record script { awaits = awaits }

abbrev pub is_delimiter : ℕ → Bool
is_delimiter c = c ∈ "/!'`-=_:;,%&@~" || c == 34

-- The place of the character that closes a pattern: the first that no backslash stands before. Backslashes count in
-- pairs.
abbrev pub closing_place : ℕ → List ℕ → Option ℕ
closing_place d [] = None
closing_place d (c ∷ []) = if c == d then Some 0 else None
closing_place d (c ∷ e ∷ rest) =
    if c == d then Some 0
    else if c == 92 then option_map (λ n. n + 2) (closing_place d rest)
    else option_map (λ n. n + 1) (closing_place d (e ∷ rest))

-- a backslash just after the closing character belongs to the pattern's end
abbrev pub last_backslash : List ℕ → List ℕ
last_backslash [] = []
last_backslash (c ∷ rest) = if c == 92 then 92 ∷ [] else []

abbrev pub after_backslash : List ℕ → List ℕ
after_backslash [] = []
after_backslash (c ∷ rest) = if c == 92 then rest else c ∷ rest

-- a pattern with the modifiers of its list over the defaults; where the list is refused, the pattern's subject lines
-- are passed over
abbrev pub pattern_with : Script → List ℕ → Reads Modifiers → Entry × Script
pattern_with script text (Err refusal) = (entry.Refused refusal, awaiting skipped script)
pattern_with script text (Ok own) =
    let modifiers = over own script.defaults in (
      entry.Pattern (record { pattern = text; modifiers = modifiers }),
      awaiting (subject (unwrap_or modifiers.utf false)) script,
    )

-- a line of a pattern after its text so far: the pattern is closed there or goes on
abbrev pub pattern_closed : Script → ℕ → List ℕ → List ℕ → Option ℕ → Entry × Script
pattern_closed script d text line None = (entry.More, awaiting (closing d (text ++ line ++ 10 ∷ [])) script)
pattern_closed script d text line (Some n) =
    let rest = drop (n + 1) line in
    pattern_with script (text ++ take n line ++ last_backslash rest) (list_of true (after_backslash rest))

abbrev pub pattern_line : Script → ℕ → List ℕ → List ℕ → Entry × Script
pattern_line script d text line = pattern_closed script d text line (closing_place d line)

-- a command's list, after its word and white space or the end
abbrev pub is_command : List ℕ → List ℕ → Bool
is_command word text = starts_with nat_eq text word && begins_white (drop (length word) text)

abbrev pub command_of : Bool → Modifiers → Command
command_of true list = PatternDefaults list
command_of false list = SubjectDefaults list

-- a command's list is merged over the defaults
abbrev pub defaults_with : Script → Bool → Reads Modifiers → Entry × Script
defaults_with script pattern (Err refusal) = (entry.Refused refusal, script)
defaults_with script pattern (Ok list) = (
  entry.Command (command_of pattern list),
  record script { defaults = over list script.defaults },
)

abbrev pub defaults_line : Script → Bool → List ℕ → Entry × Script
defaults_line script pattern list = defaults_with script pattern (list_of pattern list)

-- the text after `#`: white space, `!` or the end makes a note of it
abbrev pub is_note : List ℕ → Bool
is_note [] = true
is_note (c ∷ rest) = is_white c || c ∈ "!"

abbrev pub command_line : Script → List ℕ → Entry × Script
command_line script text =
    if is_note text then (entry.Note, script)
    else if is_command (codes "pattern") text then defaults_line script true (drop 7 text)
    else if is_command (codes "subject") text then defaults_line script false (drop 7 text)
    else (entry.Refused BadLine, script)

-- a line outside of an entry, by its first character
abbrev pub begun_line : Script → ℕ → List ℕ → Entry × Script
begun_line script c rest =
    if c ∈ "#" then command_line script rest
    else if is_delimiter c then pattern_line script c [] rest
    else (entry.Refused BadLine, script)

-- a text without white space at its begin and its end
abbrev pub trimmed : List ℕ → List ℕ
trimmed text = without_begin is_white (without_end is_white text)

abbrev pub is_nothing : List ℕ → Bool
is_nothing text = length text == 0

abbrev pub is_blank_line : List ℕ → Bool
is_blank_line line = is_nothing (trimmed line)

abbrev pub first_line : Script → List ℕ → Entry × Script
first_line script [] = (entry.Note, script)
first_line script (c ∷ rest) = if is_blank_line (c ∷ rest) then (entry.Note, script) else begun_line script c rest

-- `\=` and white space alone
abbrev pub is_subject_note : List ℕ → Bool
is_subject_note text = starts_with nat_eq text (codes "\\=") && begins_white (drop 2 text)

-- a subject line with its own modifiers
abbrev pub subject_with : List ℕ → Reads Modifiers → Entry
subject_with text (Err refusal) = entry.Refused refusal
subject_with text (Ok own) = entry.Subject (record { subject = text; modifiers = own })

abbrev pub subject_list : List ℕ → Option ℕ → Reads Modifiers
subject_list line None = Ok ungiven
subject_list line (Some n) = list_of false (drop n line)

abbrev pub subject_read : List ℕ → Option (List ℕ × Option ℕ) → Entry
subject_read line None = entry.Refused BadSubject
subject_read line (Some found) = subject_with found.0 (subject_list line found.1)

abbrev pub subject_entry : Bool → List ℕ → Entry
subject_entry utf line = if is_subject_note line then entry.Note else subject_read line (subject_text utf line)

-- a blank line ends the subject lines
abbrev pub subject_line : Script → Bool → List ℕ → Entry × Script
subject_line script utf line = if is_nothing line then (entry.EndOfSubjects, awaiting anything script) else
    (subject_entry utf line, script)

abbrev pub skipped_line : Script → List ℕ → Entry × Script
skipped_line script line = if is_blank_line line then (entry.EndOfSubjects, awaiting anything script) else
    (entry.Note, script)

abbrev pub line_in : Script → Awaits → List ℕ → Entry × Script
line_in script anything line = first_line script line
line_in script (closing d text) line = pattern_line script d text line
line_in script (subject utf) line = subject_line script utf (trimmed line)
line_in script skipped line = skipped_line script line

-- a line of a script: its entry, and how far the script has come after it
unfoldable pub line_of : Script → List ℕ → Entry × Script
line_of script line = line_in script script.awaits line

-- a script that begins with these defaults
abbrev pub beginning : Modifiers → Script
beginning defaults = record { defaults = defaults; awaits = anything }

-- how far a script has come after these lines
abbrev pub script_after : Script → List (List ℕ) → Script
script_after script lines = fold (λ before line. (line_of before line).1) script lines

-- the entries of these lines in order, each after the lines before it
abbrev pub entries_of : Script → List (List ℕ) → List Entry
entries_of script [] = []
entries_of script (line ∷ lines) = (line_of script line).0 ∷ entries_of (line_of script line).1 lines
