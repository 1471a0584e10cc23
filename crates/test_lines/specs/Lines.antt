-- Lines about patterns, searches and refused lines (pcre2test, "DEFAULT OUTPUT FROM pcre2test" and
-- "PATTERN MODIFIERS").
use Rattle.std.specs.Prelude.{ℕ, Bool, true, false, nat_lt, List, [], ◌++◌, codes, decimal, ℤ, Option, Some, None}
use Rattle.std.specs.Prelude.{Result, Ok, Err}
use Rattle.std.specs.Fmt.{signed_decimal}
use Rattle.tool_io.specs.Texts.{line, text_if}
use Rattle.test_modifiers.specs.declared.refusal.Refusal.{Refusal}
use Rattle.test_modifiers.specs.declared.refusal.Refusal.TheVariants.{BadLine, UnknownModifier, BadModifierValue}
use Rattle.test_modifiers.specs.declared.refusal.Refusal.TheVariants.{BadSubject}
use Rattle.pcre2_api.specs.declared.code.Info.{Info}
use Rattle.pcre2_errors.specs.declared.error.MatchError.{MatchError}
use Rattle.pcre2_errors.specs.declared.error.MatchError.TheVariants as told
use Rattle.pcre2_errors.specs.MatchErrors.{number_of, text_of}
use Rattle.pcre2_errors.specs.SubstErrors as subst
use Rattle.pcre2_errors.specs.declared.subst_error.SubstError.{SubstError}
use Rattle.pcre2_errors.specs.declared.subst_error.SubstError.TheVariants as refusal
use Rattle.pcre2_api.specs.declared.substitute.Substituted.{Substituted}
use Rattle.pcre2_errors.specs.FaultTexts.{fault_text}
use Rattle.test_lines.specs.Shown.{shown, number_before}
use Rattle.test_lines.specs.Marks.{Showing, name_of, missed_line, partial_line}

-- a pattern that is refused: the number of its fault and its place
abbrev pub fault_line : ℤ → ℕ → List ℕ
fault_line number at =
    line (codes "Failed: error " ++ signed_decimal number ++ codes " at offset " ++ decimal at
    ++ codes ": " ++ fault_text number)

-- a call that fails: its number, its text, and the place of a fault of UTF-8 where it is one
abbrev pub place_text : Option ℕ → List ℕ
place_text (Some at) = decimal at
place_text None = []

abbrev pub error_line : ℤ → List ℕ → Option ℕ → List ℕ
error_line number text at =
    line (codes "Failed: error " ++ signed_decimal number ++ codes ": " ++ text ++ place_text at)

-- the place of a fault of UTF-8 in the subject
abbrev pub fault_place : MatchError → Option ℕ
fault_place (told.BadUtf at) = Some at
fault_place _ = None

-- a search that fails
abbrev pub failed_line : MatchError → List ℕ
failed_line e = error_line (number_of e) (text_of e) (fault_place e)

abbrev pub groups_line : ℕ → List ℕ
groups_line groups = line (codes "Capture group count = " ++ decimal groups)

abbrev pub lookbehind_line : ℕ → List ℕ
lookbehind_line most = text_if (nat_lt 0 most) (line (codes "Max lookbehind = " ++ decimal most))

-- what is told of a pattern
abbrev pub info_text : Info → List ℕ
info_text info =
    groups_line info.groups ++ lookbehind_line info.max_lookbehind
    ++ text_if info.can_be_empty (line (codes "May match empty string"))

abbrev pub refusal_text : Refusal → List ℕ
refusal_text BadLine = codes "bad script line"
refusal_text (UnknownModifier name) = codes "unknown modifier " ++ name
refusal_text (BadModifierValue name) = codes "bad modifier value " ++ name
refusal_text BadSubject = codes "bad subject"

abbrev pub refusal_line : Refusal → List ℕ
refusal_line refusal = line (codes "** " ++ refusal_text refusal)

-- a search without a match but for a partial one, or one that fails
abbrev pub unmatched_line : Showing → List ℕ → MatchError → List ℕ
unmatched_line s subject (told.Partial from to mark) = partial_line s subject from to mark
unmatched_line s subject e = failed_line e

-- that there is no match is shown only where none was shown, with the last name that was met
abbrev pub nothing_text : Showing → Option ℕ → Bool → List ℕ
nothing_text s mark true = []
nothing_text s mark false = missed_line s (name_of s mark)

-- Substitutions, in UTF or outside it.

abbrev pub done_line : Bool → Substituted → List ℕ
done_line utf s = line (number_before s.count ++ shown utf s.text)

-- the place of a fault of UTF-8 in the subject or in the replacement
abbrev pub refusal_place : SubstError → Option ℕ
refusal_place (refusal.BadUtf at) = Some at
refusal_place (refusal.ReplacementUtf at) = Some at
refusal_place _ = None

abbrev pub unreplaced_line : SubstError → List ℕ
unreplaced_line e = error_line (subst.number_of e) (subst.text_of e) (refusal_place e)

-- the number of replacements and the text, or why there is none
abbrev pub replaced_text : Bool → Result Substituted SubstError → List ℕ
replaced_text utf (Ok s) = done_line utf s
replaced_text utf (Err e) = unreplaced_line e
