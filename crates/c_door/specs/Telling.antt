-- What C is told (pcre2api, "Error return values from pcre2_match()", "Information about a compiled pattern").
use Rattle.std.specs.Prelude.{Bool, ◌≡◌, ◌⊎◌, ◌<◌, ◌≤◌, ℕ, ℤ, pos, negsuc, List, length, slice_index_or, slice_get}
use Rattle.std.specs.Prelude.{is_some, Option, Some, None, Result, Ok, Err}
use Rattle.pat_tree.specs.declared.options.Newline.{Newline}
use Rattle.pat_tree.specs.declared.options.Newline.TheVariants as newline
use Rattle.pat_tree.specs.declared.options.Bsr.{Bsr}
use Rattle.pat_tree.specs.declared.options.Bsr.TheVariants as bsr
use Rattle.pat_tree.specs.declared.options.Options.{Options}
use Rattle.pat_tree.specs.declared.names.NameEntry.{NameEntry}
use Rattle.frame_store.specs.declared.registers.Span.{Span}
use Rattle.ordered_search.specs.Setting.{Setting}
use Rattle.ordered_search.specs.PlaceAnswer.{Outcome}
use Rattle.pcre2_errors.specs.declared.error.MatchError.{MatchError}
use Rattle.pcre2_errors.specs.declared.error.MatchError.TheVariants as told
use Rattle.pcre2_errors.specs.declared.error.CompileError.TheVariants.{Bad}
use Rattle.pcre2_errors.specs.declared.dfa_error.DfaError.{DfaError}
use Rattle.pcre2_errors.specs.declared.dfa_error.DfaError.TheVariants as ending
use Rattle.pcre2_errors.specs.declared.subst_error.SubstError.{SubstError}
use Rattle.pcre2_errors.specs.DfaErrors as dfa_errors
use Rattle.pcre2_errors.specs.SubstErrors as subst_errors
use Rattle.pcre2_api.specs.declared.code.Info.{Info}
use Rattle.pcre2_api.specs.declared.dfa.DfaFound.{DfaFound}
use Rattle.pcre2_api.specs.declared.substitute.Substituted.{Substituted}
use Rattle.pcre2_api.specs.Patterns.{compiled}
use Rattle.pcre2_api.specs.Compiled.{CodeParts, Compiles, IsCompileError, info_of}
use Rattle.pcre2_api.specs.Matched.{MatchParts, IsFound, IsMatchError}
use Rattle.pcre2_api.specs.Captured.{span_of, top_of, mark_of}
use Rattle.pcre2_api.specs.DfaMatched.{IsDfaFound, IsDfaError}
use Rattle.pcre2_api.specs.Substituted.{Refuses}
use Rattle.pat_tree.specs.Pattern.{pattern_of}
use Rattle.c_door.specs.Around.{compiled_around}
use Rattle.c_door.specs.Limits.{limited, limited_ends}
use Rattle.c_door.specs.Held.{EngineValue}
use Rattle.pcre2_api.specs.Leads.{IsFirstByte}
use Rattle.c_door.specs.declared.told.Fault.{Fault}
use Rattle.c_door.specs.declared.told.Answer.{Answer}
use Rattle.c_door.specs.declared.told.Hit.{Hit}
use Rattle.c_door.specs.declared.told.Pair.{Pair}
use Rattle.c_door.specs.declared.told.Named.{Named}
use Rattle.c_door.specs.declared.told.EndsAnswer.{EndsAnswer}
use Rattle.c_door.specs.declared.told.SubstAnswer.{SubstAnswer}
use Rattle.c_door.specs.declared.told.Told.{Told}

abbrev pub IsHeld : Option EngineValue → (EngineValue → Type 0) → Type 0
IsHeld None p = ⊥
IsHeld (Some e) p = p e

-- Texts

-- a number that may be there, or else 0
abbrev pub or_zero : Option ℕ → ℕ
or_zero (Some n) = n
or_zero None = 0

-- as much of a text as there is room for stands at the room's front
abbrev pub IsPut : List ℕ → List ℕ → Type 0
IsPut text room = (j : ℕ) → j < length text → j < length room → slice_index_or room j 0 ≡ slice_index_or text j 0

-- a text is told by its length, 0 where there is none, and put into the room
abbrev pub IsText : Option (List ℕ) → ℕ → List ℕ → Type 0
IsText (Some text) len room = (len ≡ length text) × IsPut text room
IsText None len room = len ≡ 0

-- so is an entry of the name table, with its group
abbrev pub IsEntry : NameEntry → Named → List ℕ → Type 0
IsEntry e named room = (named.group ≡ e.group) × (named.len ≡ length e.name) × IsPut e.name room

-- the entry at a place, or zeroes behind the last
abbrev pub IsName : List NameEntry → ℕ → Named → List ℕ → Type 0
IsName names i named room =
    (i < length names → (other : NameEntry) → IsEntry (slice_index_or names i other) named room)
    × (length names ≤ i → (named.group ≡ 0) × (named.len ≡ 0))

-- a mark is told by its length, and put into the room
abbrev pub IsMark : Option (List ℕ) → Option ℕ → List ℕ → Type 0
IsMark (Some text) len room = (len ≡ Some (length text)) × IsPut text room
IsMark None len room = len ≡ None

-- Patterns

-- 0 and an engine of the pattern, 1 and its first fault, or 2 for want of memory
abbrev pub IsCompiled : Options → List ℕ → ℤ → Option EngineValue → Fault → Type 0
IsCompiled options text code held fault =
    ((code ≡ pos 0) × IsHeld held (λ e. Compiles options text e.code.value))
    ⊎ ((code ≡ pos 1) × (held ≡ None) × IsCompileError (compiled options text) (Bad fault.number fault.at))
    ⊎ ((code ≡ pos 2) × (held ≡ None))

-- the same of a pattern of which a match is whole lines or words
abbrev pub IsCompiledAround : Options → Bool → List ℕ → ℤ → Option EngineValue → Fault → Type 0
IsCompiledAround options line text code held fault =
    ((code ≡ pos 0) × IsHeld held (λ e. compiled_around options line text ≡ Ok (pattern_of e.code.value.tree)))
    ⊎ ((code ≡ pos 1) × (held ≡ None)
    × IsCompileError (compiled_around options line text) (Bad fault.number fault.at))
    ⊎ ((code ≡ pos 2) × (held ≡ None))

-- 0 and another engine of the same code, or 2 for want of memory
abbrev pub IsShared : ℤ → Option EngineValue → Option EngineValue → Type 0
IsShared code held other =
    ((code ≡ pos 0) × IsHeld held (λ e. IsHeld other (λ o. o.code.value ≡ e.code.value)))
    ⊎ ((code ≡ pos 2) × (other ≡ None))

abbrev pub newline_number : Newline → ℕ
newline_number newline.Cr = 1
newline_number newline.Lf = 2
newline_number newline.CrLf = 3
newline_number newline.Any = 4
newline_number newline.AnyCrLf = 5
newline_number newline.Nul = 6

abbrev pub bsr_number : Bsr → ℕ
bsr_number bsr.Unicode = 1
bsr_number bsr.AnyCrLf = 2

abbrev pub told_by : Info → Options → List NameEntry → Told
told_by i o names = record {
  groups = i.groups;
  max_lookbehind = i.max_lookbehind;
  match_limit = or_zero o.match_limit;
  limits = is_some o.match_limit;
  can_be_empty = i.can_be_empty;
  utf = o.utf;
  ucp = o.ucp;
  anchored = o.anchored;
  no_start_optimize = o.no_start_optimize;
  newline = newline_number o.newline;
  bsr = bsr_number o.bsr;
  names = length names;
}

abbrev pub told_of : CodeParts → Told
told_of code = told_by (info_of code) code.tree.options code.tree.names

abbrev pub byte_told : Option ℕ → ℤ
byte_told (Some byte) = pos byte
byte_told None = negsuc 0

-- the byte is told that every match begins with, or that there is none
abbrev pub IsFirst : CodeParts → ℤ → Type 0
IsFirst code (pos byte) = IsFirstByte code byte
IsFirst code (negsuc n) = (b : ℕ) → b < 256 → ¬ IsFirstByte code b

-- Matches

-- PCRE2's number of a refusal; `negsuc n` is -(n + 1)
abbrev pub error_code : MatchError → ℤ
error_code (told.NoMatch mark) = negsuc 0
error_code (told.Partial start end mark) = negsuc 1
error_code (told.BadUtf at) = negsuc 2
error_code told.BadOffset = negsuc 32
error_code told.BadUtfOffset = negsuc 35
error_code told.MatchLimit = negsuc 46
error_code told.Memory = negsuc 47
error_code told.RecurseLoop = negsuc 51
error_code told.FrameLimit = negsuc 62
error_code (told.Callout n) = n

-- the number of the mark that a refusal tells
abbrev pub mark_told : MatchError → Option ℕ
mark_told (told.NoMatch mark) = mark
mark_told (told.Partial start end mark) = mark
mark_told _ = None

abbrev pub place_told : MatchError → ℕ
place_told (told.BadUtf at) = at
place_told (told.Partial start end mark) = start
place_told _ = 0

abbrev pub answer_of : Result Hit MatchError → Answer
answer_of (Ok hit) = record {
  code = pos 0;
  top = hit.top;
  marked = is_some hit.mark;
  mark = or_zero hit.mark;
  at = 0;
}
answer_of (Err e) = record {
  code = error_code e;
  top = 0;
  marked = is_some (mark_told e);
  mark = or_zero (mark_told e);
  at = place_told e;
}

abbrev pub pair_of : Option Span → Pair
pair_of (Some span) = record { from = span.from; to = span.to }
pair_of None = record { from = 18446744073709551615; to = 18446744073709551615 }

-- each pair is the place of the group of its number
abbrev pub ArePlaces : Outcome → List Pair → Type 0
ArePlaces o places = (j : ℕ) → j < length places → slice_index_or places j (pair_of None) ≡ pair_of (span_of o j)

-- the search answers a match of the code, whose groups and mark these are
abbrev pub IsTold : CodeParts → Setting → Hit → List Pair → List ℕ → Type 0
IsTold code g hit places mark =
    (f : MatchParts) × IsFound g f × (f.code ≡ code) × (hit.top ≡ top_of f.outcome) × ArePlaces f.outcome places
    × IsMark (mark_of f) hit.mark mark

abbrev pub IsFoundOrNot : CodeParts → Setting → List Pair → List ℕ → Result Hit MatchError → Type 0
IsFoundOrNot code g places mark (Ok hit) = IsTold code g hit places mark
IsFoundOrNot code g places mark (Err e) = IsMatchError g e

-- this answer, where no match may begin behind the limit
abbrev pub IsAnswer : CodeParts → Setting → ℕ → Answer → List Pair → List ℕ → Type 0
IsAnswer code g limit answer places mark =
    (r : Result Hit MatchError) × IsFoundOrNot code g places mark r × (answer ≡ answer_of (limited limit 0 places r))

-- Matches by all ends

abbrev pub ends_place : DfaError → ℕ
ends_place (ending.BadUtf at) = at
ends_place (ending.Partial start end) = start
ends_place _ = 0

abbrev pub ends_answer : Result DfaFound DfaError → EndsAnswer
ends_answer (Ok f) = record { code = pos 0; at = f.start; count = length f.ends }
ends_answer (Err e) = record { code = dfa_errors.number_of e; at = ends_place e; count = 0 }

-- the end at a place of the list, 0 behind it
abbrev pub end_at : List ℕ → ℕ → ℕ
end_at ends j = elim (slice_get ends j) [ Some n ↦ n | None ↦ 0 ]

abbrev pub AreEnds : Result DfaFound DfaError → List ℕ → Type 0
AreEnds (Ok f) ends = (j : ℕ) → j < length ends → slice_index_or ends j 0 ≡ end_at f.ends j
AreEnds (Err e) ends = Unit {0}

abbrev pub IsEndsOrNot : Setting → Result DfaFound DfaError → Type 0
IsEndsOrNot g (Ok f) = IsDfaFound g f
IsEndsOrNot g (Err e) = IsDfaError g e

-- the search answers these ends, or this refusal, where no match may begin behind the limit
abbrev pub IsEnds : Setting → ℕ → EndsAnswer → List ℕ → Type 0
IsEnds g limit answer ends =
    (r : Result DfaFound DfaError) × IsEndsOrNot g r × (answer ≡ ends_answer (limited_ends limit r)) × AreEnds r ends

-- Substitutions

abbrev pub subst_answer : Result Substituted SubstError → SubstAnswer
subst_answer (Ok s) = record { code = pos 0; count = s.count; len = length s.text }
subst_answer (Err e) = record { code = subst_errors.number_of e; count = 0; len = 0 }

abbrev pub IsWritten : Result Substituted SubstError → Result Substituted SubstError → List ℕ → Type 0
IsWritten given (Ok s) out = (given ≡ Ok s) × IsPut s.text out
IsWritten given (Err e) out = Refuses given e

-- the text of the substitution, or its refusal
abbrev pub IsReplaced : Result Substituted SubstError → SubstAnswer → List ℕ → Type 0
IsReplaced given answer out = (r : Result Substituted SubstError) × IsWritten given r out × (answer ≡ subst_answer r)
