-- Searches in a subject that may hold bad UTF-8 (pcre2unicode, "Matching in invalid UTF strings").
use Rattle.std.specs.Prelude.{◌≡◌, ◌+◌, ◌-◌, ◌<◌, ◌≤◌, ◌&&◌, ◌||◌, ◌==◌, nat_lt, nat_le, max, if◌then◌else◌}
use Rattle.std.specs.Prelude.{ℕ, suc, pos, Bool, true, false, List, length, drop, slice_index, slice_range}
use Rattle.std.specs.Prelude.{Option, Some, None, Result, Ok, Err}
use Rattle.std.specs.Str.Lossy.{utf8_valid_len}
use Rattle.pat_tree.specs.declared.options.MatchOptions.{MatchOptions}
use Rattle.pat_tree.specs.declared.options.PartialMode.TheVariants.{Off}
use Rattle.ordered_search.specs.Setting.{Setting}
use Rattle.pcre2_errors.specs.declared.error.MatchError.{MatchError}
use Rattle.pcre2_errors.specs.declared.error.MatchError.TheVariants.{NoMatch}
use Rattle.pcre2_api.specs.Compiled.{CodeParts}
use Rattle.pcre2_api.specs.Matched.{search_of}
use Rattle.c_door.specs.declared.told.Answer.{Answer}
use Rattle.c_door.specs.declared.told.Hit.{Hit}
use Rattle.c_door.specs.declared.told.Pair.{Pair}
use Rattle.c_door.specs.declared.runs.Run.{Run}
use Rattle.c_door.specs.Limits.{limited}
use Rattle.c_door.specs.Telling.{IsFoundOrNot, answer_of}

-- A run begins where the text does, or behind the byte where another one ends, and goes as far as the text is UTF-8.
abbrev pub run_from : List ℕ → ℕ → Run
run_from text from = record { from = from; to = from + utf8_valid_len (drop from text) }

-- a character goes on with this byte
abbrev pub goes_on : ℕ → Bool
goes_on byte = nat_le 128 byte && nat_lt byte 192

-- A search begins at its start or, where no character begins there, at the next byte with which none goes on.
pub record IsBegin (text : List ℕ) (start begin : ℕ) : Type 0 where
  pub past : start ≤ begin
  pub within : begin ≤ length text
  pub inside : (k : ℕ) → start ≤ k → k < begin → goes_on (slice_index text k) ≡ true
  pub place : goes_on (slice_index text begin) ≡ false

-- In a run behind a bad byte no line begins, and before one none ends and no match is partial. Only a search from the
-- start itself is one at the start.
abbrev pub options_in : MatchOptions → List ℕ → ℕ → Run → ℕ → MatchOptions
options_in o text start run at = record o {
  notbol = o.notbol || nat_lt 0 run.from;
  noteol = o.noteol || nat_lt run.to (length text);
  notempty_atstart = o.notempty_atstart && (at == start);
  «partial» = if nat_lt run.to (length text) then Off else o.«partial»;
}

-- A run is searched as a subject of its own, from a place on.
abbrev pub search_in : CodeParts → MatchOptions → List ℕ → ℕ → Run → ℕ → Setting
search_in code o text start run at =
    search_of code (options_in o text start run at) (slice_range text run.from run.to) (at - run.from) (λ _. pos 0)

-- A run before the place where the search begins isn't searched, nor is an empty one behind it.
abbrev pub is_passed : ℕ → Run → Bool
is_passed begin run = nat_lt run.to begin || (nat_lt begin run.from && (run.to == run.from))

unfoldable pub IsToldIn : CodeParts → MatchOptions → List ℕ → ℕ → ℕ → List Pair → List ℕ → Run → Result Hit MatchError
    → Type 0
IsToldIn code o text start begin places mark run r =
    (is_passed begin run ≡ true → r ≡ Err (NoMatch None))
    × (is_passed begin run ≡ false
    → IsFoundOrNot code (search_in code o text start run (max begin run.from)) places mark r)

-- where there is no match, the last name that was met, if there was one
abbrev pub missed : Result Hit MatchError → Option (Option ℕ)
missed (Err (NoMatch mark)) = Some mark
missed _ = None

abbrev pub or_else : Option ℕ → Option ℕ → Option ℕ
or_else (Some n) other = Some n
or_else None other = other

-- What the runs from one on tell, each of them so, where `seen` is the last name that earlier ones met: what the first
-- tells that doesn't tell that there is no match; or at the text's end that there is none.
pub data AreTold (text : List ℕ) (Tells : Run → Result Hit MatchError → Type 0)
    : ℕ → Option ℕ → Run → Result Hit MatchError → Type 0 where
  told : {from : ℕ} {seen : Option ℕ} {r : Result Hit MatchError}
      → Tells (run_from text from) r → missed r ≡ None
      → AreTold text Tells from seen (run_from text from) r
  ended : {from : ℕ} {seen last : Option ℕ} {r : Result Hit MatchError}
      → Tells (run_from text from) r → missed r ≡ Some last → length text ≤ (run_from text from).to
      → AreTold text Tells from seen (run_from text from) (Err (NoMatch (or_else last seen)))
  passed : {from : ℕ} {seen last : Option ℕ} {run : Run} {r told : Result Hit MatchError}
      → Tells (run_from text from) r → missed r ≡ Some last → (run_from text from).to < length text
      → AreTold text Tells ((run_from text from).to + 1) (or_else last seen) run told
      → AreTold text Tells from seen run told

-- what a search of all runs answers, where no match may begin behind the limit
abbrev pub IsRunsAnswer : CodeParts → MatchOptions → List ℕ → ℕ → ℕ → Answer → Run → List Pair → List ℕ → Type 0
IsRunsAnswer code o text start limit answer run places mark =
    (begin : ℕ) × IsBegin text start begin
    × (r : Result Hit MatchError) × AreTold text (IsToldIn code o text start begin places mark) 0 None run r
    × (answer ≡ answer_of (limited limit run.from places r))
