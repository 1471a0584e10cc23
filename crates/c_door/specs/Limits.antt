-- Matches that begin behind the offset limit count as none (pcre2api, "Setting an offset limit in the match context").
use Rattle.std.specs.Prelude.{ℕ, ◌-◌, ◌||◌, nat_lt, Bool, List, [], ◌∷◌, if◌then◌else◌}
use Rattle.std.specs.Prelude.{Option, Some, None, Result, Ok, Err}
use Rattle.pcre2_errors.specs.declared.error.MatchError.{MatchError}
use Rattle.pcre2_errors.specs.declared.error.MatchError.TheVariants as told
use Rattle.pcre2_errors.specs.declared.dfa_error.DfaError.{DfaError}
use Rattle.pcre2_errors.specs.declared.dfa_error.DfaError.TheVariants as ending
use Rattle.pcre2_api.specs.declared.dfa.DfaFound.{DfaFound}
use Rattle.c_door.specs.declared.told.Hit.{Hit}
use Rattle.c_door.specs.declared.told.Pair.{Pair}

-- a place, counted from another one on, is behind the limit, which counts from the front
abbrev pub is_behind : ℕ → ℕ → ℕ → Bool
is_behind limit from at = nat_lt limit from || nat_lt (limit - from) at

abbrev pub first_from : List Pair → Option ℕ
first_from [] = None
first_from (pair ∷ pairs) = Some pair.from

-- where the match begins that is told, by the place of group 0, or the partial one
abbrev pub begin_told : List Pair → Result Hit MatchError → Option ℕ
begin_told places (Ok hit) = first_from places
begin_told places (Err (told.Partial start end mark)) = Some start
begin_told places (Err _) = None

-- what is told of a match in the part of the subject from a place on
abbrev pub limited : ℕ → ℕ → List Pair → Result Hit MatchError → Result Hit MatchError
limited limit from places r = elim (begin_told places r) [
  | Some at ↦ if is_behind limit from at then Err (told.NoMatch None) else r
  | None ↦ r
]

abbrev pub ends_begin_told : Result DfaFound DfaError → Option ℕ
ends_begin_told (Ok f) = Some f.start
ends_begin_told (Err (ending.Partial start end)) = Some start
ends_begin_told (Err _) = None

abbrev pub limited_ends : ℕ → Result DfaFound DfaError → Result DfaFound DfaError
limited_ends limit r = elim (ends_begin_told r) [
  | Some at ↦ if is_behind limit 0 at then Err ending.NoMatch else r
  | None ↦ r
]
