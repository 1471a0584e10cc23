-- Where a search can begin (pcre2api, "Matching a pattern: the traditional function"; pcre2unicode,
-- "Validity of UTF strings").
use Rattle.std.specs.Prelude.{ℕ, Bool, ◌&&◌, not, if◌then◌else◌, nat_lt, List, length, slice_index, Option, Some, None}
use Rattle.std.specs.Str.{is_utf8}
use Rattle.std.specs.Str.Lossy.{utf8_valid_len}
use Rattle.match_drive.specs.frame_board.Standing.{is_inside}
use Rattle.pcre2_errors.specs.declared.error.MatchError.{MatchError}
use Rattle.pcre2_errors.specs.declared.error.MatchError.TheVariants.{BadOffset, BadUtf, BadUtfOffset}

-- The start lies in the subject; in UTF the subject is UTF-8, and a character begins at the start or
-- the subject ends there. The first of these that fails is told, a subject that isn't UTF-8 by the
-- length of its longest part that is.
abbrev pub start_fault : Bool → List ℕ → ℕ → Option MatchError
start_fault utf subject start =
    if nat_lt (length subject) start then Some BadOffset
    else if utf && not (is_utf8 subject) then Some (BadUtf (utf8_valid_len subject))
    else if utf && is_inside (slice_index subject start) then Some BadUtfOffset
    else None
