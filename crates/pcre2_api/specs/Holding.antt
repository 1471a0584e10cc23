-- What a search hands to a match, and what a match leaves of the workspace that it borrows.
use Rattle.std.specs.Prelude.{◌≡◌, ◌≤◌, ℕ, List, max, Option, Some, None, Result, Ok, Err}
use Rattle.std.specs.Borrow.{MutBor, Fml}
use Rattle.std.specs.Io.BufRead.{Rests}
use Rattle.match_drive.specs.frame_machine.Scratch.{Workspace}
use Rattle.match_drive.specs.frame_machine.contracts.scratch.Scratch.{the_row}
use Rattle.ordered_search.specs.Setting.{Setting}
use Rattle.ordered_search.specs.PlaceAnswer.{last_name}
use Rattle.ordered_search.specs.MatchAnswer.{match_answer}
use Rattle.pcre2_api.specs.Compiled.{CodeParts}
use Rattle.pcre2_api.specs.Matched.{MatchParts, fault_in}
use Rattle.pcre2_errors.specs.declared.error.MatchError.{MatchError}
use Rattle.pcre2_errors.specs.declared.error.MatchError.TheVariants.{Memory}
use Rattle.pcre2_api.specs.declared.reserved.ReservedError.{ReservedError}
use Rattle.pcre2_api.specs.declared.found.Held.{Held}
use Rattle.pcre2_api.specs.declared.found.Text.{Text}

-- a match of a code in a subject, whose captures are in a workspace
abbrev pub found_in : CodeParts → List ℕ → Text → Workspace → MatchParts
found_in code subject text w = record {
  code = code;
  subject = subject;
  outcome = record { keep = text.keep; to = text.to; mark = text.mark; caps = w.spans };
}

-- the match that is held
abbrev pub parts_of : Held → MatchParts
parts_of h = found_in h.code.now h.subject.now h.text h.scratch.now

abbrev pub as_found : Result Held MatchError → Result MatchParts MatchError
as_found (Ok h) = Ok (parts_of h)
as_found (Err e) = Err e

abbrev pub as_reserved : Result Held ReservedError → Result MatchParts ReservedError
as_reserved (Ok h) = Ok (parts_of h)
as_reserved (Err e) = Err e

-- want of memory isn't answered
abbrev pub HasAnswer : {A : Type 0} → Result A MatchError → Type 0
HasAnswer (Err Memory) = ⊥
HasAnswer _ = Unit {0}

-- the last name after a search; one that can't begin leaves the one before
abbrev pub mark_left : Setting → Option ℕ → Option ℕ
mark_left g before = elim (fault_in g) [
  | Some e ↦ before
  | None ↦ last_name (match_answer g).notes
]

-- Once the answer is let go: the records have never been more than there had been before, or than the frame limit; the
-- room is as it was; and the last name is that of the search, where there is an answer.
abbrev pub Leaves : MutBor Workspace → Setting → Type 0 → Fml
Leaves w g Answered = Rests the_row w (λ left.
    (left.peak ≤ max w.now.peak g.matching.frame_limit)
    × (left.groups ≡ w.now.groups) × (left.frames ≡ w.now.frames)
    × (Answered → left.last_mark ≡ mark_left g w.now.last_mark))
