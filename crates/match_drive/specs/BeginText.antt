-- A text at a distance from where every match begins.
use Rattle.std.specs.Prelude.{◌≡◌, ℕ, ℤ, ◌+◌, List}
use Rattle.match_items.specs.Subjects.{IsTextPlace}
use Rattle.pat_needs.specs.declared.needs.BeginText.{BeginText}
use Rattle.pat_needs.specs.Texts.{sets_of, Stands}
use Rattle.ordered_search.specs.Stream.{Block}
use Rattle.ordered_search.specs.Setting.{Setting}
use Rattle.ordered_search.specs.PlaceAnswer.{Exhausted, Failed, answers, place_answer}
use Rattle.match_starts.specs.Asked.{replied}

-- the text stands at its distance behind the place
abbrev pub StandsBehind : BeginText → List ℕ → ℕ → Type 0
StandsBehind begin bytes p = Stands (sets_of begin.text) bytes (p + begin.distance)

-- each place behind which it doesn't stand so fails, whatever callouts answer
abbrev pub IsBegun : Setting → BeginText → Type 0
IsBegun g begin = (reply : Block → ℤ) (p : ℕ) → IsTextPlace g.options g.subject p
    → ¬ StandsBehind begin g.subject p
    → place_answer (replied reply g) p ≡ answers (Failed Exhausted)
