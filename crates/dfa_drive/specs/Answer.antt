-- What the answer of a DFA match says.
use Rattle.std.specs.Prelude.{◌≡◌, ◌≤◌, ℕ, Bool, true, false, ◌⊎◌, List, length, Option, Some, None}
use Rattle.pat_tree.specs.declared.options.Options.{Options}
use Rattle.match_items.specs.Subjects.{IsTextPlace}
use Rattle.ordered_search.specs.Setting.{Setting}
use Rattle.ordered_search.specs.Places.{is_excluded}
use Rattle.dfa_ends.specs.Ends.{Among}
use Rattle.dfa_ends.specs.DfaAnswer as meant
use Rattle.dfa_ends.specs.DfaAnswer.{EndsFrom, PartialFrom, decision_at}
use Rattle.dfa_drive.specs.declared.answer.DfaAnswer.{DfaAnswer}
use Rattle.dfa_drive.specs.declared.answer.DfaAnswer.TheVariants.{Ends, NoMatch, Partial}

-- the answer that is meant
abbrev pub meant_by : DfaAnswer → meant.DfaAnswer
meant_by (Ends start ends) = EndsFrom start ends
meant_by NoMatch = meant.NoMatch
meant_by (Partial start) = PartialFrom start

-- it is the answer over all start places
abbrev pub IsDfaAnswer : meant.DfaAnswer → DfaAnswer → Type 0
IsDfaAnswer a told = a ≡ meant_by told

-- it is what a place decides
abbrev pub IsDecision : Option meant.DfaAnswer → Option DfaAnswer → Type 0
IsDecision o (Some told) = o ≡ Some (meant_by told)
IsDecision o None = o ≡ None

-- and the place isn't excluded; one that is excluded decides nothing
abbrev pub IsDecidedBy : Setting → Bool → ℕ → Option DfaAnswer → Type 0
IsDecidedBy g shortest p (Some told) =
    (is_excluded g p ≡ false) × (decision_at g shortest p ≡ Some (meant_by told))
IsDecidedBy g shortest p None = (is_excluded g p ≡ true) ⊎ (decision_at g shortest p ≡ None)

-- the ends lie between two places
abbrev pub AreWithin : ℕ → ℕ → List ℕ → Type 0
AreWithin low high ends = (q : ℕ) → Among q ends → (low ≤ q) × (q ≤ high)

-- What is told lies in the subject, and a partial match at the start of the search or past it.
abbrev pub IsPlaced : Options → List ℕ → ℕ → DfaAnswer → Type 0
IsPlaced options subject from (Ends start ends) = AreWithin start (length subject) ends
IsPlaced options subject from NoMatch = Unit {0}
IsPlaced options subject from (Partial start) =
    (from ≤ start) × IsTextPlace options subject start

-- it isn't a partial match
abbrev pub IsWhole : DfaAnswer → Type 0
IsWhole (Partial start) = ⊥
IsWhole _ = Unit {0}
