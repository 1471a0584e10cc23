-- What a search gives.
use Rattle.std.specs.Prelude.{◌≡◌, ℕ, ◌≤◌, All, length, Option, Some, None}
use Rattle.match_items.specs.Subjects.{IsText, IsTextPlace}
use Rattle.frame_store.specs.declared.registers.Span.{Span}
use Rattle.ordered_search.specs.Setting.{Setting}
use Rattle.ordered_search.specs.PlaceAnswer.{Outcome, MatchLimit, FrameLimit, Loop, Abort}
use Rattle.ordered_search.specs.MatchAnswer.{MatchAnswer, Match, NoMatch, PartialFrom, Error, match_answer}

-- what a group captured, if anything, lies in the first n bytes
abbrev pub IsWithin : ℕ → Option Span → Type 0
IsWithin n None = Unit {0}
IsWithin n (Some span) = (span.from ≤ span.to) × (span.to ≤ n)

-- The text of a match begins at the start or past it, and it and the captures lie in the subject; a character begins
-- where it ends, or the subject ends there.
pub record IsPlaced (g : Setting) (o : Outcome) : Type 0 where
  pub begins : g.start ≤ o.keep
  pub ordered : o.keep ≤ o.to
  pub within : o.to ≤ length g.subject
  pub place : IsTextPlace g.options g.subject o.to
  pub caps : All (IsWithin (length g.subject)) o.caps
  pub groups : length o.caps ≡ g.groups

-- a match, none, a partial match from a place at the start or past it, a limit, a recursion at the same place, or a
-- callout's number
abbrev pub IsPlain : Setting → MatchAnswer → Type 0
IsPlain g (Match o) = IsPlaced g o
IsPlain g NoMatch = Unit {0}
IsPlain g (PartialFrom p) = (g.start ≤ p) × IsTextPlace g.options g.subject p
IsPlain g (Error MatchLimit) = Unit {0}
IsPlain g (Error FrameLimit) = Unit {0}
IsPlain g (Error Loop) = Unit {0}
IsPlain g (Error (Abort n)) = Unit {0}
IsPlain g (Error a) = ⊥

-- The search begins at a place of a text.
pub record IsTextSearch (g : Setting) : Type 0 where
  pub text : IsText g.options g.subject
  pub begun : IsTextPlace g.options g.subject g.start

abbrev pub ForwardLaw : Type 0
ForwardLaw = (g : Setting) → IsTextSearch g → IsPlain g (match_answer g).answer
