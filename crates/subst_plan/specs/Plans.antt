-- A replacement as a whole (pcre2api, "Creating a new string with substitutions").
use Rattle.std.specs.Prelude.{ℕ, zero, suc, ◌+◌, ◌-◌, ◌<◌, ◌≤◌, ⊤, Bool, nat_lt, List, [], ◌∷◌, ◌++◌, length, take}
use Rattle.std.specs.Prelude.{Option, Result, Ok, Err, slice_get, slice_index, ◌≡◌, if◌then◌else◌}
use Rattle.token_parts.specs.Tell.{IsPart}
use Rattle.subst_plan.specs.declared.faults.PlanError.{PlanError}
use Rattle.subst_plan.specs.declared.faults.PlanError.TheVariants as fault
use Rattle.subst_plan.specs.declared.faults.PlanError.TheVariants.{MissingBrace, BadSyntax}
use Rattle.subst_plan.specs.declared.pieces.Key.{Key}
use Rattle.subst_plan.specs.declared.pieces.Key.TheVariants.{Name}
use Rattle.subst_plan.specs.declared.pieces.Inner.{Inner}
use Rattle.subst_plan.specs.declared.pieces.Inner.TheVariants.{First, Last}
use Rattle.subst_plan.specs.declared.pieces.Piece.{Piece}
use Rattle.subst_plan.specs.declared.pieces.Piece.TheVariants.{Text, Group, Default, Choice, Else, Close}
use Rattle.subst_plan.specs.Reading.{◌>>=◌, piece_at}

-- a replacement that has been read: its text, and its pieces in order
pub record Replacement : Type 0 where
  pub text : List ℕ
  pub pieces : List Piece

-- the inner texts that are open, the innermost last
abbrev pub innermost : List Inner → Option Inner
innermost nest = slice_get nest (length nest - 1)

abbrev pub outer : List Inner → List Inner
outer nest = take (length nest - 1) nest

-- one more text is opened, of at most 20
abbrev pub opened : Inner → List Inner → Result (List Inner) PlanError
opened text nest = if nat_lt (length nest) 20 then Ok (nest ++ text ∷ []) else Err BadSyntax

-- the texts that are open after a piece
abbrev pub nest_after : Piece → List Inner → Result (List Inner) PlanError
nest_after (Default key) nest = opened Last nest
nest_after (Choice key) nest = opened First nest
nest_after Else nest = Ok (outer nest ++ Last ∷ [])
nest_after Close nest = Ok (outer nest)
nest_after _ nest = Ok nest

-- where the text ends no inner text is open
abbrev pub ended : List Inner → Result (List Piece) PlanError
ended [] = Ok []
ended (_ ∷ _) = Err MissingBrace

-- a piece before those that follow
abbrev pub before : List Piece → Result (List Piece) PlanError → Result (List Piece) PlanError
before first (Ok pieces) = Ok (first ++ pieces)
before first (Err e) = Err e

module _ (extended utf : Bool) (text : List ℕ) where
  -- what is read at a place where the text goes on
  abbrev pub next_piece : List Inner → ℕ → Result (Piece × ℕ) PlanError
  next_piece nest at = piece_at text extended utf (innermost nest) (slice_index text at) at

  -- The pieces from a place on, where these inner texts are open. At most so many are read, and
  -- each has a byte.
  abbrev pub pieces_from : ℕ → List Inner → ℕ → Result (List Piece) PlanError
  pieces_from zero nest at = Ok []
  pieces_from (suc n) nest at =
      if nat_lt at (length text) then (next_piece nest at >>= λ found. nest_after found.0 nest >>= λ deeper. before
      (found.0 ∷ []) (pieces_from n deeper found.1))
      else ended nest

  -- the pieces of a whole text
  unfoldable pub pieces_of : Result (List Piece) PlanError
  pieces_of = pieces_from (length text + 1) [] 0

-- a replacement by its text, or its first fault
abbrev pub plan_of : Bool → Bool → List ℕ → Result Replacement PlanError
plan_of extended utf text = pieces_of extended utf text >>= λ pieces. Ok (record { text = text; pieces = pieces })

-- a text that stands for itself
abbrev pub literal : List ℕ → Replacement
literal text = record { text = text; pieces = Text 0 (length text) ∷ [] }

-- The parts of a piece stand in the text.
abbrev pub IsKeyIn : List ℕ → Key → Type 0
IsKeyIn text (Name from to) = IsPart text from to
IsKeyIn text _ = ⊤

abbrev pub IsIn : List ℕ → Piece → Type 0
IsIn text (Text from to) = IsPart text from to
IsIn text (Group key) = IsKeyIn text key
IsIn text (Default key) = IsKeyIn text key
IsIn text (Choice key) = IsKeyIn text key
IsIn text _ = ⊤

-- a piece that began at a place, and the place after it
abbrev pub IsAfter : List ℕ → ℕ → Piece × ℕ → Type 0
IsAfter text at found = (at < found.1) × (found.1 ≤ length text) × IsIn text found.0

-- what a call answers at a refusal, where it doesn't want memory
abbrev pub Refuses : {A : Type 0} → Result A PlanError → PlanError → Type 0
Refuses read fault.Memory = ⊤
Refuses read e = read ≡ Err e
