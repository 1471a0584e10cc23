-- What a contract sees of a workspace.
use Rattle.std.specs.Prelude.{◌≤◌, ℕ, Option}
use Rattle.frame_store.specs.Captures.{Captures}
use Rattle.frame_state.specs.declared.answer.PlaceAnswer.{PlaceAnswer}
use Rattle.frame_state.specs.declared.answer.PlaceAnswer.TheVariants as told

pub record Workspace : Type 0 where
  -- what each group captured
  pub spans : Captures
  -- the greatest numbers of groups and of records that room was made for
  pub groups : ℕ
  pub frames : ℕ
  -- the greatest number of records that there has been
  pub peak : ℕ
  -- the number of the last name
  pub last_mark : Option ℕ

-- there is room for so many groups and so many records
abbrev pub HasRoom : Workspace → ℕ → ℕ → Type 0
HasRoom w groups frames = (groups ≤ w.groups) × (frames ≤ w.frames)

-- neither want of memory is answered nor a callout's answer
abbrev pub IsOfSearch : PlaceAnswer → Type 0
IsOfSearch told.Memory = ⊥
IsOfSearch (told.Abort n) = ⊥
IsOfSearch _ = Unit {0}
