-- What a contract sees of a table.
use Rattle.std.specs.Prelude.{ℕ, Bool, List}
use Rattle.frame_memo.specs.declared.failure.Failure.{Failure}
use Rattle.frame_memo.specs.declared.worth.Worth.{Worth}

-- the failures that it keeps; whether it keeps any; the Steps that a search is to take before it asks; how often it
-- answered
pub record Table : Type 0 where
  pub kept : List Failure
  pub is_open : Bool
  pub wait : ℕ
  pub worth : Worth
