-- A piece that begins later begins after an earlier place.
use Rattle.std.proofs.Common.{ℕ, ◌≤◌, List, Result, Ok, Err, arith}
use Rattle.std.specs.Prelude.{IfOk}
use Rattle.subst_plan.specs.declared.faults.PlanError.{PlanError}
use Rattle.subst_plan.specs.declared.pieces.Piece.{Piece}
use Rattle.subst_plan.specs.Plans.{IsAfter}

pub later : (text : List ℕ) (at m : ℕ) (r : Result (Piece × ℕ) PlanError) → at ≤ m → IfOk r (IsAfter text m)
    → IfOk r (IsAfter text at)
later text at m (Ok found) order h = (omega (arith, order, h.0), h.1, h.2)
later text at m (Err e) order h = tt
