use Rattle.std.proofs.Common.{◌≡◌, ◌≢◌, ℕ, true}
use Rattle.std.specs.Prelude.{IsTrue}
use Rattle.char_sets.specs.Sets.{class_has}
use Rattle.pat_shape.specs.IsShape.{may_take}
use Rattle.pat_shape.proofs.Ranges.{Holds, Only}
use Rattle.pat_shape.proofs.pieces.byte_ranges.Given as goal

abbrev pub invariant-loop-b : goal.invariant-loop-b
invariant-loop-b l =
    let may : ℕ → Type 0 = λ b. may_take l.tree.options.utf (class_has l.tree) l.item b ≡ true in
    Holds (λ b. (IsTrue l.lined → b ≢ 10) × may b) l.ranges.items l.b
    × Only (λ b. may b × (IsTrue l.lined → b ≢ 10)) l.ranges.items
