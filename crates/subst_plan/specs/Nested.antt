-- The inner texts of a replacement as wholes.
use Rattle.std.specs.Prelude.{ℕ, zero, suc, Bool, false, ◌==◌, List, [], ◌∷◌, Option, Some, None}
use Rattle.subst_plan.specs.declared.pieces.Piece.{Piece}
use Rattle.subst_plan.specs.declared.pieces.Piece.TheVariants as piece

-- a `:` and a `}` stand in a text
abbrev pub else_depth : ℕ → Option ℕ
else_depth zero = None
else_depth (suc n) = Some (suc n)

abbrev pub close_depth : ℕ → Option ℕ
close_depth zero = None
close_depth (suc n) = Some n

-- how many texts are open after a piece, where so many are open before it
abbrev pub depth_after : Piece → ℕ → Option ℕ
depth_after (piece.Default key) n = Some (suc n)
depth_after (piece.Choice key) n = Some (suc n)
depth_after piece.Else n = else_depth n
depth_after piece.Close n = close_depth n
depth_after _ n = Some n

-- whether pieces close each text that they open, and the so many that are open before them
abbrev pub closes_all : ℕ → List Piece → Bool
closes_all n [] = n == 0
closes_all n (p ∷ pieces) = elim (depth_after p n) [ None ↦ false | Some k ↦ closes_all k pieces ]

-- whether pieces close each text that they open, and no other
abbrev pub is_whole : List Piece → Bool
is_whole pieces = closes_all 0 pieces
