-- The first lines that are made, computed from their definition.
use Rattle.std.specs.Prelude.{◌≡◌, [], ◌∷◌, codes}
use Rattle.test_gen.specs.Generated.{lines}

pub record WorkedLines : Type 0 where
  pub none : lines 0 ≡ []
  pub first : lines 1 ≡ codes "bbba---babca" ∷ []
