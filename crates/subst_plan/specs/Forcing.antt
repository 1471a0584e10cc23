-- Case forcing (pcre2api, "Creating a new string with substitutions"): of ASCII letters alone.
use Rattle.std.specs.Prelude.{ℕ, List, [], ◌∷◌, map}
use Rattle.std.specs.Char.{to_ascii_uppercase, to_ascii_lowercase}
use Rattle.subst_plan.specs.declared.pieces.Case.{Case}
use Rattle.subst_plan.specs.declared.pieces.Case.TheVariants.{Upper, Lower}
use Rattle.subst_plan.specs.declared.pieces.Forcing.{Forcing}
use Rattle.subst_plan.specs.declared.pieces.Forcing.TheVariants.{Off, All, Next}

abbrev pub in_case : Case → ℕ → ℕ
in_case Upper b = to_ascii_uppercase b
in_case Lower b = to_ascii_lowercase b

-- bytes as they are written
abbrev pub forced : Forcing → List ℕ → List ℕ
forced Off bytes = bytes
forced (All case) bytes = map (in_case case) bytes
forced (Next case) [] = []
forced (Next case) (b ∷ bytes) = in_case case b ∷ bytes

-- `\u` and `\l` end with the character that they force
abbrev pub forcing_after : Forcing → List ℕ → Forcing
forcing_after Off bytes = Off
forcing_after (All case) bytes = All case
forcing_after (Next case) [] = Next case
forcing_after (Next case) (b ∷ bytes) = Off
