-- What a modifier that can't do what it does tells.
use Rattle.std.specs.Prelude.{◌≡◌, ⊤, Option, None}
use Rattle.test_modifiers.specs.declared.modifiers.Modifiers.{Modifiers}
use Rattle.test_modifiers.specs.declared.effects.Stop.{Stop}
use Rattle.test_modifiers.specs.declared.effects.Stop.TheVariants.{BadValue, Memory}

-- the value is bad, where memory isn't wanting
abbrev pub Stops : Option Modifiers → Stop → Type 0
Stops given BadValue = given ≡ None
Stops given Memory = ⊤
