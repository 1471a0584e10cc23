use Rattle.std.proofs.Common.{◌≡◌, ℕ, get_or, eqb, ◌||◌, Bool, true, false, List, Option, Some, None, IfSome}
use Rattle.std.proofs.Common.{is_some, sym, ◌∙◌}
use Rattle.byte_lanes.specs.declared.byte_test.ThreeBytes.{ThreeBytes}
use Rattle.byte_lanes.proofs.byte_set.ByteSet.is_small.Goals as goal

three_of : (set : List Bool) (few : Option ThreeBytes)
    → IfSome few (λ t. (b : ℕ) → get_or set b false ≡ (eqb b t.one || eqb b t.other || eqb b t.third))
    → is_some few ≡ true
    → (x : ℕ) × ((y : ℕ) × ((z : ℕ) × ((b : ℕ) → get_or set b false ≡ (eqb b x || eqb b y || eqb b z))))
three_of set None has some = absurd cc
three_of set (Some t) has some = (t.one, (t.other, (t.third, has)))

pub returns : goal.returns
returns c small = three_of c.args.self.now c.as_three.result c.as_three.ensures (sym c.is_some.ensures ∙ small)
