use Rattle.std.proofs.Common.{arith, ◌≡◌, ◌<◌, ◌==◌, ℕ, true, false, refl}
use Rattle.std.proofs.lemmas.Bool.{eq-eqb}
use Rattle.byte_lanes.specs.Sets.{has_byte}
use Rattle.pcre2_api.proofs.lead.only_byte.Goals as goal

pub returns-else-has-clause-none : goal.returns-else-has-clause-none
returns-else-has-clause-none c _ b lt alone =
    let it : has_byte c.args.set.now b ≡ (b == b) = alone b lt in
    let same : (b == b) ≡ true = eq-eqb b b refl in
    let before : (n : ℕ) → n < c.loop-byte.byte → has_byte c.args.set.now n ≡ false = c.loop-byte.invariant in
    grind arith
