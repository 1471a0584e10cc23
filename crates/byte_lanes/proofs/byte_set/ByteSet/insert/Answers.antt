use Rattle.std.proofs.Common.{get_or, eqb, ◌||◌, false, ap, ◌∙◌, arith}
use Rattle.byte_lanes.specs.Sets.{flags}
use Rattle.byte_lanes.proofs.lemmas.SetLemmas.{inserted-low, inserted-high}
use Rattle.byte_lanes.proofs.byte_set.ByteSet.insert.Goals as goal

pub invariant_of-self : goal.invariant_of-self
invariant_of-self c =
    let s = c.self.inside in
    c.with-self-inside.ensures (λ k. get_or (flags s.low s.high) k false) _ c.self.invariant
    (inserted-low s.low s.high c.args.b (omega arith) (omega arith))

pub invariant_of-self-else-b-lt128 : goal.invariant_of-self-else-b-lt128
invariant_of-self-else-b-lt128 c =
    let s = c.self.inside in
    c.with-self-inside.ensures (λ k. get_or (flags s.low s.high) k false) _ c.self.invariant
    (inserted-high s.low s.high c.args.b (omega arith) (omega arith) (omega arith))

pub returns-then-b-lt128 : goal.returns-then-b-lt128
returns-then-b-lt128 c k =
    inserted-low c.self.inside.low c.self.inside.high c.args.b (omega arith) (omega arith) k
    ∙ ap (λ s. get_or s k false || eqb k c.args.b) c.self.view_is

pub returns-else-b-lt128 : goal.returns-else-b-lt128
returns-else-b-lt128 c k =
    inserted-high c.self.inside.low c.self.inside.high c.args.b (omega arith) (omega arith) (omega arith) k
    ∙ ap (λ s. get_or s k false || eqb k c.args.b) c.self.view_is
