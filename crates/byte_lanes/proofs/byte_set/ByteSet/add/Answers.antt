use Rattle.std.proofs.Common.{get_or, ◌||◌, false, ◌∙◌}
use Rattle.byte_lanes.specs.Sets.{flags}
use Rattle.byte_lanes.proofs.lemmas.SetLemmas.{joined-flags}
use Rattle.byte_lanes.proofs.byte_set.ByteSet.add.Goals as goal

pub invariant_of-self : goal.invariant_of-self
invariant_of-self c =
    let one = c.self.inside in
    let other = c.more.inside in
    c.joined-self-inside-3.ensures (flags one.low one.high) (flags other.low other.high) _ c.self.invariant
    c.more.invariant
    (joined-flags _ _ one.low one.high other.low other.high c.joined-self-inside.ensures.rows
    c.joined-self-inside-2.ensures.rows)

pub returns : goal.returns
returns c k =
    joined-flags _ _ c.self.inside.low c.self.inside.high c.more.inside.low c.more.inside.high
    c.joined-self-inside.ensures.rows c.joined-self-inside-2.ensures.rows k
    ∙ (λ i. (get_or (c.self.view_is i) k false || get_or (c.more.view_is i) k false))
