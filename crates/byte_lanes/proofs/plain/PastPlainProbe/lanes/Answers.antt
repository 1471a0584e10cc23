use Rattle.std.proofs.Common.{ℕ, ◌+◌, cond, leb, get_or, bit_or}
use Rattle.byte_lanes.proofs.lemmas.LaneLemmas.{HasLanes-of, HasLanes-of_two}
use Rattle.byte_lanes.proofs.lemmas.PlainLemmas.{Covers-others}
use Rattle.byte_lanes.proofs.plain.PastPlainProbe.lanes.Goals as goal

pub returns : goal.returns
returns c =
    let bytes = c.args.self.now.bytes.now in
    let i = c.args.i in
    let at = λ (k : ℕ). get_or bytes (i + k) 0 in
    let low = HasLanes-of (λ (x : ℕ). cond (leb x 13) 255 0) at c.at_most.ensures c.load-v.ensures in
    let high = HasLanes-of (λ (x : ℕ). cond (leb 128 x) 255 0) at c.at_least.ensures c.load-v.ensures in
    Covers-others bytes i (HasLanes-of_two bit_or _ _ c.either.ensures low high)
