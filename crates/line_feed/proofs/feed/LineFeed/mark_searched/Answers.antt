use Rattle.std.proofs.Common.{◌≡◌, ◌≤◌, ◌-◌, ℕ, length, sym, subst, arith}
use Rattle.line_feed.specs.View.{HoldsRow}
use Rattle.line_feed.specs.Inside.{IsWhole, held_of}
use Rattle.line_feed.proofs.Looking.{searched-part}
use Rattle.line_feed.proofs.Insides.{held-long, whole-searched}
use Rattle.line_feed.proofs.feed.LineFeed.mark_searched.Goals as goal

pub invariant_of-self : goal.invariant_of-self
invariant_of-self c =
    let f = c.self.inside in
    let long = held-long f c.self.invariant in
    let n : length (held_of f) - 2 ≡ c.saturating_sub-self-inside.result =
    omega (arith, long, c.saturating_sub-self-inside.ensures) in
    let within : length (held_of f) - 2 ≤ length (held_of f) = omega arith in
    let none = subst (λ v. HoldsRow v.kind v.held → ⊥) (sym c.self.view_is) c.requires in
    subst (λ (k : ℕ). IsWhole (record f { searched = k })) n
    (whole-searched f (length (held_of f) - 2) c.self.invariant within (searched-part f.kind (held_of f) none))
