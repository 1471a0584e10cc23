use Rattle.std.proofs.Common.{◌≡◌, ◌≤◌, ◌-◌, ℕ, min, length, sym, subst, arith}
use Rattle.line_feed.specs.View.{Feed}
use Rattle.line_feed.specs.Inside.{IsSearched, IsWhole, held_of}
use Rattle.line_feed.proofs.Looking.{searched-end}
use Rattle.line_feed.proofs.Insides.{held-long, whole-searched}
use Rattle.line_feed.proofs.feed.LineFeed.mark_end.Goals as goal

pub invariant_of-self : goal.invariant_of-self
invariant_of-self c =
    let f = c.self.inside in
    let long = held-long f c.self.invariant in
    let at = c.args.end.now.at in
    let m = min at (length (held_of f) - 2) in
    let n : m ≡ c.min-self-inside.result = omega (arith, long, c.saturating_sub.ensures, c.min-self-inside.ensures) in
    let within : m ≤ length (held_of f) = omega (arith, long) in
    let none : IsSearched f.kind (held_of f) m =
    subst (λ (v : Feed). IsSearched v.kind v.held (min at (length v.held - 2))) (sym c.self.view_is)
    (searched-end _ at c.args.end.now.len c.requires) in
    subst (λ (k : ℕ). IsWhole (record f { searched = k })) n (whole-searched f m c.self.invariant within none)
