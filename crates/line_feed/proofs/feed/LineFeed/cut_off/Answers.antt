use Rattle.std.proofs.Common.{inl, inr, ap, arith}
use Rattle.line_feed.proofs.Looking.{missed-over, full-over, last-missed, last-full}
use Rattle.line_feed.proofs.feed.LineFeed.cut_off.Goals as goal

pub returns-then-sure_len-self : goal.returns-then-sure_len-self
returns-then-sure_len-self c =
    let most = ap (λ v. v.max) c.self.view_is in
    elim c.requires.cut [
      | inl missed ↦ missed-over c.args.self.now missed c.requires.none.none (omega (arith, most, c.sure_len.ensures))
      | inr full ↦ full-over c.args.self.now full c.requires.none.none (omega (arith, most, c.sure_len.ensures))
    ]

pub returns : goal.returns
returns c =
    let most = ap (λ v. v.max) c.self.view_is in
    elim c.requires.cut [
      | inl missed ↦ last-missed c.args.self.now missed c.requires.none.none (omega (arith, most, c.sure_len.ensures))
      | inr full ↦ last-full c.args.self.now full c.requires.none.none (omega (arith, most, c.sure_len.ensures))
    ]
