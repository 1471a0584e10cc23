use Rattle.std.proofs.Common.{◌≤◌, length, sym, ap, subst, ◌∙◌}
use Rattle.line_feed.specs.Passes.{skipped}
use Rattle.line_feed.proofs.Insides.{whole-skipped, view-skipped}
use Rattle.line_feed.proofs.feed.LineFeed.skip.Goals as goal

pub invariant_of-self : goal.invariant_of-self
invariant_of-self c = whole-skipped c.self.inside c.args.run.bytes c.args.run.rows c.self.invariant
    (subst (λ v. c.args.run.bytes ≤ length v.held) (sym c.self.view_is) c.requires.held) c.requires.few

pub returns : goal.returns
returns c =
    view-skipped c.self.inside c.args.run.bytes c.args.run.rows c.self.invariant
    (subst (λ v. c.args.run.bytes ≤ length v.held) (sym c.self.view_is) c.requires.held)
    ∙ ap (λ v. skipped v c.args.run.bytes c.args.run.rows) c.self.view_is
