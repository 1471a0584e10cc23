use Rattle.std.proofs.Common.{ap, refl, subst, sym, ◌∙◌}
use Rattle.line_feed.specs.Lines.{Fronts}
use Rattle.grep_core.specs.FirstBytes.{looks_first}
use Rattle.grep_core.proofs.FileTexts.{treats-none, treats-shown, hears-lacks}
use Rattle.grep_core.proofs.file.treatment_of.Goals as goal

pub returns-then-not-looks_first : goal.returns-then-not-looks_first
returns-then-not-looks_first g c =
    treats-none c.args.plan.now (g.S.Source.tells c.args.source.now) c.args.feed.now c.requires.new
    (ap (looks_first c.args.plan.now) (sym c.requires.mode) ∙ sym c.looks_first.ensures ∙ c.if-not-looks_first.true)

pub returns-in-Ok : goal.returns-in-Ok
returns-in-Ok g c =
    let f = c.args.feed.now in
    let new = c.front.follows.lender-at-none in
    let now = g.S.Source.tells c.args.source.now in
    let after = g.S.Source.tells c.front.new.source in
    treats-shown c.args.plan.now c.treatment_by.result c.has_zero.result now after f new c.in-Ok.first.now
    c.requires.new
    (ap (looks_first c.args.plan.now) (sym c.requires.mode) ∙ sym c.looks_first.ensures ∙ c.if-not-looks_first.false)
    (subst (Fronts f new now after) c.in-Ok.is c.front.follows.holds-at-none) c.has_zero.ensures c.treatment_by.ensures

pub returns-in-Err : goal.returns-in-Err
returns-in-Err g c =
    let f = c.args.feed.now in
    let new = c.front.follows.lender-at-none in
    let now = g.S.Source.tells c.args.source.now in
    let after = g.S.Source.tells c.front.new.source in (
      refl,
      hears-lacks now after f new c.requires.new
          (subst (Fronts f new now after) c.in-Err.is c.front.follows.holds-at-none),
    )
