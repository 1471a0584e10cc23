use Rattle.std.proofs.Common.{◌∙◌, sym, arith}
use Rattle.match_items.specs.Views.{bare_text}
use Rattle.match_items.proofs.Texts.{same_front-done}
use Rattle.match_items.proofs.references.same_front.Goals as goal

pub returns : goal.returns
returns c =
    sym (c.loop-i.invariant ∙ same_front-done (bare_text c.args.view.now) c.args.caseless c.args.text.now
    c.args.rest.now c.loop-i.i (omega (arith, c.loop-i-test.false, c.min-shorter.ensures)))
