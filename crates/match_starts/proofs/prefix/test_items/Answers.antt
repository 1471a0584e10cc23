use Rattle.std.proofs.Common.{Some, None, sym, ◌∙◌}
use Rattle.match_items.specs.Views.{text_scene}
use Rattle.match_starts.proofs.PastPrefix.{past_parts, at_other, at_item}
use Rattle.match_starts.proofs.prefix.test_items.Goals as goal

pub returns-in_default : goal.returns-in_default
returns-in_default c =
    let g = text_scene c.args.view.now c.args.ready.now.classes.now in
    sym (at_other g c.args.ready.now.tree.now c.args.parts.now c.parts.i c.parts.at c.parts-test.true
    c.node.result.now c.node.ensures.is c.in_default.not-One) ∙ c.parts.invariant.same

pub returns-in_default-taken : goal.returns-in_default-taken
returns-in_default-taken c =
    let g = text_scene c.args.view.now c.args.ready.now.classes.now in
    sym (at_item g c.args.ready.now.tree.now c.args.parts.now c.parts.i c.parts.at c.parts-test.true c.node.result.now
    c.node.ensures.is c.in-One.item c.in-One.is None c.in_default-taken.ensures.value)
    ∙ c.parts.invariant.same

pub parts-preserved : goal.parts-preserved
parts-preserved c =
    let g = text_scene c.args.view.now c.args.ready.now.classes.now in
    record {
      same =
          sym (at_item g c.args.ready.now.tree.now c.args.parts.now c.parts.i c.parts.at c.parts-test.true
          c.node.result.now c.node.ensures.is c.in-One.item c.in-One.is (Some c.in-Some.to)
          c.in-Some.ensures.value)
          ∙ c.parts.invariant.same;
      place = c.in-Some.ensures.place;
    }

pub returns : goal.returns
returns c =
    let g = text_scene c.args.view.now c.args.ready.now.classes.now in
    sym (past_parts g c.args.ready.now.tree.now c.args.parts.now c.parts.i c.parts.at c.parts-test.false)
    ∙ c.parts.invariant.same
