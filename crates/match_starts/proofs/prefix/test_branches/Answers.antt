use Rattle.std.proofs.Common.{sym, ◌∙◌}
use Rattle.match_items.specs.Views.{text_scene}
use Rattle.match_starts.specs.declared.prefix.Tested.TheVariants.{Refused}
use Rattle.match_starts.proofs.PastPrefix.{past_branches, at_branch, stays}
use Rattle.match_starts.proofs.prefix.test_branches.Goals as goal

pub branches-preserved : goal.branches-preserved
branches-preserved c =
    let g = text_scene c.args.view.now c.args.ready.now.classes.now in
    record {
      same =
          sym (at_branch g c.args.ready.now.tree.now c.args.branches.now c.branches.i c.args.place
          c.branches-test.true Refused (sym c.in-Refused.is ∙ c.test_branch.ensures))
          ∙ c.branches.invariant.same;
    }

pub returns-in_default : goal.returns-in_default
returns-in_default c =
    let g = text_scene c.args.view.now c.args.ready.now.classes.now in
    sym (stays c.test_branch.result _ c.in_default.not-Refused)
    ∙ sym (at_branch g c.args.ready.now.tree.now c.args.branches.now c.branches.i c.args.place c.branches-test.true
    c.test_branch.result c.test_branch.ensures)
    ∙ c.branches.invariant.same

pub returns : goal.returns
returns c =
    let g = text_scene c.args.view.now c.args.ready.now.classes.now in
    sym (past_branches g c.args.ready.now.tree.now c.args.branches.now c.branches.i c.args.place
    c.branches-test.false) ∙ c.branches.invariant.same
