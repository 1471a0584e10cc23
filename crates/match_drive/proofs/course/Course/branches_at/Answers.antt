use Rattle.std.proofs.Common.{sym, ap, subst, ◌∙◌}
use Rattle.pat_tree.specs.declared.options.Options.{Options}
use Rattle.match_items.specs.Subjects.{IsTextPlace}
use Rattle.frame_machine.specs.frame_board.Ready.{setting_for}
use Rattle.frame_state.specs.Stops.{admitted}
use Rattle.match_starts.specs.Asked.{passed_over}
use Rattle.match_starts.specs.declared.prefix.Tested.TheVariants.{Took, Refused}
use Rattle.match_starts.proofs.PastPrefix.{branches_tell, not_none, same_place}
use Rattle.match_drive.proofs.course.Course.branches_at.Goals as goal

pub test_branches-requires-clause-place : goal.test_branches-requires-clause-place
test_branches-requires-clause-place c =
    subst (λ (o : Options). IsTextPlace o c.args.self.now.view.now.subject.now c.args.place)
    (sym c.requires.fits.options) c.requires.place

pub returns-in-Took : goal.returns-in-Took
returns-in-Took c = λ given.
    let x = c.args.self.now in
    let fits = c.requires.fits in
    let some = not_none x.first.now (sym c.is_empty.ensures ∙ c.if-is_empty.false) in
    branches_tell x.ready.now.tree.now x.ready.now.classes.now x.view.now given x.first.now c.args.place
    (Took c.in-Took.to)
    fits.table fits.options fits.branches some (fits.branches_free some) (sym c.in-Took.is ∙ c.test_branches.ensures)
    (λ q e. ap (admitted (setting_for x.ready.now.tree.now x.view.now passed_over) c.args.place)
    (sym (same_place c.in-Took.to q e))
    ∙ sym c.is_admitted.ensures ∙ c.if-is_admitted.true)

pub returns-in-Refused : goal.returns-in-Refused
returns-in-Refused c = λ given.
    let x = c.args.self.now in
    let fits = c.requires.fits in
    let some = not_none x.first.now (sym c.is_empty.ensures ∙ c.if-is_empty.false) in
    branches_tell x.ready.now.tree.now x.ready.now.classes.now x.view.now given x.first.now c.args.place Refused
    fits.table fits.options fits.branches some (fits.branches_free some) (sym c.in-Refused.is ∙ c.test_branches.ensures)
    (λ q e. absurd (cc e))
