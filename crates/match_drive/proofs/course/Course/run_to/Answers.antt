use Rattle.std.proofs.Common.{sym, subst, ◌∙◌}
use Rattle.pat_tree.specs.declared.options.Options.{Options}
use Rattle.match_items.specs.Subjects.{IsTextPlace}
use Rattle.frame_machine.specs.frame_board.Ready.{setting_for}
use Rattle.match_starts.specs.Asked.{passed_over}
use Rattle.match_drive.proofs.PastRun.{RunFails, run_fails, none_fails}
use Rattle.match_drive.proofs.course.Course.run_to.Goals as goal

found : (c : goal.After-item_run)
    → RunFails c.args.self.now.ready.now.tree.now c.args.self.now.view.now c.args.place
    c.item_run.result.to
found c =
    let x = c.args.self.now in
    let fits = c.requires.fits in
    run_fails x.ready.now.tree.now x.ready.now.classes.now x.view.now c.in-Some.item.now c.args.place
    c.item_run.result.to fits.table fits.options (rw c.in-Some.is at fits.runs_first)
    c.item_run.ensures.to c.requires.place.within

pub returns-in-Some-clause-low : goal.returns-in-Some-clause-low
returns-in-Some-clause-low c = (found c).low

pub returns-in-Some-clause-within : goal.returns-in-Some-clause-within
returns-in-Some-clause-within c = (found c).within

pub returns-in-Some-clause-fails : goal.returns-in-Some-clause-fails
returns-in-Some-clause-fails c = (found c).fails

pub returns-in-None-clause-fails : goal.returns-in-None-clause-fails
returns-in-None-clause-fails c =
    none_fails (setting_for c.args.self.now.ready.now.tree.now c.args.self.now.view.now passed_over)
    c.args.place

pub returns-in-Some-clause-alone : goal.returns-in-Some-clause-alone
returns-in-Some-clause-alone c utf =
    let fits = c.requires.fits in
    absurd (let bytes = (rw c.in-Some.is at fits.runs_first).begins.bytes in cc (sym utf ∙ bytes))

pub item_run-requires-clause-place : goal.item_run-requires-clause-place
item_run-requires-clause-place c =
    subst (λ (o : Options). IsTextPlace o c.args.self.now.view.now.subject.now c.args.place)
    (sym c.requires.fits.options) c.requires.place
