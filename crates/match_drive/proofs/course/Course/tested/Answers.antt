use Rattle.std.proofs.Common.{sym, subst}
use Rattle.pat_tree.specs.declared.options.Options.{Options}
use Rattle.match_items.specs.Subjects.{IsTextPlace}
use Rattle.match_drive.proofs.course.Course.tested.Goals as goal

pub test_whole-requires-clause-place : goal.test_whole-requires-clause-place
test_whole-requires-clause-place c =
    subst (λ (o : Options). IsTextPlace o c.args.self.now.view.now.subject.now c.args.place)
    (sym c.requires.fits.options) c.requires.place

pub test_whole-requires-clause-only : goal.test_whole-requires-clause-only
test_whole-requires-clause-only c = rw c.in-Some.is at c.requires.fits.repeats_only
