use Rattle.std.proofs.Common.{sym, subst}
use Rattle.pat_tree.specs.declared.options.Options.{Options}
use Rattle.match_items.specs.Subjects.{IsTextPlace}
use Rattle.match_drive.proofs.course.Course.fails_on.Goals as goal

pub fails_on-requires-clause-place : goal.fails_on-requires-clause-place
fails_on-requires-clause-place c =
    subst (λ (o : Options). IsTextPlace o c.args.self.now.view.now.subject.now c.args.place)
    (sym c.requires.fits.options) c.requires.place

pub fails_on-requires-clause-first : goal.fails_on-requires-clause-first
fails_on-requires-clause-first c = rw c.in-Some.is at c.requires.fits.repeats_first
