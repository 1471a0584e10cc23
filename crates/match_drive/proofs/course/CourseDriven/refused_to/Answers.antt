use Rattle.match_drive.proofs.Failing.{refused_if}
use Rattle.match_drive.proofs.course.CourseDriven.refused_to.Goals as goal

pub returns : goal.returns
returns c =
    let x = c.args.self.now in
    refused_if x.ready.now.tree.now x.view.now c.args.place c.fails_on.result c.fails_on.ensures
