use Rattle.pat_build.proofs.Taking.{pass_means}
use Rattle.pat_build.proofs.machine.Machine.pass.Goals as goal

pub returns : goal.returns
returns c =
    pass_means c.args.self.now c.requires.means c.requires.next.0 c.args.after c.args.quoting c.requires.waits.0
    c.requires.waits.1 c.requires.next.1 c.requires.room c.requires.next.2
