use Rattle.pat_build.proofs.Taking.{nothing_means}
use Rattle.pat_build.proofs.machine.Machine.nothing.Goals as goal

pub returns : goal.returns
returns c =
    let ready = c.requires.1 in
    nothing_means c.args.self.now ready.means c.requires.0 c.args.after c.args.options c.args.quoting ready c.requires.2
