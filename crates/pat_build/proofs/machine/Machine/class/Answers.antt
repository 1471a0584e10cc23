use Rattle.pat_build.proofs.Adding.{class_waits}
use Rattle.pat_build.proofs.machine.Machine.class.Goals as goal

pub returns : goal.returns
returns c =
    let m = c.args.self.now in
    let r = c.requires.ready in
    class_waits m r.2.means r.0 r.1 c.args.end m.at c.in_ok-class.class c.args.quoting c.args.spec
    c.add_class.new.self r.2 r.3 c.requires.within c.in_ok-class.ensures.grows c.in_ok-class.ensures.number r.4
