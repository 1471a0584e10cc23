use Rattle.pat_build.proofs.Waiting.{unrepeatable_means, ends_atom}
use Rattle.pat_build.proofs.Taking.{quantifier_means}
use Rattle.pat_build.proofs.machine.Machine.quantifier.Goals as goal

pub returns-in_default-clause-bad : goal.returns-in_default-clause-bad
returns-in_default-clause-bad c =
    unrepeatable_means c.args.self.now c.requires.means c.args.after c.args.min c.args.max c.args.mode c.in_default.is
    c.requires.next

pub repeated-requires-clause-loose : goal.repeated-requires-clause-loose
repeated-requires-clause-loose c = ends_atom c.args.self.now c.requires.means c.in-Some.atom c.in-Some.is

pub returns-clause-ok : goal.returns-clause-ok
returns-clause-ok c =
    let m = c.args.self.now in
    let e = c.in_ok-id.ensures in
    quantifier_means m c.requires.means c.args.after c.args.min c.args.max c.args.mode c.in-Some.atom c.in_ok-id.id
    c.repeated.new.draft
    c.push.new.self c.in-Some.is c.requires.next c.requires.room e.made e.count e.adds (λ front h. e.loose front h)
    c.in_ok-push.ensures.ok
