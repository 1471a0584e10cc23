use Rattle.pat_build.proofs.Waiting.{flush_means, ends_atom}
use Rattle.pat_build.proofs.machine.Machine.flush.Goals as goal

pub returns-in_ok-push-clause-means : goal.returns-in_ok-push-clause-means
returns-in_ok-push-clause-means c =
    let plain = c.requires.plain in
    flush_means c.args.self.now c.requires.means c.in-Some.atom c.in_ok-id.id c.place.new.draft c.push.new.self
    plain.0 plain.1 c.in-Some.is plain.2
    plain.3 c.in_ok-id.ensures.made c.in_ok-id.ensures.adds (λ front e. c.in_ok-id.ensures.loose front e)
    c.in_ok-push.ensures.ok

pub place-requires-clause-loose : goal.place-requires-clause-loose
place-requires-clause-loose c = ends_atom c.args.self.now c.requires.means c.in-Some.atom c.in-Some.is
