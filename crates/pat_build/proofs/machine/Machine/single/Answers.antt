use Rattle.std.proofs.Common.{arith, length, ◌<◌}
use Rattle.std.proofs.lemmas.List.Elements.{All-nil}
use Rattle.pat_nodes.specs.declared.frames.Atom.TheVariants.{Single}
use Rattle.pat_nodes.proofs.Extending.{extends_none}
use Rattle.pat_build.proofs.Taking.{atom_means}
use Rattle.pat_build.proofs.machine.Machine.single.Goals as goal

pub returns : goal.returns
returns c =
    let m = c.args.self.now in
    let ready = c.requires.ready.1 in
    atom_means m ready.means c.requires.ready.0 c.args.after c.args.after m.quoting (Single c.args.item m.at) m.draft
    ready (omega arith) ready.there.within
    (extends_none m.draft ready.means.refs_are)
    (rw (c.requires.classless) (All-nil (λ n. n < length m.draft.classes))) c.requires.ready.2
