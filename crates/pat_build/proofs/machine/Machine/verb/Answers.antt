use Rattle.std.proofs.Common.{refl}
use Rattle.pat_grammar.specs.Parts.{verbs}
use Rattle.pat_build.proofs.machine.Machine.verb.Goals as goal

pub begin_verb-requires : goal.begin_verb-requires
unfolding verbs
begin_verb-requires c = record { ready = (c.args.from, c.args.to, c.requires, λ n h. refl) }
