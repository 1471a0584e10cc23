use Rattle.std.proofs.Common.{refl}
use Rattle.token_parts.specs.declared.token.Token.TheVariants.{Open}
use Rattle.token_parts.specs.declared.token.OpenKind.TheVariants.{Look}
use Rattle.pat_build.proofs.machine.Machine.look.Goals as goal

pub plain_group-requires-clause-ready : goal.plain_group-requires-clause-ready
plain_group-requires-clause-ready c = (Open (Look c.args.ahead c.args.positive c.args.atomic), c.requires, λ n h. refl)
